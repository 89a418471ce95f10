use Rattle.ram_pages.proofs.Rewritten.{there, elsewhere, keeps-length}
use Rattle.ram_pages.proofs.laws.reads_what_was_written.Goals as goal

pub returns-clause-there : goal.returns-clause-there
returns-clause-there c = there

pub returns-clause-elsewhere : goal.returns-clause-elsewhere
returns-clause-elsewhere c = elsewhere

pub returns-clause-length : goal.returns-clause-length
returns-clause-length c = keeps-length
