use Rattle.command_line.proofs.IcountLemmas.{icount_sound, icount_complete}
use Rattle.command_line.proofs.laws.icount_law.Goals as goal

pub returns-clause-sound : goal.returns-clause-sound
returns-clause-sound c = icount_sound

pub returns-clause-complete : goal.returns-clause-complete
returns-clause-complete c = icount_complete
