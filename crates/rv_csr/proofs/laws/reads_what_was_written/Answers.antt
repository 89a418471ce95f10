use Rattle.rv_csr.proofs.Written.{as_written}
use Rattle.rv_csr.proofs.laws.reads_what_was_written.Goals as goal

pub returns : goal.returns
returns c = as_written
