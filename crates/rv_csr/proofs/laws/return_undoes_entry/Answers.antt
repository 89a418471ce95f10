use Rattle.std.proofs.Common.{refl}
use Rattle.rv_csr.proofs.laws.return_undoes_entry.Goals as goal

pub returns : goal.returns
returns c = λ before mode pc cause value. (refl, refl)
