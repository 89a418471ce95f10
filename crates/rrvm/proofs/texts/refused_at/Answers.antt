use Rattle.std.proofs.Common.{rules, append_assoc}
use Rattle.rrvm.proofs.texts.refused_at.Goals as goal

pub returns : goal.returns
returns c = search (rules, append_assoc)
