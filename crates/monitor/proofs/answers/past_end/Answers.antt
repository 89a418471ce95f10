use Rattle.std.proofs.Common.{rules, append_assoc}
use Rattle.monitor.proofs.answers.past_end.Goals as goal

pub returns : goal.returns
returns c = search (rules, append_assoc)
