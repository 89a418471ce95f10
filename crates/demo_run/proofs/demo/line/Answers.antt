use Rattle.std.proofs.Common.{rules, append_assoc}
use Rattle.demo_run.proofs.demo.line.Goals as goal

pub returns : goal.returns
returns c = search (rules, append_assoc)
