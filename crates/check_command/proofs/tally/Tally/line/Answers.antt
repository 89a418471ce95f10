use Rattle.std.proofs.Common.{rules, append_assoc}
use Rattle.check_command.proofs.tally.Tally.line.Goals as goal

pub returns : goal.returns
returns c = search (rules, append_assoc)
