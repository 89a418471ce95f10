use Rattle.log_order.proofs.EndKinds.{ending-kind}
use Rattle.log_order.proofs.laws.end_is_spelled.Goals as goal

pub returns : goal.returns
returns c = ending-kind
