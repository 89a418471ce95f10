use Rattle.log_order.proofs.Recorded.{recorded-whole, recorded-comes}
use Rattle.log_order.proofs.laws.recorded_is_accepted.Goals as goal

pub returns-clause-whole : goal.returns-clause-whole
returns-clause-whole c = recorded-whole

pub returns-clause-judged : goal.returns-clause-judged
returns-clause-judged c = recorded-comes
