use Rattle.log_order.proofs.Verdicts.{whole-right, one-wrong}
use Rattle.log_order.proofs.laws.one_verdict.Goals as goal

pub returns-clause-whole : goal.returns-clause-whole
returns-clause-whole c = whole-right

pub returns-clause-one : goal.returns-clause-one
returns-clause-one c = one-wrong
