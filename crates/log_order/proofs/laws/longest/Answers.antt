use Rattle.log_order.proofs.Verdicts.{longest-refused, longest-whole}
use Rattle.log_order.proofs.laws.longest.Goals as goal

pub returns-clause-refused : goal.returns-clause-refused
returns-clause-refused c = longest-refused

pub returns-clause-whole : goal.returns-clause-whole
returns-clause-whole c = longest-whole
