use Rattle.event_list.proofs.Fronts.{longest-whole, longest-refused, longest-limit, one-front}
use Rattle.event_list.proofs.laws.longest.Goals as goal

pub returns-clause-whole : goal.returns-clause-whole
returns-clause-whole c = longest-whole

pub returns-clause-refused : goal.returns-clause-refused
returns-clause-refused c = longest-refused

pub returns-clause-limit : goal.returns-clause-limit
returns-clause-limit c = longest-limit

pub returns-clause-fronts : goal.returns-clause-fronts
returns-clause-fronts c = one-front
