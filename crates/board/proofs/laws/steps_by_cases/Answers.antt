use Rattle.board.proofs.Effects.{step_of, effect_steps}
use Rattle.board.proofs.laws.steps_by_cases.Goals as goal

pub returns-clause-step : goal.returns-clause-step
returns-clause-step c = step_of

pub returns-clause-effect : goal.returns-clause-effect
returns-clause-effect c = effect_steps
