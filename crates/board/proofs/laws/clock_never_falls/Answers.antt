use Rattle.board.proofs.ClockLaws.{turn-before, run-before, at-steps}
use Rattle.board.proofs.laws.clock_never_falls.Goals as goal

pub returns-clause-turn : goal.returns-clause-turn
returns-clause-turn c = turn-before

pub returns-clause-run : goal.returns-clause-run
returns-clause-run c = run-before

pub returns-clause-states : goal.returns-clause-states
returns-clause-states c = at-steps
