use Rattle.board.proofs.LineLaws.{reset-shows, turn-shows, run-shows, at-shows}
use Rattle.board.proofs.laws.levels_are_the_lines.Goals as goal

pub returns-clause-start : goal.returns-clause-start
returns-clause-start c = reset-shows

pub returns-clause-turn : goal.returns-clause-turn
returns-clause-turn c = turn-shows

pub returns-clause-run : goal.returns-clause-run
returns-clause-run c = run-shows

pub returns-clause-states : goal.returns-clause-states
returns-clause-states c = at-shows
