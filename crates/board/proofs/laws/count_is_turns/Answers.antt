use Rattle.board.proofs.ClockLaws.{run-counts}
use Rattle.board.proofs.laws.count_is_turns.Goals as goal

pub returns : goal.returns
returns c = run-counts
