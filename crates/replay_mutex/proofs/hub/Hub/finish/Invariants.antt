use Rattle.replay_mutex.specs.Shown.{knows}
use Rattle.replay_mutex.proofs.Closings.{Closing}
use Rattle.replay_mutex.proofs.hub.Hub.finish.Given as goal

-- each pass is left or was taken in
abbrev pub invariant-loop-pass : goal.invariant-loop-pass
invariant-loop-pass l = Closing l.board.shared.table_id l.fn.others.items (knows l.fn.first) l.left.items l.seat.table_id l.seat.me

abbrev pub decreases-loop-pass : goal.decreases-loop-pass
decreases-loop-pass l = goal.left-loop-pass l
