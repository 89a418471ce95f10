use Rattle.std.proofs.Common.{◌≡◌}
use Rattle.replay_mutex.specs.Row.{has_below}
use Rattle.replay_mutex.proofs.close.has_below.Given as goal

-- the numbers that are left decide
abbrev pub invariant-loop-left : goal.invariant-loop-left
invariant-loop-left l = has_below l.count l.passes ≡ has_below l.left l.passes

abbrev pub decreases-loop-left : goal.decreases-loop-left
decreases-loop-left l = l.left
