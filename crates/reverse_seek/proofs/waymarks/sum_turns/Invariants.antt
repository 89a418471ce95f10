use Rattle.std.proofs.Common.{◌≤◌, ◌-◌, length}
use Rattle.reverse_seek.proofs.waymarks.sum_turns.Given as goal

abbrev pub invariant-loop-event : goal.invariant-loop-event
invariant-loop-event l = record { within : l.place ≤ length l.log }

abbrev pub decreases-loop-event : goal.decreases-loop-event
decreases-loop-event l = length l.log - l.place
