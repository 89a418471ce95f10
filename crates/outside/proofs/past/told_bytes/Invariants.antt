use Rattle.std.proofs.Common.{◌≡◌, ◌≤◌, length, drop}
use Rattle.outside.proofs.past.told_bytes.Given as goal

-- the bytes from `at` on
abbrev pub invariant-loop-at : goal.invariant-loop-at
invariant-loop-at l = record { within : l.at ≤ length l.bytes; told : l.told ≡ drop l.at l.bytes }

abbrev pub decreases-loop-at : goal.decreases-loop-at
decreases-loop-at l = l.at
