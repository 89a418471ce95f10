-- The walk over a recorded run, as contracts see it.
use Rattle.std.specs.Prelude.{ℕ}
use Rattle.reverse_seek.specs.Script.{Script}

-- the accepted part of a log, and the count of turns at which one stands in it
pub record Walk : Type 0 where
  pub script : Script
  pub at : ℕ
