-- What contracts see of a file that is read at any place.
use Rattle.std.specs.Prelude.{ℕ}

-- its length, and how often it failed
pub record Extent : Type 0 where
  pub size : ℕ
  pub faults : ℕ
