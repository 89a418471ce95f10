-- Bounds of the counts, and of what can be due.
use Rattle.std.specs.Prelude.{◌≡◌, ◌≤◌, ◌<◌, ◌^◌, ℕ, Bool, true, IsSome}
use Rattle.board.specs.declared.control.Control.{Control}
use Rattle.board.specs.declared.due.Due.{Due}
use Rattle.board.specs.declared.due.Due.TheVariants as due_is
use Rattle.system_bus.specs.Time.{Time}

-- the counts keep within their bounds
pub record Counts (c : Control) (t : Time) : Type 0 where
  pub budget : c.budget ≤ 2 ^ 40
  pub slice : c.slice ≤ 65536
  pub some : 1 ≤ c.slice
  pub since : c.since ≤ c.slice
  pub count : t.count ≤ c.budget

-- what can be due, while the run goes on
abbrev pub IsDue : Control → Bool → Due → Type 0
IsDue c in_flight due_is.Nothing = IsSome c.ended
IsDue c in_flight due_is.Wait = in_flight ≡ true
IsDue c in_flight (due_is.End reason code) =
    (reason ≤ 2) × (code < 2 ^ 32) × (1 ≤ reason → code ≡ 0)
IsDue c in_flight due = Unit {0}
