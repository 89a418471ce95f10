-- What is due, and what the clock adds to it.
use Rattle.std.proofs.Common.{◌≡◌, ℕ, Bool, true, false, refl, arith}
use Rattle.std.specs.Prelude.{Option, ◌==◌}
use Rattle.board.specs.declared.control.Control.{Control}
use Rattle.board.specs.declared.due.Due.{Due}
use Rattle.board.specs.declared.due.Due.TheVariants as due_is
use Rattle.board.specs.Due.{due_by}
use Rattle.board.specs.Runs.{is_run}

module _ (c : Control) (n : ℕ) where
  pub blocked : (code : Option ℕ) (f i k : Bool) → is_run (due_by c n code f i false) ≡ false → is_run (due_by c n code f i k) ≡ false
  blocked code f i k h = grind arith

  pub needing : (code : Option ℕ) (f i : Bool) → is_run (due_by c n code f i true) ≡ false
  needing code f i = grind arith

  pub run_count : (code : Option ℕ) (f i k : Bool) → is_run (due_by c n code f i k) ≡ true → (n == c.budget) ≡ false
  run_count code f i k h = grind arith

  pub run_since : (code : Option ℕ) (f i k : Bool) → is_run (due_by c n code f i k) ≡ true → (c.since == c.slice) ≡ false
  run_since code f i k h = grind arith

pub is_run_run : (d : Due) → is_run d ≡ true → d ≡ due_is.Run
is_run_run due_is.Run h = refl
is_run_run due_is.Exception h = grind arith
is_run_run (due_is.End _ _) h = grind arith
is_run_run due_is.Idle h = grind arith
is_run_run due_is.Slice h = grind arith
is_run_run due_is.Interrupt h = grind arith
is_run_run due_is.Clock h = grind arith
is_run_run due_is.Wait h = grind arith
is_run_run due_is.Nothing h = grind arith

pub run_is_run : (d : Due) → d ≡ due_is.Run → is_run d ≡ true
run_is_run d h = rw h refl

pub ruleset deciding = (blocked, needing, run_count, run_since, is_run_run)
