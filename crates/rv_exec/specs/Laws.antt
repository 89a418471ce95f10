-- Laws of division and multiplication in the words of the instruction set (Unprivileged ISA, 7.1
-- Multiplication Operations and 7.2 Division Operations).
use Rattle.std.specs.Prelude.{ℕ, ◌≡◌, ◌≢◌, ◌<◌, ◌^◌, ℤ, pos, negsuc, neg_ℤ, ◌-◌, ◌+ℤ◌, ◌*ℤ◌, unsigned_abs}
use Rattle.std.specs.Int.{IsNonNegative}
use Rattle.rv_exec.specs.declared.done.Done.{Done}
use Rattle.rv_exec.specs.declared.done.Done.TheVariants.{Retired, Trap, NeedClock, NoMemory}

-- r has the sign of a, or is 0
abbrev pub HasSignOf : ℤ → ℤ → Type 0
HasSignOf r (pos n) = IsNonNegative r
HasSignOf r (negsuc n) = IsNonNegative (neg_ℤ r)

-- q and r are what a signed division of a by b gives: by 0, at the one overflow, and else, where
-- a = q * b + r, r is smaller than b, and r has the sign of a
pub record DividesSigned (a b q r : ℤ) : Type 0 where
  pub by_zero : b ≡ pos 0 → (q ≡ negsuc 0) × (r ≡ a)
  pub overflow : a ≡ negsuc (2 ^ 31 - 1) → b ≡ negsuc 0 → (q ≡ a) × (r ≡ pos 0)
  pub identity : b ≢ pos 0 → (a ≡ negsuc (2 ^ 31 - 1) → b ≢ negsuc 0)
      → q *ℤ b +ℤ r ≡ a
  pub smaller : b ≢ pos 0 → unsigned_abs r < unsigned_abs b
  pub sign : HasSignOf r a

-- the halves make the whole product of 64 bits: the high one counts with its sign, the low one
-- without
pub record IsProduct (a b high : ℤ) (low : ℕ) : Type 0 where
  pub whole : high *ℤ pos (2 ^ 32) +ℤ pos low ≡ a *ℤ b
  pub below : low < 2 ^ 32

-- a fact of each answer but that the instruction retired
abbrev pub UnlessRetired : Done → Type 0 → Type 0
UnlessRetired (Retired idle) P = Unit {0}
UnlessRetired (Trap cause value) P = P
UnlessRetired NeedClock P = P
UnlessRetired NoMemory P = P
