-- What the CLINT of one hart holds, and when its interrupts are pending.
use Rattle.std.specs.Prelude.{ℕ, Bool, false, ◌≡◌, ◌<◌, ◌+◌, ◌*◌, ◌-◌, ◌/◌, ◌^◌, ◌&&◌, nat_le, nat_lt, Option, Some, None, if◌then◌else◌}

-- the software interrupt's bit, and the time from which the timer's is pending
pub record Timer : Type 0 where
  pub msip : Bool
  pub mtimecmp : ℕ

-- at reset no software interrupt is pending, and the timer's lies as far ahead as can be
abbrev pub reset : Timer
reset = record { msip = false; mtimecmp = 2 ^ 64 - 1 }

-- the time: the ticks of 100 nanoseconds that are wholly over
abbrev pub mtime : ℕ → ℕ
mtime clock = clock / 100

-- the timer interrupt is pending where the time has come to mtimecmp
-- (Privileged ISA, Machine Timer Registers)
abbrev pub is_due : Timer → ℕ → Bool
is_due t clock = nat_le t.mtimecmp (mtime clock)

-- the clock of mtimecmp, where that is ahead and at most 2 ^ 56
abbrev pub deadline : Timer → ℕ → Option ℕ
deadline t clock =
    if nat_lt (mtime clock) t.mtimecmp && nat_le t.mtimecmp (2 ^ 56) then Some (t.mtimecmp * 100)
    else None

-- for so many nanoseconds the timer interrupt stays as it is
abbrev pub StaysFor : Timer → ℕ → ℕ → Type 0
StaysFor t clock span = (later : ℕ) → later < span → is_due t (clock + later) ≡ is_due t clock
