-- The host's clock: a read of the low word takes a value and latches it for the high word.
use Rattle.std.specs.Prelude.{ℕ, ◌==◌, Option, Some, None, Result, Ok, Err, ◌≡◌, if◌then◌else◌}
use Rattle.clint_rtc.specs.declared.rtc.NeedClock.{NeedClock}
use Rattle.clint_rtc.specs.Words.{low_half, high_half}

-- the value that was given and not yet read, and the one that was read last
pub record Latch : Type 0 where
  pub in_hand : Option ℕ
  pub latched : ℕ

-- at reset no value is in hand, and 0 was read last
abbrev pub nothing_latched : Latch
nothing_latched = record { in_hand = None; latched = 0 }

-- the value in hand is latched, and its low half is the answer
abbrev pub take : Latch → Option ℕ → Option (ℕ × Latch)
take l (Some value) = Some (low_half value, record { in_hand = None; latched = value })
take l None = None

-- the word at an offset and what is latched then: nothing at the low word where none is in hand
abbrev pub read : Latch → ℕ → Option (ℕ × Latch)
read l off =
    if off == 0 then take l l.in_hand
    else if off == 4 then Some (high_half l.latched, l)
    else Some (0, l)

-- the answer is the word that was read, or that a value is needed, and then nothing changed
abbrev pub Reads : Option (ℕ × Latch) → Latch → Result ℕ NeedClock → Latch → Type 0
Reads found old (Ok word) new = found ≡ Some (word, new)
Reads found old (Err _) new = (found ≡ None) × (new ≡ old)
