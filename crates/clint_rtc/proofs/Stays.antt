-- Until when the timer interrupt stays as it is.
use Rattle.std.proofs.Common.{◌≡◌, ◌≤◌, ◌<◌, ◌+◌, ◌-◌, ◌*◌, ◌/◌, ◌^◌, ℕ, true, false, nat_le, min, ◌∙◌, sym, arith}
use Rattle.clint_rtc.specs.Clint.{Timer, is_due}

le-true : (a b : ℕ) → a ≤ b → nat_le a b ≡ true
le-true a b h = grind arith

le-false : (a b : ℕ) → b < a → nat_le a b ≡ false
le-false a b h = grind arith

true-le : (a b : ℕ) → nat_le a b ≡ true → a ≤ b
true-le a b h = grind arith

stays-due : (t : Timer) (clock later : ℕ) → is_due t clock ≡ true → is_due t (clock + later) ≡ true
stays-due t clock later e = let le = true-le t.mtimecmp (clock / 100) e in le-true t.mtimecmp ((clock + later) / 100) (omega arith)

pub due_stays : (t : Timer) (clock : ℕ) → is_due t clock ≡ true → (later : ℕ) → is_due t (clock + later) ≡ is_due t clock
due_stays t clock e later = stays-due t clock later e ∙ sym e

pub ahead_stays : (t : Timer) (clock span later : ℕ) → is_due t clock ≡ false → later < span → clock + span ≤ t.mtimecmp * 100 → is_due t (clock + later) ≡ is_due t clock
ahead_stays t clock span later e w h = le-false t.mtimecmp ((clock + later) / 100) (omega arith) ∙ sym e

pub ruleset stays = (due_stays, ahead_stays)
