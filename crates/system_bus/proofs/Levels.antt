-- Setting the levels leaves all but the PLIC as it is, and setting them again changes nothing.
use Rattle.std.proofs.Common.{◌≡◌, ◌^◌, ℕ, Bool, true, false, cond, refl, ap, ◌∙◌, arith}
use Rattle.std.specs.Prelude.{◌&&◌}
use Rattle.std.specs.Int.{bit_not, w32}
use Rattle.std.specs.Int.Bits.{and_self}
use Rattle.std.specs.Int.RustNames.{bit_and, bit_or}
use Rattle.std.proofs.lemmas.Nat.{and_assoc}
use Rattle.std.proofs.lemmas.Nat.Bits.{bit_at_or, same_from_bits}
use Rattle.plic_gate.specs.Bits.{has, with_bit}
use Rattle.plic_gate.specs.Gateway.{Gates, is_open, bit_set_to, with_level}
use Rattle.plic_gate.proofs.Words.{set_same}
use Rattle.system_bus.specs.declared.devices.Devices.{Devices}
use Rattle.system_bus.specs.Lines.{levels}

pub levels_time : (d : Devices) → (levels d).time ≡ d.time
unfolding levels
levels_time d = refl

set-twice : (b : Bool) (w s : ℕ) → bit_set_to b (bit_set_to b w s) s ≡ bit_set_to b w s
set-twice true w s = same_from_bits _ _ (λ i. rw (bit_at_or (bit_or w (2 ^ s)) (2 ^ s) i, bit_at_or w (2 ^ s) i) (grind arith))
set-twice false w s =
    and_assoc (bit_not w32 (2 ^ s)) w (bit_not w32 (2 ^ s)) ∙ ap (λ z. bit_and w z) (and_self (bit_not w32 (2 ^ s)))

twice-by : (g : Gates) (s : ℕ) (b : Bool) → bit_set_to b g.level s ≡ g.level → (c : Bool) → (has g.level s && is_open g s) ≡ c
    → with_level (cond c (record g { pending = with_bit g.pending s }) g) s b ≡ cond c (record g { pending = with_bit g.pending s }) g
twice-by g s b l true e = rw l (rw (set_same g.pending s) (grind arith))
twice-by g s b l false e = rw l (rw e refl)

pub level_twice : (g : Gates) (s : ℕ) (b : Bool) → with_level (with_level g s b) s b ≡ with_level g s b
level_twice g s b = twice-by (record g { level = bit_set_to b g.level s }) s b (set-twice b g.level s) (has (bit_set_to b g.level s) s && is_open g s) refl
