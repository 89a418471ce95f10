-- Register 0 that is set to 0 after a write.
use Rattle.std.proofs.Common.{◌≡◌, ℕ, zero, suc, List, [], ◌∷◌, slice_index, slice_set, refl, sym, ap, arith}
use Rattle.rv_exec.specs.Registers.{with_register}

other-register : (x : List ℕ) (n value : ℕ) → slice_index x 0 ≡ 0 → slice_set (slice_set x (suc n) value) 0 0 ≡ slice_set x (suc n) value
other-register [] n value e = refl
other-register (y ∷ x) n value e = ap (λ z. z ∷ slice_set x n value) (sym e)

pub zeroed : (x : List ℕ) (n value : ℕ) → slice_index x 0 ≡ 0 → slice_set (slice_set x n value) 0 0 ≡ with_register x n value
zeroed [] zero value e = refl
zeroed (y ∷ x) zero value e = ap (λ z. z ∷ x) (sym e)
zeroed x (suc n) value e =
    let other = other-register x n value e in grind (arith, other)
