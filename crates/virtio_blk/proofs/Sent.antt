-- What a write gives the disk.
use Rattle.std.proofs.Common.{◌≡◌, ◌<◌, ◌+◌, ◌/◌, ◌%◌, ℕ, List, length, take, refl, arith, sym, ap, ◌∙◌, Option, cond, Bool, true, false, ◌&&◌, nat_le, nat_eq, inl, inr}
use Rattle.std.proofs.lemmas.Bool.{cases_lt}
use Rattle.std.proofs.lemmas.Bool.Decides.{nat_tests}
use Rattle.std.proofs.lemmas.List.{take_all, length-take}
use Rattle.overlay_disk.specs.Sectors.{with_sectors}
use Rattle.virtio_blk.specs.Requests.{is_well_formed}

and_false : (a b : Bool) → (a && false && b) ≡ false
and_false true b = refl
and_false false b = refl

-- too many bytes are no well-formed write
too_long : (n sector sectors : ℕ) → 1048576 < n → is_well_formed n sector sectors ≡ false
too_long n sector sectors long =
    let t : nat_le n 1048576 ≡ false = grind (arith, nat_tests) in
    ap (λ b. nat_eq (n % 512) 0 && b && nat_le (sector + n / 512) sectors) t ∙ and_false (nat_eq (n % 512) 0) (nat_le (sector + n / 512) sectors)

-- a write of the first bytes, one more than a write may have, is the write of all
pub write_of_first : (sectors : ℕ → Option (List ℕ)) (count sector : ℕ) (sent : List ℕ)
    → cond (is_well_formed (length (take 1048577 sent)) sector count) (with_sectors sectors sector (take 1048577 sent)) sectors
    ≡ cond (is_well_formed (length sent) sector count) (with_sectors sectors sector sent) sectors
write_of_first sectors count sector sent =
    elim (cases_lt 1048577 (length sent)) [
      | inl long ↦
          let n : 1048577 ≡ length (take 1048577 sent) = omega (arith, length-take 1048577 sent) in
          ap (λ b. cond b (with_sectors sectors sector (take 1048577 sent)) sectors) (too_long (length (take 1048577 sent)) sector count (omega arith))
          ∙ sym (ap (λ b. cond b (with_sectors sectors sector sent) sectors) (too_long (length sent) sector count (omega arith)))
      | inr short ↦ ap (λ s. cond (is_well_formed (length s) sector count) (with_sectors sectors sector s) sectors) (take_all 1048577 sent short)
    ]
