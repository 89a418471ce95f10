-- At most one row matches.
use Rattle.std.proofs.Common.{◌≡◌, ℕ, ◌≤◌, Bool, true, false, List, [], ◌∷◌, length, refl, inl, inr, arith}
use Rattle.std.specs.Prelude.{◌&&◌, not, filter}
use Rattle.std.specs.List.{list_all}
use Rattle.std.proofs.lemmas.Bool.{eqb-true, cases_Bool, both_ways, and_parts, false_from_ne_true}
use Rattle.rv_decode.specs.Table.{Row, fits, table}
use Rattle.rv_decode.proofs.Narrow.{agrees, fits_agrees}

-- no word has both
abbrev pub apart : Row → Row → Bool
apart r s = not (agrees r.mask r.bits s)

abbrev pub pairwise : List Row → Bool
pairwise [] = true
pairwise (r ∷ rs) = list_all (apart r) rs && pairwise rs

pub not_true : (b : Bool) → not b ≡ true → b ≡ false
not_true true e = absurd cc
not_true false e = refl

none_beside : (w : ℕ) (r : Row) (rs : List Row) → fits w r ≡ true → list_all (apart r) rs ≡ true → filter (fits w) rs ≡ []
none_beside w r [] fit all = refl
none_beside w r (s ∷ rs) fit all =
    let p = and_parts (apart r s) (list_all (apart r) rs) all in
    let off : fits w s ≡ false = false_from_ne_true (fits w s) (λ f. both_ways (agrees r.mask r.bits s) (not_true (agrees r.mask r.bits s) p.0) (fits_agrees w r.mask r.bits s (eqb-true _ _ fit) f)) in
    rw off (none_beside w r rs fit p.1)

at_most : (w : ℕ) (rs : List Row) → pairwise rs ≡ true → length (filter (fits w) rs) ≤ 1
at_most w [] h = omega arith
at_most w (r ∷ rs) h =
    let p = and_parts (list_all (apart r) rs) (pairwise rs) h in
    elim (cases_Bool (fits w r)) [
      | inl fit ↦ rw fit (rw (none_beside w r rs fit p.0) (omega arith))
      | inr off ↦ rw off (at_most w rs p.1)
    ]

pub one_row : (w : ℕ) → length (filter (fits w) table) ≤ 1
one_row w = at_most w table refl
