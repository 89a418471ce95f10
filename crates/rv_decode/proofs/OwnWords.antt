-- Each row's own word decodes to it.
use Rattle.std.proofs.Common.{◌≡◌, ◌<◌, ◌⊎◌, ℕ, zero, suc, ◌*◌, ◌+◌, ◌-◌, ◌^◌, ◌/◌, ◌%◌, Bool, true, false, List, [], ◌∷◌, length, Some, refl, sym, ◌∙◌, ap, subst, inl, inr, arith, ℤ, pos, negsuc}
use Rattle.std.specs.Prelude.{◌&&◌, ◌||◌, ◌==◌, not, bit_and, nat_lt, slice_index_or, All, if◌then◌else◌}
use Rattle.std.specs.List.{find, list_all}
use Rattle.std.proofs.lemmas.Bool.{eqb-true, cases_Bool, both_ways, and_parts, false_from_ne_true}
use Rattle.std.proofs.lemmas.Bool.Decides.{nat_tests}
use Rattle.std.proofs.lemmas.List.Sums.{AllPass-from_list_all}
use Rattle.std.specs.Option.{option_map}
use Rattle.rv_decode.specs.declared.op.Op.{Op}
use Rattle.rv_decode.specs.declared.format.Format.{Format}
use Rattle.rv_decode.specs.declared.format.Format.TheVariants.{R, I, S, B, U, J, Shift, Csr, CsrImmediate, Plain}
use Rattle.rv_decode.specs.Table.{Row, fits, table, row_of}
use Rattle.rv_decode.specs.Fields.{decoded, field, fields, signed}
use Rattle.rv_decode.specs.Laws.{complement, HasRoom, placed, placed_above, placed_high, branch_high, branch_low, jump_bits, ins, DecodesItsWords}
use Rattle.rv_decode.proofs.Narrow.{agrees, fits_agrees}
use Rattle.rv_decode.proofs.OneRow.{apart, pairwise, not_true}
use Rattle.rv_decode.proofs.Places.{six, HasPlaces, has-places, fit-opcode, fit-funct3, fit-funct7, fit-funct5, fit-reserve}

-- ---- a row that fits is the row of the word

finds : (w : ℕ) (rs : List Row) (k : ℕ) (d : Row) → k < length rs → pairwise rs ≡ true → fits w (slice_index_or rs k d) ≡ true
    → find (fits w) rs ≡ Some (slice_index_or rs k d)
finds w [] k d below all fit = absurd (omega arith)
finds w (r ∷ rs) zero d below all fit = let here : fits w r ≡ true = fit in rw here refl
finds w (r ∷ rs) (suc k) d below all fit =
    let parts = and_parts (list_all (apart r) rs) (pairwise rs) all in
    let within : k < length rs = omega arith in
    let off : fits w r ≡ false = false_from_ne_true (fits w r) (λ f.
    both_ways (agrees r.mask r.bits (slice_index_or rs k d))
    (not_true _ (AllPass-from_list_all (apart r) rs parts.0 k d within))
    (fits_agrees w r.mask r.bits (slice_index_or rs k d) (eqb-true _ _ f) fit)) in
    rw off (finds w rs k d within parts.1 fit)

-- what a word that fits the row decodes to
abbrev pub Own : Row → Type 0
Own row = (w : ℕ) → fits w row ≡ true → decoded w ≡ Some (fields row.op row.format w)

pub own : (k : ℕ) (d : Row) → k < length table → Own (slice_index_or table k d)
unfolding decoded row_of
own k d below w fit = ap (λ x. option_map (λ row. fields row.op row.format w) x) (finds w table k d below refl fit)

-- ---- what is so of each row of the table

abbrev is_sum : Row → Bool
is_sum row = row.bits == row.bits % 2 ^ 7 + field row.bits 12 3 * 2 ^ 12 + field row.bits 25 7 * 2 ^ 25

abbrev of_five : ℕ → Row → Bool
of_five mask row = (row.mask == mask) && (field row.bits 25 7 % 4 == 0)

abbrev masked : Format → Row → Bool
masked R row = is_sum row && ((row.mask == 0xfe00707f) || (of_five 0xf800707f row || of_five 0xf9f0707f row))
masked Shift row = is_sum row && (row.mask == 0xfe00707f)
masked U row = is_sum row && ((row.mask == 0x7f) && ((field row.bits 12 3 == 0) && (field row.bits 25 7 == 0)))
masked J row = is_sum row && ((row.mask == 0x7f) && ((field row.bits 12 3 == 0) && (field row.bits 25 7 == 0)))
masked Plain row = bit_and row.bits row.mask == row.bits
masked format row = is_sum row && ((row.mask == 0x707f) && (field row.bits 25 7 == 0))

pub all_good : (k : ℕ) (d : Row) → k < length table → masked (slice_index_or table k d).format (slice_index_or table k d) ≡ true
all_good k d below = AllPass-from_list_all (λ row. masked row.format row) table refl k d below

-- ---- immediates

below-12 : (imm : ℤ) → HasRoom 12 imm → complement 12 imm < 2 ^ 12
below-12 (pos n) room = omega arith
below-12 (negsuc n) room = omega arith

below-13 : (imm : ℤ) → HasRoom 13 imm → complement 13 imm < 2 ^ 13
below-13 (pos n) room = omega arith
below-13 (negsuc n) room = omega arith

below-21 : (imm : ℤ) → HasRoom 21 imm → complement 21 imm < 2 ^ 21
below-21 (pos n) room = omega arith
below-21 (negsuc n) room = omega arith

below-32 : (imm : ℤ) → HasRoom 32 imm → complement 32 imm < 2 ^ 32
below-32 (pos n) room = omega arith
below-32 (negsuc n) room = omega arith

signed-12 : (imm : ℤ) → HasRoom 12 imm → signed 12 (complement 12 imm) ≡ imm
signed-12 (pos n) room = grind (arith, nat_tests)
signed-12 (negsuc n) room = grind (arith, nat_tests)

signed-13 : (imm : ℤ) → HasRoom 13 imm → signed 13 (complement 13 imm) ≡ imm
signed-13 (pos n) room = grind (arith, nat_tests)
signed-13 (negsuc n) room = grind (arith, nat_tests)

signed-21 : (imm : ℤ) → HasRoom 21 imm → signed 21 (complement 21 imm) ≡ imm
signed-21 (pos n) room = grind (arith, nat_tests)
signed-21 (negsuc n) room = grind (arith, nat_tests)

signed-32 : (imm : ℤ) → HasRoom 32 imm → signed 32 (complement 32 imm) ≡ imm
signed-32 (pos n) room = grind (arith, nat_tests)
signed-32 (negsuc n) room = grind (arith, nat_tests)

same-ins : (op : Op) (d d' a a' b b' : ℕ) (i i' : ℤ) (c c' : ℕ) → d ≡ d' → a ≡ a' → b ≡ b' → i ≡ i' → c ≡ c'
    → Some (ins op d a b i c) ≡ Some (ins op d' a' b' i' c')
same-ins op d d' a a' b b' i i' c c' ed ea eb ei ec =
    ap (λ x. Some (ins op x a b i c)) ed
    ∙ ap (λ x. Some (ins op d' x b i c)) ea
    ∙ ap (λ x. Some (ins op d' a' x i c)) eb
    ∙ ap (λ x. Some (ins op d' a' b' x c)) ei
    ∙ ap (λ x. Some (ins op d' a' b' i' x)) ec

-- ---- the row's bits as sums

abbrev Sums : ℕ → ℕ → ℕ → ℕ → Type 0
Sums v o f g = v ≡ o + f * 2 ^ 12 + g * 2 ^ 25

as-six : (v o f g d a b t : ℕ) → Sums v o f g → v + d * 2 ^ 7 + a * 2 ^ 15 + b * 2 ^ 20 + t * 2 ^ 25 ≡ six o d f a b (g + t)
as-six v o f g d a b t e = omega arith

above-six : (v o f g d x : ℕ) → Sums v o f g → f ≡ 0 → g ≡ 0 → v + d * 2 ^ 7 + x * 2 ^ 12 ≡ six o d (x % 8) (x / 8 % 32) (x / 256 % 32) (x / 8192)
above-six v o f g d x e zf zg = omega arith

bits-7 : (v o f g : ℕ) → Sums v o f g → v ≡ (g + 0) * 2 ^ 25 + (f * 2 ^ 12 + o)
bits-7 v o f g e = omega arith

bits-5 : (v o f g : ℕ) → Sums v o f g → g % 4 ≡ 0 → v ≡ (g + 0) / 4 * 2 ^ 27 + (f * 2 ^ 12 + o)
bits-5 v o f g e four = omega arith

bits-reserve : (v o f g b : ℕ) → Sums v o f g → g % 4 ≡ 0 → b ≡ 0 → v ≡ (g + 0) / 4 * 2 ^ 27 + (b * 2 ^ 20 + (f * 2 ^ 12 + o))
bits-reserve v o f g b e four none = omega arith

bits-3 : (v o f g : ℕ) → Sums v o f g → g ≡ 0 → v ≡ f * 2 ^ 12 + o
bits-3 v o f g e zg = omega arith

bits-1 : (v o f g : ℕ) → Sums v o f g → f ≡ 0 → g ≡ 0 → v ≡ o
bits-1 v o f g e zf zg = omega arith

either : (x y : Bool) → (x || y) ≡ true → (x ≡ true) ⊎ (y ≡ true)
either true y h = inl refl
either false y h = inr h

-- the word with these in its places, and g where funct7 is
abbrev Placed : Row → ℕ → ℕ → ℕ → ℕ → ℕ → Type 0
Placed row d a b t g = HasPlaces (placed row d a b t) (row.bits % 2 ^ 7) d (field row.bits 12 3) a b g

places-of : (row : Row) (d a b t : ℕ) → is_sum row ≡ true → d < 32 → a < 32 → b < 32 → field row.bits 25 7 + t < 128
    → Placed row d a b t (field row.bits 25 7 + t)
places-of row d a b t sum hd ha hb ht =
    has-places (placed row d a b t) (row.bits % 2 ^ 7) d (field row.bits 12 3) a b (field row.bits 25 7 + t)
    (as-six row.bits (row.bits % 2 ^ 7) (field row.bits 12 3) (field row.bits 25 7) d a b t (eqb-true _ _ sum))
    (omega arith) hd (omega arith) ha hb ht

-- ---- rows by the opcode and funct3: all above rs2 is free

abbrev Wide : Row → Type 0
Wide row = (is_sum row && ((row.mask == 0x707f) && (field row.bits 25 7 == 0))) ≡ true

no-funct7 : (row : Row) → Wide row → field row.bits 25 7 ≡ 0
no-funct7 row m = eqb-true _ _ (and_parts (row.mask == 0x707f) _ (and_parts (is_sum row) _ m).1).1

nothing-more : (x t : ℕ) → x ≡ 0 → x + t ≡ t
nothing-more x t e = omega arith

wide-places : (row : Row) (d a b t : ℕ) → Wide row → d < 32 → a < 32 → b < 32 → t < 128 → Placed row d a b t t
wide-places row d a b t m hd ha hb ht =
    let same : field row.bits 25 7 + t ≡ t = nothing-more (field row.bits 25 7) t (no-funct7 row m) in
    subst (λ x. Placed row d a b t x) same
    (places-of row d a b t (and_parts (is_sum row) _ m).0 hd ha hb (subst (λ x. x < 128) (sym same) ht))

wide-fits : (row : Row) (d a b t : ℕ) → Wide row → Placed row d a b t t → fits (placed row d a b t) row ≡ true
wide-fits row d a b t m h =
    let parts = and_parts (is_sum row) _ m in
    fit-funct3 (placed row d a b t) (row.bits % 2 ^ 7) d (field row.bits 12 3) a b t row h
    (eqb-true _ _ (and_parts (row.mask == 0x707f) _ parts.1).0)
    (bits-3 row.bits (row.bits % 2 ^ 7) (field row.bits 12 3) (field row.bits 25 7) (eqb-true _ _ parts.0) (no-funct7 row m))

-- a number of 12 bits at 20 on
as-high : (v d a n : ℕ) → v + d * 2 ^ 7 + a * 2 ^ 15 + n * 2 ^ 20 ≡ v + d * 2 ^ 7 + a * 2 ^ 15 + n % 2 ^ 5 * 2 ^ 20 + n / 2 ^ 5 * 2 ^ 25
as-high v d a n = omega arith

high-of : (w o d f a b g c : ℕ) → HasPlaces w o d f a b g → b ≡ c % 2 ^ 5 → g ≡ c / 2 ^ 5 → field w 20 12 ≡ c
high-of w o d f a b g c h eb eg = h.high12 ∙ (omega arith)

own-i : (row : Row) → Own row → Wide row → row.format ≡ I → (rd rs1 : ℕ) (imm : ℤ) → rd < 32 → rs1 < 32 → HasRoom 12 imm
    → decoded (placed_high row rd rs1 (complement 12 imm)) ≡ Some (ins row.op rd rs1 0 imm 0)
unfolding fields
own-i row given m is rd rs1 imm hd ha room =
    let c = complement 12 imm in
    let w = placed row rd rs1 (c % 2 ^ 5) (c / 2 ^ 5) in
    let below : c < 2 ^ 12 = below-12 imm room in
    let h = wide-places row rd rs1 (c % 2 ^ 5) (c / 2 ^ 5) m hd ha (omega arith) (omega arith) in
    ap decoded (as-high row.bits rd rs1 c)
    ∙ given w (wide-fits row rd rs1 (c % 2 ^ 5) (c / 2 ^ 5) m h)
    ∙ ap (λ x. Some (fields row.op x w)) is
    ∙ same-ins row.op (field w 7 5) rd (field w 15 5) rs1 0 0 (signed 12 (field w 20 12)) imm 0 0 h.rd h.rs1 refl
    (ap (signed 12) (high-of w _ _ _ _ _ _ c h refl refl) ∙ signed-12 imm room) refl

own-s : (row : Row) → Own row → Wide row → row.format ≡ S → (rs1 rs2 : ℕ) (imm : ℤ) → rs1 < 32 → rs2 < 32 → HasRoom 12 imm
    → decoded (placed row (complement 12 imm % 2 ^ 5) rs1 rs2 (complement 12 imm / 2 ^ 5)) ≡ Some (ins row.op 0 rs1 rs2 imm 0)
unfolding fields
own-s row given m is rs1 rs2 imm ha hb room =
    let c = complement 12 imm in
    let w = placed row (c % 2 ^ 5) rs1 rs2 (c / 2 ^ 5) in
    let below : c < 2 ^ 12 = below-12 imm room in
    let h = wide-places row (c % 2 ^ 5) rs1 rs2 (c / 2 ^ 5) m (omega arith) ha hb (omega arith) in
    let whole : field w 25 7 * 2 ^ 5 + field w 7 5 ≡ c = ap (λ x. x * 2 ^ 5 + field w 7 5) h.funct7 ∙ ap (λ x. c / 2 ^ 5 * 2 ^ 5 + x) h.rd ∙ (omega arith) in
    given w (wide-fits row (c % 2 ^ 5) rs1 rs2 (c / 2 ^ 5) m h)
    ∙ ap (λ x. Some (fields row.op x w)) is
    ∙ same-ins row.op 0 0 (field w 15 5) rs1 (field w 20 5) rs2 (signed 12 (field w 25 7 * 2 ^ 5 + field w 7 5)) imm 0 0 refl h.rs1 h.rs2
    (ap (signed 12) whole ∙ signed-12 imm room) refl

own-csr : (row : Row) → Own row → Wide row → row.format ≡ Csr → (rd rs1 csr : ℕ) → rd < 32 → rs1 < 32 → csr < 2 ^ 12
    → decoded (placed_high row rd rs1 csr) ≡ Some (ins row.op rd rs1 0 (pos 0) csr)
unfolding fields
own-csr row given m is rd rs1 csr hd ha below =
    let w = placed row rd rs1 (csr % 2 ^ 5) (csr / 2 ^ 5) in
    let h = wide-places row rd rs1 (csr % 2 ^ 5) (csr / 2 ^ 5) m hd ha (omega arith) (omega arith) in
    ap decoded (as-high row.bits rd rs1 csr)
    ∙ given w (wide-fits row rd rs1 (csr % 2 ^ 5) (csr / 2 ^ 5) m h)
    ∙ ap (λ x. Some (fields row.op x w)) is
    ∙ same-ins row.op (field w 7 5) rd (field w 15 5) rs1 0 0 (pos 0) (pos 0) (field w 20 12) csr h.rd h.rs1 refl refl (high-of w _ _ _ _ _ _ csr h refl refl)

own-csr-immediate : (row : Row) → Own row → Wide row → row.format ≡ CsrImmediate → (rd imm csr : ℕ) → rd < 32 → imm < 32 → csr < 2 ^ 12
    → decoded (placed_high row rd imm csr) ≡ Some (ins row.op rd 0 0 (pos imm) csr)
unfolding fields
own-csr-immediate row given m is rd imm csr hd ha below =
    let w = placed row rd imm (csr % 2 ^ 5) (csr / 2 ^ 5) in
    let h = wide-places row rd imm (csr % 2 ^ 5) (csr / 2 ^ 5) m hd ha (omega arith) (omega arith) in
    ap decoded (as-high row.bits rd imm csr)
    ∙ given w (wide-fits row rd imm (csr % 2 ^ 5) (csr / 2 ^ 5) m h)
    ∙ ap (λ x. Some (fields row.op x w)) is
    ∙ same-ins row.op (field w 7 5) rd 0 0 0 0 (pos (field w 15 5)) (pos imm) (field w 20 12) csr h.rd refl refl (ap pos h.rs1) (high-of w _ _ _ _ _ _ csr h refl refl)

-- the parts of a place
bit-31 : (w : ℕ) → field w 31 1 ≡ field w 25 7 / 2 ^ 6
bit-31 w = omega arith

bits-25 : (w : ℕ) → field w 25 6 ≡ field w 25 7 % 2 ^ 6
bits-25 w = omega arith

bit-7 : (w : ℕ) → field w 7 1 ≡ field w 7 5 % 2
bit-7 w = omega arith

bits-8 : (w : ℕ) → field w 8 4 ≡ field w 7 5 / 2
bits-8 w = omega arith

branch-sum : (c x y : ℕ) → x ≡ branch_high c → y ≡ branch_low c → c < 2 ^ 13 → c % 2 ≡ 0
    → x / 2 ^ 6 * 2 ^ 12 + y % 2 * 2 ^ 11 + (x % 2 ^ 6 * 2 ^ 5 + y / 2 * 2) ≡ c
branch-sum c x y ex ey below even = omega arith

branch-low-below : (c : ℕ) → branch_low c < 32
branch-low-below c = omega arith

branch-high-below : (c : ℕ) → branch_high c < 128
branch-high-below c = omega arith

branch-whole : (w c x y : ℕ) → field w 25 7 ≡ x → field w 7 5 ≡ y → x ≡ branch_high c → y ≡ branch_low c → c < 2 ^ 13 → c % 2 ≡ 0
    → field w 31 1 * 2 ^ 12 + field w 7 1 * 2 ^ 11 + (field w 25 6 * 2 ^ 5 + field w 8 4 * 2) ≡ c
branch-whole w c x y e7 ed ex ey below even =
    let a : field w 31 1 ≡ x / 2 ^ 6 = bit-31 w ∙ ap (λ z. z / 2 ^ 6) e7 in
    let b : field w 25 6 ≡ x % 2 ^ 6 = bits-25 w ∙ ap (λ z. z % 2 ^ 6) e7 in
    let p : field w 7 1 ≡ y % 2 = bit-7 w ∙ ap (λ z. z % 2) ed in
    let q : field w 8 4 ≡ y / 2 = bits-8 w ∙ ap (λ z. z / 2) ed in
    ap (λ z. z * 2 ^ 12 + field w 7 1 * 2 ^ 11 + (field w 25 6 * 2 ^ 5 + field w 8 4 * 2)) a
    ∙ ap (λ z. x / 2 ^ 6 * 2 ^ 12 + z * 2 ^ 11 + (field w 25 6 * 2 ^ 5 + field w 8 4 * 2)) p
    ∙ ap (λ z. x / 2 ^ 6 * 2 ^ 12 + y % 2 * 2 ^ 11 + (z * 2 ^ 5 + field w 8 4 * 2)) b
    ∙ ap (λ z. x / 2 ^ 6 * 2 ^ 12 + y % 2 * 2 ^ 11 + (x % 2 ^ 6 * 2 ^ 5 + z * 2)) q
    ∙ branch-sum c x y ex ey below even

own-b : (row : Row) → Own row → Wide row → row.format ≡ B → (rs1 rs2 : ℕ) (imm : ℤ) → rs1 < 32 → rs2 < 32 → HasRoom 13 imm
    → complement 13 imm % 2 ≡ 0
    → decoded (placed row (branch_low (complement 13 imm)) rs1 rs2 (branch_high (complement 13 imm))) ≡ Some (ins row.op 0 rs1 rs2 imm 0)
unfolding fields
own-b row given m is rs1 rs2 imm ha hb room even =
    let c = complement 13 imm in
    let w = placed row (branch_low c) rs1 rs2 (branch_high c) in
    let h = wide-places row (branch_low c) rs1 rs2 (branch_high c) m (branch-low-below c) ha hb (branch-high-below c) in
    given w (wide-fits row (branch_low c) rs1 rs2 (branch_high c) m h)
    ∙ ap (λ x. Some (fields row.op x w)) is
    ∙ same-ins row.op 0 0 (field w 15 5) rs1 (field w 20 5) rs2
    (signed 13 (field w 31 1 * 2 ^ 12 + field w 7 1 * 2 ^ 11 + (field w 25 6 * 2 ^ 5 + field w 8 4 * 2))) imm 0 0 refl h.rs1 h.rs2
    (ap (signed 13) (branch-whole w c _ _ h.funct7 h.rd refl refl (below-13 imm room) even) ∙ signed-13 imm room) refl

-- ---- rows by the opcode alone

abbrev Bare : Row → Type 0
Bare row = (is_sum row && ((row.mask == 0x7f) && ((field row.bits 12 3 == 0) && (field row.bits 25 7 == 0)))) ≡ true

abbrev Above : Row → ℕ → ℕ → Type 0
Above row d x = HasPlaces (placed_above row d x) (row.bits % 2 ^ 7) d (x % 8) (x / 8 % 32) (x / 256 % 32) (x / 8192)

above-places : (row : Row) (d x : ℕ) → Bare row → d < 32 → x < 2 ^ 20 → Above row d x
above-places row d x m hd hx =
    let parts = and_parts (is_sum row) _ m in
    let zeros = and_parts (field row.bits 12 3 == 0) _ (and_parts (row.mask == 0x7f) _ parts.1).1 in
    has-places (placed_above row d x) (row.bits % 2 ^ 7) d (x % 8) (x / 8 % 32) (x / 256 % 32) (x / 8192)
    (above-six row.bits (row.bits % 2 ^ 7) (field row.bits 12 3) (field row.bits 25 7) d x (eqb-true _ _ parts.0) (eqb-true _ _ zeros.0) (eqb-true _ _ zeros.1))
    (omega arith) hd (omega arith) (omega arith) (omega arith) (omega arith)

above-fits : (row : Row) (d x : ℕ) → Bare row → Above row d x → fits (placed_above row d x) row ≡ true
above-fits row d x m h =
    let parts = and_parts (is_sum row) _ m in
    let zeros = and_parts (field row.bits 12 3 == 0) _ (and_parts (row.mask == 0x7f) _ parts.1).1 in
    fit-opcode (placed_above row d x) (row.bits % 2 ^ 7) d (x % 8) (x / 8 % 32) (x / 256 % 32) (x / 8192) row h
    (eqb-true _ _ (and_parts (row.mask == 0x7f) _ parts.1).0)
    (bits-1 row.bits (row.bits % 2 ^ 7) (field row.bits 12 3) (field row.bits 25 7) (eqb-true _ _ parts.0) (eqb-true _ _ zeros.0) (eqb-true _ _ zeros.1))

upper-whole : (x : ℕ) → x % 8 + x / 8 % 32 * 2 ^ 3 + x / 256 % 32 * 2 ^ 8 + x / 8192 * 2 ^ 13 ≡ x
upper-whole x = omega arith

upper-is : (w o d x : ℕ) → HasPlaces w o d (x % 8) (x / 8 % 32) (x / 256 % 32) (x / 8192) → field w 12 20 ≡ x
upper-is w o d x h = h.high20 ∙ upper-whole x

back-12 : (c : ℕ) → c % 2 ^ 12 ≡ 0 → c / 2 ^ 12 * 2 ^ 12 ≡ c
back-12 c zeros = omega arith

below-20 : (c : ℕ) → c < 2 ^ 32 → c / 2 ^ 12 < 2 ^ 20
below-20 c below = omega arith

own-u : (row : Row) → Own row → Bare row → row.format ≡ U → (rd : ℕ) (imm : ℤ) → rd < 32 → HasRoom 32 imm → complement 32 imm % 2 ^ 12 ≡ 0
    → decoded (placed_above row rd (complement 32 imm / 2 ^ 12)) ≡ Some (ins row.op rd 0 0 imm 0)
unfolding fields
own-u row given m is rd imm hd room zeros =
    let c = complement 32 imm in
    let x = c / 2 ^ 12 in
    let w = placed_above row rd x in
    let h = above-places row rd x m hd (below-20 c (below-32 imm room)) in
    given w (above-fits row rd x m h)
    ∙ ap (λ y. Some (fields row.op y w)) is
    ∙ same-ins row.op (field w 7 5) rd 0 0 0 0 (signed 32 (field w 12 20 * 2 ^ 12)) imm 0 0 h.rd refl refl
    (ap (λ y. signed 32 (y * 2 ^ 12)) (upper-is w _ _ x h) ∙ ap (signed 32) (back-12 c zeros) ∙ signed-32 imm room) refl

jump-31 : (w : ℕ) → field w 31 1 ≡ field w 12 20 / 2 ^ 19
jump-31 w = omega arith

jump-12 : (w : ℕ) → field w 12 8 ≡ field w 12 20 % 2 ^ 8
jump-12 w = omega arith

jump-20 : (w : ℕ) → field w 20 1 ≡ field w 12 20 / 2 ^ 8 % 2
jump-20 w = omega arith

jump-21 : (w : ℕ) → field w 21 10 ≡ field w 12 20 / 2 ^ 9 % 2 ^ 10
jump-21 w = omega arith

jump-sum : (c x : ℕ) → x ≡ jump_bits c → c < 2 ^ 21 → c % 2 ≡ 0
    → x / 2 ^ 19 * 2 ^ 20 + x % 2 ^ 8 * 2 ^ 12 + (x / 2 ^ 8 % 2 * 2 ^ 11 + x / 2 ^ 9 % 2 ^ 10 * 2) ≡ c
jump-sum c x e below even = omega arith

jump-whole : (w c x : ℕ) → field w 12 20 ≡ x → x ≡ jump_bits c → c < 2 ^ 21 → c % 2 ≡ 0
    → field w 31 1 * 2 ^ 20 + field w 12 8 * 2 ^ 12 + (field w 20 1 * 2 ^ 11 + field w 21 10 * 2) ≡ c
jump-whole w c x h e below even =
    ap (λ z. z * 2 ^ 20 + field w 12 8 * 2 ^ 12 + (field w 20 1 * 2 ^ 11 + field w 21 10 * 2)) (jump-31 w ∙ ap (λ z. z / 2 ^ 19) h)
    ∙ ap (λ z. x / 2 ^ 19 * 2 ^ 20 + z * 2 ^ 12 + (field w 20 1 * 2 ^ 11 + field w 21 10 * 2)) (jump-12 w ∙ ap (λ z. z % 2 ^ 8) h)
    ∙ ap (λ z. x / 2 ^ 19 * 2 ^ 20 + x % 2 ^ 8 * 2 ^ 12 + (z * 2 ^ 11 + field w 21 10 * 2)) (jump-20 w ∙ ap (λ z. z / 2 ^ 8 % 2) h)
    ∙ ap (λ z. x / 2 ^ 19 * 2 ^ 20 + x % 2 ^ 8 * 2 ^ 12 + (x / 2 ^ 8 % 2 * 2 ^ 11 + z * 2)) (jump-21 w ∙ ap (λ z. z / 2 ^ 9 % 2 ^ 10) h)
    ∙ jump-sum c x e below even

jump-below : (c : ℕ) → jump_bits c < 2 ^ 20
jump-below c = omega arith

own-j : (row : Row) → Own row → Bare row → row.format ≡ J → (rd : ℕ) (imm : ℤ) → rd < 32 → HasRoom 21 imm → complement 21 imm % 2 ≡ 0
    → decoded (placed_above row rd (jump_bits (complement 21 imm))) ≡ Some (ins row.op rd 0 0 imm 0)
unfolding fields
own-j row given m is rd imm hd room even =
    let c = complement 21 imm in
    let x = jump_bits c in
    let w = placed_above row rd x in
    let h = above-places row rd x m hd (jump-below c) in
    given w (above-fits row rd x m h)
    ∙ ap (λ y. Some (fields row.op y w)) is
    ∙ same-ins row.op (field w 7 5) rd 0 0 0 0
    (signed 21 (field w 31 1 * 2 ^ 20 + field w 12 8 * 2 ^ 12 + (field w 20 1 * 2 ^ 11 + field w 21 10 * 2))) imm 0 0 h.rd refl refl
    (ap (signed 21) (jump-whole w c x (upper-is w _ _ x h) refl (below-21 imm room) even) ∙ signed-21 imm room) refl

-- ---- rows by funct7 too

narrow-places : (row : Row) (d a b : ℕ) → is_sum row ≡ true → d < 32 → a < 32 → b < 32 → Placed row d a b 0 (field row.bits 25 7 + 0)
narrow-places row d a b sum hd ha hb = places-of row d a b 0 sum hd ha hb (omega arith)

own-shift : (row : Row) → Own row → (is_sum row && (row.mask == 0xfe00707f)) ≡ true → row.format ≡ Shift
    → (rd rs1 amount : ℕ) → rd < 32 → rs1 < 32 → amount < 32 → decoded (placed row rd rs1 amount 0) ≡ Some (ins row.op rd rs1 0 (pos amount) 0)
unfolding fields
own-shift row given m is rd rs1 amount hd ha hb =
    let parts = and_parts (is_sum row) _ m in
    let w = placed row rd rs1 amount 0 in
    let h = narrow-places row rd rs1 amount parts.0 hd ha hb in
    given w (fit-funct7 w _ _ _ _ _ _ row h (eqb-true _ _ parts.1)
    (bits-7 row.bits (row.bits % 2 ^ 7) (field row.bits 12 3) (field row.bits 25 7) (eqb-true _ _ parts.0)))
    ∙ ap (λ x. Some (fields row.op x w)) is
    ∙ same-ins row.op (field w 7 5) rd (field w 15 5) rs1 0 0 (pos (field w 20 5)) (pos amount) 0 0 h.rd h.rs1 refl (ap pos h.rs2) refl

abbrev Registers : Row → Type 0
Registers row = (is_sum row && ((row.mask == 0xfe00707f) || (of_five 0xf800707f row || of_five 0xf9f0707f row))) ≡ true

r-fits : (row : Row) (d a b : ℕ) → Registers row → (row.mask ≡ 0xf9f0707f → b ≡ 0) → Placed row d a b 0 (field row.bits 25 7 + 0)
    → fits (placed row d a b 0) row ≡ true
r-fits row d a b m lr h =
    let parts = and_parts (is_sum row) _ m in
    let sums = eqb-true _ _ parts.0 in
    let o = row.bits % 2 ^ 7 in
    let f = field row.bits 12 3 in
    let g = field row.bits 25 7 in
    let w = placed row d a b 0 in
    elim (either (row.mask == 0xfe00707f) _ parts.1) [
      | inl seven ↦ fit-funct7 w o d f a b (g + 0) row h (eqb-true _ _ seven) (bits-7 row.bits o f g sums)
      | inr r ↦ elim (either (of_five 0xf800707f row) _ r) [
        | inl five ↦
            let two = and_parts (row.mask == 0xf800707f) _ five in
            fit-funct5 w o d f a b (g + 0) row h (eqb-true _ _ two.0) (bits-5 row.bits o f g sums (eqb-true _ _ two.1))
        | inr reserve ↦
            let two = and_parts (row.mask == 0xf9f0707f) _ reserve in
            let mask-is = eqb-true _ _ two.0 in
            fit-reserve w o d f a b (g + 0) row h mask-is (bits-reserve row.bits o f g b sums (eqb-true _ _ two.1) (lr mask-is))
      ]
    ]

own-r : (row : Row) → Own row → Registers row → row.format ≡ R → (rd rs1 rs2 : ℕ) → rd < 32 → rs1 < 32 → rs2 < 32
    → (row.mask ≡ 0xf9f0707f → rs2 ≡ 0) → decoded (placed row rd rs1 rs2 0) ≡ Some (ins row.op rd rs1 rs2 (pos 0) 0)
unfolding fields
own-r row given m is rd rs1 rs2 hd ha hb lr =
    let w = placed row rd rs1 rs2 0 in
    let h = narrow-places row rd rs1 rs2 (and_parts (is_sum row) _ m).0 hd ha hb in
    given w (r-fits row rd rs1 rs2 m lr h)
    ∙ ap (λ x. Some (fields row.op x w)) is
    ∙ same-ins row.op (field w 7 5) rd (field w 15 5) rs1 (field w 20 5) rs2 (pos 0) (pos 0) 0 0 h.rd h.rs1 h.rs2 refl refl

own-plain : (row : Row) → Own row → (bit_and row.bits row.mask == row.bits) ≡ true → row.format ≡ Plain
    → decoded row.bits ≡ Some (ins row.op 0 0 0 (pos 0) 0)
unfolding fields
own-plain row given m is = given row.bits m ∙ ap (λ x. Some (fields row.op x row.bits)) is

-- ---- all formats

own-words : (row : Row) → Own row → masked row.format row ≡ true → DecodesItsWords row
own-words row given m = record {
  r = λ is. own-r row given (subst (λ x. masked x row ≡ true) is m) is;
  i = λ is. own-i row given (subst (λ x. masked x row ≡ true) is m) is;
  s = λ is. own-s row given (subst (λ x. masked x row ≡ true) is m) is;
  b = λ is. own-b row given (subst (λ x. masked x row ≡ true) is m) is;
  u = λ is. own-u row given (subst (λ x. masked x row ≡ true) is m) is;
  j = λ is. own-j row given (subst (λ x. masked x row ≡ true) is m) is;
  shift = λ is. own-shift row given (subst (λ x. masked x row ≡ true) is m) is;
  csr = λ is. own-csr row given (subst (λ x. masked x row ≡ true) is m) is;
  csr_immediate = λ is. own-csr-immediate row given (subst (λ x. masked x row ≡ true) is m) is;
  plain = λ is. own-plain row given (subst (λ x. masked x row ≡ true) is m) is;
}

pub decode_themselves : All DecodesItsWords table
decode_themselves k d below = own-words (slice_index_or table k d) (own k d below) (all_good k d below)
