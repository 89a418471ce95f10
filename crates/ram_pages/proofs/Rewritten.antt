-- What stands in a list where a part was written over.
use Rattle.std.proofs.Common.{◌≡◌, ◌≤◌, ◌<◌, ◌⊎◌, inl, inr, ◌+◌, ◌*◌, ◌-◌, ◌^◌, get_or, ℕ, zero, suc, List, ◌++◌, length, take, drop, refl, arith, sym, ap, ◌∙◌, length-append, length-drop, subst}
use Rattle.std.proofs.lemmas.List.{get_or-drop, get_or-take, length-take-le, get_or_append_left, get_or-append_right}
use Rattle.std.proofs.Math.Seq.{drop-append_seam}
use Rattle.byteorder.specs.Endian.{little_from, little_bytes}
use Rattle.byteorder.specs.Numbers.{little_number-reads_back, length-bytes_low_first}
use Rattle.ram_pages.specs.Memory.{ram_start, LiesIn, number_at, overwritten}
use Rattle.ram_pages.specs.Laws.{stored, AreApart}
use Rattle.ram_pages.proofs.Pieces.{little_from_start}

-- a number is that of its bytes
same-bytes : (n i : ℕ) (xs ys : List ℕ) → ((j : ℕ) → i ≤ j → j < i + n → get_or xs j 0 ≡ get_or ys j 0) → little_from i n xs ≡ little_from i n ys
same-bytes zero i xs ys same = refl
same-bytes (suc n) i xs ys same =
    let here : get_or xs i 0 ≡ get_or ys i 0 = same i (omega arith) (omega arith) in
    let rest : little_from (suc i) n xs ≡ little_from (suc i) n ys = same-bytes n (suc i) xs ys (λ j low high. same j (omega arith) (omega arith)) in
    ap (λ x. x + 256 * little_from (suc i) n xs) here ∙ ap (λ x. get_or ys i 0 + 256 * x) rest

-- the part that was written
from-written : (xs fresh : List ℕ) (place n : ℕ) → place ≤ length xs → little_from place n (overwritten xs place fresh) ≡ little_from 0 n (fresh ++ drop (place + length fresh) xs)
from-written xs fresh place n fits =
    let front : length (take place xs) ≡ place = length-take-le place xs fits in
    let behind : drop place (overwritten xs place fresh) ≡ fresh ++ drop (place + length fresh) xs =
    subst (λ m. drop m (overwritten xs place fresh) ≡ fresh ++ drop (place + length fresh) xs) front (drop-append_seam (take place xs) (fresh ++ drop (place + length fresh) xs)) in
    sym (little_from_start n place (overwritten xs place fresh)) ∙ ap (little_from 0 n) behind

-- the bytes before it
byte-before : (xs fresh : List ℕ) (place j : ℕ) → place ≤ length xs → j < place → get_or (overwritten xs place fresh) j 0 ≡ get_or xs j 0
byte-before xs fresh place j fits before =
    let front : length (take place xs) ≡ place = length-take-le place xs fits in
    get_or_append_left (take place xs) (fresh ++ drop (place + length fresh) xs) 0 j (subst (λ m. j < m) (sym front) before)
    ∙ get_or-take place xs j 0 before

-- and behind it
byte-behind : (xs fresh : List ℕ) (place j : ℕ) → place ≤ length xs → place + length fresh ≤ j → get_or (overwritten xs place fresh) j 0 ≡ get_or xs j 0
byte-behind xs fresh place j fits behind =
    get_or-append_right (take place xs) (fresh ++ drop (place + length fresh) xs) place j 0 (length-take-le place xs fits) (omega arith)
    ∙ get_or-append_right fresh (drop (place + length fresh) xs) (length fresh) (j - place) 0 refl (omega arith)
    ∙ get_or-drop (place + length fresh) xs (j - place - length fresh) 0
    ∙ ap (λ m. get_or xs m 0) (omega arith)

pub there : (ram : List ℕ) (at size value : ℕ) → LiesIn ram at size → value < 256 ^ size → number_at (stored ram at size value) at size ≡ value
there ram at size value lies fits =
    let place = at - ram_start in
    let fresh = little_bytes size value in
    let inside : place ≤ length ram = omega (arith, lies.0, lies.1) in
    from-written ram fresh place size inside ∙ little_number-reads_back size value (drop (place + length fresh) ram) fits

pub elsewhere : (ram : List ℕ) (at size value other n : ℕ) → LiesIn ram at size → LiesIn ram other n → AreApart at size other n
    → number_at (stored ram at size value) other n ≡ number_at ram other n
elsewhere ram at size value other n lies others apart =
    let place = at - ram_start in
    let fresh = little_bytes size value in
    let long : length fresh ≡ size = length-bytes_low_first 0 size value in
    let inside : place ≤ length ram = omega (arith, lies.0, lies.1) in
    same-bytes n (other - ram_start) (overwritten ram place fresh) ram (λ j low high. elim apart [
      | inl before ↦ byte-before ram fresh place j inside (omega (arith, lies.0, others.0, before, low, high))
      | inr behind ↦ byte-behind ram fresh place j inside (omega (arith, lies.0, others.0, behind, low, high, long))
    ])

pub keeps-length : (ram : List ℕ) (at size value : ℕ) → LiesIn ram at size → length (stored ram at size value) ≡ length ram
keeps-length ram at size value lies =
    let place = at - ram_start in
    let fresh = little_bytes size value in
    let long : length fresh ≡ size = length-bytes_low_first 0 size value in
    let front : length (take place ram) ≡ place = length-take-le place ram (omega (arith, lies.0, lies.1)) in
    let back : length (drop (place + length fresh) ram) ≡ length ram - (place + length fresh) = length-drop (place + length fresh) ram in
    length-append (take place ram) (fresh ++ drop (place + length fresh) ram)
    ∙ ap (λ x. length (take place ram) + x) (length-append fresh (drop (place + length fresh) ram))
    ∙ omega (arith, lies.0, lies.1, long, front, back)
