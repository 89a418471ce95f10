-- Steps over ranges in turn.
use Rattle.std.proofs.Common.{◌≡◌, ◌≤◌, ◌<◌, ℕ, ◌+◌, List, [], ◌∷◌, ◌++◌, length, take, drop, get_or, min, ap, ◌∙◌, sym, ◌-◌, arith, inl, inr, refl, cond, true, length-append, length-drop, length-take, length-take-le, append-nil}
use Rattle.std.proofs.lemmas.List.{at_drop_more, at_drop_all, take_min, take_more, take-append-le, take_all, take-take}
use Rattle.std.proofs.lemmas.List.Concat.{flat_map-append}
use Rattle.std.proofs.lemmas.Bool.{cases_lt}
use Rattle.std.proofs.lemmas.Bool.Decides.{nat_tests}
use Rattle.std.proofs.lemmas.List.Elements.{All-head, All-tail}
use Rattle.std.proofs.lemmas.List.Sums.{sum_by-cons}
use Rattle.std.proofs.Math.ListN.{drop_of_length-le}
use Rattle.std.proofs.Math.Nat.{min-eq_left}
use Rattle.std.specs.List.{flat_map}
use Rattle.vio_mmio.specs.declared.chain.Segment.{Segment}
use Rattle.ram_pages.specs.Memory.{LiesIn, bytes_at, ram_start}
use Rattle.vio_mmio.specs.Ring.{lies_in}
use Rattle.vio_mmio.specs.Spread.{AllLie, put_at, got_at, scattered, gathered, total_of}

pub drop_min : (n : ℕ) (xs : List ℕ) → drop (min n (length xs)) xs ≡ drop n xs
drop_min n xs =
    elim (cases_lt n (length xs)) [
      | inl below ↦ let le : n ≤ length xs = omega arith in ap (λ m. drop m xs) (min-eq_left le)
      | inr past ↦ drop_of_length-le xs (omega arith) ∙ sym (drop_of_length-le xs (omega arith))
    ]

-- one range is written
pub scattered_more : (bytes : List ℕ) (ss : List Segment) (i : ℕ) (e : Segment) (rest : List ℕ) (count : ℕ) → i < length ss → count ≡ min (get_or ss i e).len (length rest)
    → scattered bytes (drop i ss) rest ≡ scattered (put_at bytes (get_or ss i e).at (take count rest)) (drop (i + 1) ss) (drop count rest)
unfolding scattered
scattered_more bytes ss i e rest count within is =
    let s = get_or ss i e in
    at_drop_more (λ x. scattered bytes x rest) ss i e within
    ∙ ap (λ x. scattered (put_at bytes s.at x) (drop (i + 1) ss) (drop s.len rest)) (sym (ap (λ m. take m rest) is ∙ take_min s.len rest))
    ∙ ap (λ x. scattered (put_at bytes s.at (take count rest)) (drop (i + 1) ss) x) (sym (ap (λ m. drop m rest) is ∙ drop_min s.len rest))

-- no range is left
pub scattered_all : (bytes : List ℕ) (ss : List Segment) (i : ℕ) (rest : List ℕ) → length ss ≤ i → scattered bytes (drop i ss) rest ≡ bytes
unfolding scattered
scattered_all bytes ss i rest past = at_drop_all (λ x. scattered bytes x rest) ss i past

-- the first bytes of a list behind the first bytes of another
take_take-append : (n : ℕ) (a b : List ℕ) → take n (take n a ++ b) ≡ take n (a ++ b)
take_take-append n a b =
    elim (cases_lt (length a) n) [
      | inl short ↦ ap (λ x. take n (x ++ b)) (take_all n a (omega arith))
      | inr long ↦
          let le : n ≤ length (take n a) = omega (arith, length-take n a) in
          take-append-le n (take n a) b le ∙ take-take n n a (omega arith) ∙ sym (take-append-le n a b (omega arith))
    ]

-- one range is read
pub gathered_more : (bytes : List ℕ) (ss : List Segment) (i most : ℕ) (e : Segment) → i < length ss
    → take most (take most (gathered bytes (take i ss)) ++ got_at bytes (get_or ss i e).at (get_or ss i e).len) ≡ take most (gathered bytes (take (i + 1) ss))
gathered_more bytes ss i most e within =
    let s = get_or ss i e in
    let f : Segment → List ℕ = λ s. got_at bytes s.at s.len in
    take_take-append most (gathered bytes (take i ss)) (got_at bytes s.at s.len)
    ∙ ap (take most) (
    ap (λ x. gathered bytes (take i ss) ++ x) (sym (append-nil (f s))) ∙ sym (flat_map-append f (take i ss) (s ∷ [])) ∙ ap (flat_map f) (sym (take_more ss i e within))
    )

-- a range that lies in the memory gives just its bytes
length-got : (bytes : List ℕ) (at len : ℕ) → lies_in bytes at len ≡ true → length (got_at bytes at len) ≡ len
length-got bytes at len lies =
    let is : LiesIn bytes at len = grind (arith, nat_tests) in
    let rest : length (drop (at - ram_start) bytes) ≡ length bytes - (at - ram_start) = length-drop (at - ram_start) bytes in
    let one : got_at bytes at len ≡ bytes_at bytes at len = ap (λ b. cond b (bytes_at bytes at len) []) lies in
    ap length one ∙ length-take-le len (drop (at - ram_start) bytes) (omega (arith, is.0, is.1))

pub length-gathered : (bytes : List ℕ) (segments : List Segment) → AllLie bytes segments → length (gathered bytes segments) ≡ total_of segments
length-gathered bytes [] all = refl
length-gathered bytes (s ∷ ss) all =
    let P : Segment → Type 0 = λ s. lies_in bytes s.at s.len ≡ true in
    let here : length (got_at bytes s.at s.len) ≡ s.len = length-got bytes s.at s.len (All-head P s ss all) in
    let more : length (gathered bytes ss) ≡ total_of ss = length-gathered bytes ss (All-tail P s ss all) in
    length-append (got_at bytes s.at s.len) (gathered bytes ss) ∙ omega (arith, here, more) ∙ sym (sum_by-cons (λ s. s.len) s ss)
