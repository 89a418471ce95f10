-- Reading a line byte by byte, one byte more.
use Rattle.std.proofs.Common.{◌≡◌, ℕ, suc, ◌<◌, ◌≤◌, ◌+◌, ◌*◌, refl, sym, ap, ◌∙◌, arith, List, [], ◌∷◌, ◌++◌, length, drop, take, zero, add-one, append_assoc, append-nil}
use Rattle.std.specs.Prelude.{Some, None, get_or}
use Rattle.std.proofs.lemmas.List.{drop_more}
use Rattle.std.proofs.lemmas.Bool.{le-leb, lt-leb, eq-eqb, ne_eqb}
use Rattle.monitor.specs.Numbers.{decimal_from, decimal_digit, hex_from, hex_digit, greatest}
use Rattle.monitor.specs.Words.{split, in_front}

pub decimal_more : (value i d : ℕ) (bs : List ℕ) → i < length bs → decimal_digit (get_or bs i 0) ≡ Some d → value * 10 + d ≤ greatest
    → decimal_from value (drop i bs) ≡ decimal_from (value * 10 + d) (drop (i + 1) bs)
decimal_more value i d bs within is small =
    rw (drop_more bs i 0 within) (rw is (rw (le-leb (value * 10 + d) greatest small) refl))

pub decimal_none : (value i : ℕ) (bs : List ℕ) → i < length bs → decimal_digit (get_or bs i 0) ≡ None → decimal_from value (drop i bs) ≡ None
decimal_none value i bs within is = rw (drop_more bs i 0 within) (rw is refl)

pub decimal_large : (value i d : ℕ) (bs : List ℕ) → i < length bs → decimal_digit (get_or bs i 0) ≡ Some d → greatest < value * 10 + d
    → decimal_from value (drop i bs) ≡ None
decimal_large value i d bs within is large =
    rw (drop_more bs i 0 within) (rw is (rw (lt-leb (value * 10 + d) greatest large) refl))

pub hex_more : (value i d : ℕ) (bs : List ℕ) → i < length bs → hex_digit (get_or bs i 0) ≡ Some d → value * 16 + d ≤ greatest
    → hex_from value (drop i bs) ≡ hex_from (value * 16 + d) (drop (i + 1) bs)
hex_more value i d bs within is small =
    rw (drop_more bs i 0 within) (rw is (rw (le-leb (value * 16 + d) greatest small) refl))

pub hex_none : (value i : ℕ) (bs : List ℕ) → i < length bs → hex_digit (get_or bs i 0) ≡ None → hex_from value (drop i bs) ≡ None
hex_none value i bs within is = rw (drop_more bs i 0 within) (rw is refl)

pub hex_large : (value i d : ℕ) (bs : List ℕ) → i < length bs → hex_digit (get_or bs i 0) ≡ Some d → greatest < value * 16 + d
    → hex_from value (drop i bs) ≡ None
hex_large value i d bs within is large =
    rw (drop_more bs i 0 within) (rw is (rw (lt-leb (value * 16 + d) greatest large) refl))

pub ruleset decimal_rules = (decimal_more, decimal_none, decimal_large)

pub ruleset hex_rules = (hex_more, hex_none, hex_large)

-- ---- words

-- so many bytes stand before the first space
abbrev pub SplitsFrom : List ℕ → ℕ → Type 0
SplitsFrom line i = split line ≡ (take i line ++ (split (drop i line)).0, (split (drop i line)).1)

pub splits-start : (line : List ℕ) → SplitsFrom line 0
splits-start line = refl

pub cell : (i b : ℕ) (xs rest : List ℕ) → drop i xs ≡ b ∷ rest → take (i + 1) xs ≡ take i xs ++ b ∷ []
cell i b xs rest e = rw (add-one i) (cell_suc i b xs rest e)
  where
    cell_suc : (i b : ℕ) (xs rest : List ℕ) → drop i xs ≡ b ∷ rest → take (suc i) xs ≡ take i xs ++ b ∷ []
    cell_suc zero b [] rest e = absurd cc
    cell_suc zero b (x ∷ xs) rest e = ap (λ z. z ∷ []) cc
    cell_suc (suc i) b [] rest e = absurd cc
    cell_suc (suc i) b (x ∷ xs) rest e = ap (λ z. x ∷ z) (cell_suc i b xs rest e)

pub splits-more : (line : List ℕ) (i : ℕ) → i < length line → (get_or line i 0 ≡ 32 → ⊥) → SplitsFrom line i → SplitsFrom line (i + 1)
splits-more line i within other s =
    let b = get_or line i 0 in
    let more = drop_more line i 0 within in
    let next : split (drop i line) ≡ in_front b (split (drop (i + 1) line)) = rw more (rw (ne_eqb b 32 other) refl) in
    let rest = split (drop (i + 1) line) in
    s ∙ ap (λ z. (take i line ++ z.0, z.1)) next
    ∙ ap (λ z. (z, rest.1)) (sym (append_assoc (take i line) (b ∷ []) rest.0) ∙ ap (λ z. z ++ rest.0) (sym (cell i b line (drop (i + 1) line) more)))

pub splits-here : (line : List ℕ) (i : ℕ) → i < length line → get_or line i 0 ≡ 32 → SplitsFrom line i → split line ≡ (take i line, Some (drop (i + 1) line))
splits-here line i within space s =
    let next : split (drop i line) ≡ ([], Some (drop (i + 1) line)) = rw (drop_more line i 0 within) (rw (eq-eqb (get_or line i 0) 32 space) refl) in
    s ∙ ap (λ z. (take i line ++ z.0, z.1)) next ∙ ap (λ z. (z, Some (drop (i + 1) line))) (append-nil (take i line))

pub past_all : (i : ℕ) (xs : List ℕ) → length xs ≤ i → drop i xs ≡ []
past_all zero [] past = refl
past_all (suc i) [] past = refl
past_all zero (x ∷ xs) past = absurd (omega arith)
past_all (suc i) (x ∷ xs) past = past_all i xs (omega arith)

pub whole : (i : ℕ) (xs : List ℕ) → length xs ≤ i → take i xs ≡ xs
whole zero [] past = refl
whole (suc i) [] past = refl
whole zero (x ∷ xs) past = absurd (omega arith)
whole (suc i) (x ∷ xs) past = ap (λ z. x ∷ z) (whole i xs (omega arith))

pub splits-end : (line : List ℕ) (i : ℕ) → length line ≤ i → SplitsFrom line i → split line ≡ (line, None)
splits-end line i past s =
    s ∙ ap (λ z. (take i line ++ (split z).0, (split z).1)) (past_all i line past)
    ∙ ap (λ z. (z, None)) (append-nil (take i line) ∙ whole i line past)
