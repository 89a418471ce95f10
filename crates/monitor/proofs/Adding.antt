-- Looking for the place of a break, one more.
use Rattle.std.proofs.Common.{◌≡◌, ℕ, ◌<◌, ◌≤◌, ◌+◌, refl, sym, ap, ◌∙◌, arith, List, [], ◌∷◌, ◌++◌, length, drop, take, append_assoc, take-append-drop}
use Rattle.std.specs.Prelude.{get_or}
use Rattle.std.proofs.lemmas.List.{drop_more}
use Rattle.std.proofs.lemmas.Bool.{lt-ltb, le-ltb, eq-eqb, ne_eqb}
use Rattle.monitor.specs.Session.{with_break}
use Rattle.monitor.proofs.Scans.{cell, past_all}

-- the breaks before this place are smaller
abbrev pub AddsFrom : ℕ → List ℕ → ℕ → Type 0
AddsFrom n bs i = with_break n bs ≡ take i bs ++ with_break n (drop i bs)

pub adds-start : (n : ℕ) (bs : List ℕ) → AddsFrom n bs 0
adds-start n bs = refl

pub adds-more : (n : ℕ) (bs : List ℕ) (i : ℕ) → i < length bs → get_or bs i 0 < n → AddsFrom n bs i → AddsFrom n bs (i + 1)
adds-more n bs i within less a =
    let b = get_or bs i 0 in
    let more = drop_more bs i 0 within in
    let next : with_break n (drop i bs) ≡ b ∷ with_break n (drop (i + 1) bs) =
    rw more (rw (le-ltb n b (omega (arith, less))) (rw (ne_eqb n b (λ e. omega (arith, e, less))) refl)) in
    a ∙ ap (λ z. take i bs ++ z) next ∙ sym (append_assoc (take i bs) (b ∷ []) (with_break n (drop (i + 1) bs)))
    ∙ ap (λ z. z ++ with_break n (drop (i + 1) bs)) (sym (cell i b bs (drop (i + 1) bs) more))

pub adds-there : (n : ℕ) (bs : List ℕ) (i : ℕ) → i < length bs → n ≡ get_or bs i 0 → AddsFrom n bs i → with_break n bs ≡ bs
adds-there n bs i within same a =
    let b = get_or bs i 0 in
    let more = drop_more bs i 0 within in
    let next : with_break n (drop i bs) ≡ b ∷ drop (i + 1) bs =
    rw more (rw (le-ltb n b (omega (arith, same))) (rw (eq-eqb n b same) refl)) in
    a ∙ ap (λ z. take i bs ++ z) (next ∙ sym more) ∙ take-append-drop i bs

pub adds-here : (n : ℕ) (bs : List ℕ) (i : ℕ) → i < length bs → n < get_or bs i 0 → AddsFrom n bs i → with_break n bs ≡ take i bs ++ n ∷ drop i bs
adds-here n bs i within less a =
    let b = get_or bs i 0 in
    let more = drop_more bs i 0 within in
    let next : with_break n (drop i bs) ≡ n ∷ b ∷ drop (i + 1) bs = rw more (rw (lt-ltb n b less) refl) in
    a ∙ ap (λ z. take i bs ++ z) (next ∙ ap (λ z. n ∷ z) (sym more))

pub adds-end : (n : ℕ) (bs : List ℕ) (i : ℕ) → length bs ≤ i → AddsFrom n bs i → with_break n bs ≡ take i bs ++ n ∷ drop i bs
adds-end n bs i past a =
    let none = past_all i bs past in
    a ∙ ap (λ z. take i bs ++ with_break n z) none ∙ ap (λ z. take i bs ++ n ∷ z) (sym none)

pub ruleset adds = (adds-start, adds-more, adds-there, adds-here, adds-end)
