-- Breaks in a text, one more.
use Rattle.std.proofs.Common.{◌≡◌, ℕ, ◌<◌, ◌≤◌, ◌+◌, sym, ap, ◌∙◌, List, ◌++◌, codes, length, drop, append_assoc, append-nil}
use Rattle.std.specs.Prelude.{get_or}
use Rattle.std.specs.Fmt.{decimal}
use Rattle.std.proofs.lemmas.List.{drop_more}
use Rattle.monitor.specs.Texts.{breaks_text}
use Rattle.monitor.proofs.Scans.{past_all}

pub text_more : (text one bs : List ℕ) (i : ℕ) → i < length bs → one ≡ codes " " ++ decimal (get_or bs i 0)
    → text ++ breaks_text (drop i bs) ≡ (text ++ one) ++ breaks_text (drop (i + 1) bs)
text_more text one bs i within is =
    let rest = breaks_text (drop (i + 1) bs) in
    ap (λ z. text ++ breaks_text z) (drop_more bs i 0 within)
    ∙ ap (λ z. text ++ z) (sym (append_assoc (codes " ") (decimal (get_or bs i 0)) rest)) ∙ ap (λ z. text ++ (z ++ rest)) (sym is)
    ∙ sym (append_assoc text one rest)

pub text_end : (text bs : List ℕ) (i : ℕ) → length bs ≤ i → text ++ breaks_text (drop i bs) ≡ text
text_end text bs i past = ap (λ z. text ++ breaks_text z) (past_all i bs past) ∙ append-nil text
