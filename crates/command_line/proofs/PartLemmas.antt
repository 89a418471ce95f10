-- How the parts of a text follow from its first.
use Rattle.std.proofs.Common.{◌≡◌, ℕ, ◌+◌, ◌<◌, suc, Bool, true, false, not, List, [], ◌∷◌, length, refl, sym, ap, ◌∙◌, arith, cond, Option, Some, None, option_and_then}
use Rattle.std.specs.List.{slice_split, onto_first, position_or_len, before_first, after_first}
use Rattle.std.proofs.lemmas.List.Splits.{slice_split_first}
use Rattle.command_line.specs.Icount.{Settings, is_comma, with_part, with_parts}

no_cut : (cut : Bool) (b : ℕ) (bs : List ℕ) (parts : List (List ℕ)) (n : ℕ) → cond (not cut) (1 + n) 0 ≡ suc (length bs)
    → (n ≡ length bs → parts ≡ bs ∷ []) → cond cut ([] ∷ parts) (onto_first b parts) ≡ (b ∷ bs) ∷ []
no_cut true b bs parts n e h = absurd (omega (arith, e))
no_cut false b bs parts n e h = ap (onto_first b) (h (omega (arith, e)))

-- a text without a comma is one part
parts-none : (bs : List ℕ) → position_or_len is_comma bs ≡ length bs → slice_split is_comma bs ≡ bs ∷ []
parts-none [] e = refl
parts-none (b ∷ bs) e = no_cut (is_comma b) b bs (slice_split is_comma bs) (position_or_len is_comma bs) e (parts-none bs)

last-part : (o : Option Settings) → option_and_then (λ t. with_parts t []) o ≡ o
last-part None = refl
last-part (Some t) = refl

pub with_parts-last : (s : Settings) (bs : List ℕ) → position_or_len is_comma bs ≡ length bs → with_parts s (slice_split is_comma bs) ≡ with_part s bs
with_parts-last s bs e = ap (with_parts s) (parts-none bs e) ∙ last-part (with_part s bs)

parts-first : (bs part rest : List ℕ) → position_or_len is_comma bs < length bs → part ≡ before_first is_comma bs → rest ≡ after_first is_comma bs
    → slice_split is_comma bs ≡ part ∷ slice_split is_comma rest
parts-first bs part rest h p r = slice_split_first is_comma bs 0 h ∙ ap (λ x. x ∷ slice_split is_comma (after_first is_comma bs)) (sym p) ∙ ap (λ x. part ∷ slice_split is_comma x) (sym r)

pub with_parts-next : (s : Settings) (bs part rest : List ℕ) (o : Option Settings) → position_or_len is_comma bs < length bs → part ≡ before_first is_comma bs
    → rest ≡ after_first is_comma bs → o ≡ with_part s part → with_parts s (slice_split is_comma bs) ≡ option_and_then (λ t. with_parts t (slice_split is_comma rest)) o
with_parts-next s bs part rest o h p r e = ap (with_parts s) (parts-first bs part rest h p r) ∙ ap (option_and_then (λ t. with_parts t (slice_split is_comma rest))) (sym e)
