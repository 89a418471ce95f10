-- What a number is read as.
use Rattle.std.proofs.Common.{◌≡◌, ℕ, zero, suc, ◌<◌, ◌≤◌, ◌^◌, Bool, true, false, not, List, [], ◌∷◌, length, get_or, sym, ap, ◌∙◌, refl, Some, None, Result, Ok, ◌&&◌, arith, nat_le, if◌then◌else◌, inl, inr}
use Rattle.std.specs.Fmt.{decimal}
use Rattle.std.proofs.lemmas.Bool.{and_parts, leb-true, le-leb}
use Rattle.std.proofs.lemmas.Bool.Decides.{eqb_tells}
use Rattle.std.proofs.lemmas.Fmt.{decimal-digits_value, digits_value-decimal, digits_decimal, decimal_digit, first_decimal}
use Rattle.std.specs.Str.{all_ascii_digits}
use Rattle.std.specs.Str.Parse.{digits_value, ParsesUnsigned}
use Rattle.std.specs.List.{list_all}
use Rattle.std.specs.Char.{is_ascii_digit}
use Rattle.std.specs.Result.{OkIff}
use Rattle.std.proofs.lemmas.Result.{OkIff-at_ok}
use Rattle.std.proofs.lemmas.Str.Parse.{IsNumeralModel, numerals_by_value, tells_all_ascii_digits, parse_digits, parse_gives}
use Rattle.command_line.specs.Number.{starts_well, is_number, number_in}

own : IsNumeralModel (λ ds. all_ascii_digits ds ≡ true) (digits_value 10)
own = numerals_by_value _ tells_all_ascii_digits

-- the test of each byte, as a chain makes it
all-digits : (bs : List ℕ) → list_all is_ascii_digit bs ≡ all_ascii_digits bs
all-digits [] = refl
all-digits (c ∷ cs) = ap (λ t. is_ascii_digit c && t) (all-digits cs)

starts-some : (bs : List ℕ) → starts_well bs ≡ true → 0 < length bs
starts-some [] e = absurd (cc)
starts-some (c ∷ cs) e = omega arith

-- a number that fits is read, and as its value
parses : {E : Type 0} (bs : List ℕ) (r : Result ℕ E) → ParsesUnsigned 64 10 bs r → is_number bs ≡ true
    → OkIff r ((0 < length bs) × (digits_value 10 bs < 2 ^ 64)) (digits_value 10 bs)
parses bs r h d = parse_digits own 64 bs r h (sym (all-digits bs) ∙ (and_parts _ _ d).0)

-- what was read is the number's value
pub Ok-parsed : {E : Type 0} (bs : List ℕ) (r : Result ℕ E) (n : ℕ) → ParsesUnsigned 64 10 bs r → r ≡ Ok n → is_number bs ≡ true → n ≡ digits_value 10 bs
Ok-parsed bs r n h e d = (OkIff-at_ok r _ _ n (parses bs r h d) e).1

-- a number that fits is read
pub fitting-parsed : {E : Type 0} (bs : List ℕ) (r : Result ℕ E) → ParsesUnsigned 64 10 bs r → is_number bs ≡ true → digits_value 10 bs < 2 ^ 64 → r ≡ Ok (digits_value 10 bs)
fitting-parsed bs r h d fits =
    let b = and_parts _ _ d in parse_gives own 64 bs r h (sym (all-digits bs) ∙ b.0) (starts-some bs b.1) fits

pub ruleset numbers = (Ok-parsed, fitting-parsed)

-- A number and its decimal digits.

one-alone : (bs : List ℕ) → starts_well bs ≡ true → get_or bs 0 0 ≡ 48 → length bs ≡ 1
one-alone [] e z = absurd (cc)
one-alone (c ∷ []) e z = omega arith
one-alone (c ∷ d ∷ cs) e z = absurd (grind arith)

taken : (b : Bool) (m n : ℕ) → (if b then Some m else None) ≡ Some n → (b ≡ true) × (m ≡ n)
taken true m n e = (refl, cc)
taken false m n e = absurd (cc)

-- what is read as a number is in the range
pub number-range : (least most : ℕ) (bs : List ℕ) (n : ℕ) → number_in least most bs ≡ Some n → (least ≤ n) × (n ≤ most)
number-range least most bs n e =
    let t = taken (is_number bs && (nat_le least (digits_value 10 bs) && nat_le (digits_value 10 bs) most)) (digits_value 10 bs) n e in
    let r = and_parts (nat_le least (digits_value 10 bs)) (nat_le (digits_value 10 bs) most) (and_parts (is_number bs) _ t.0).1 in
    let low : least ≤ digits_value 10 bs = leb-true least (digits_value 10 bs) r.0 in
    let high : digits_value 10 bs ≤ most = leb-true (digits_value 10 bs) most r.1 in (omega (arith, t.1), omega (arith, t.1))

-- what is read as a number is its decimal digits, and in the range
pub number-sound : (least most : ℕ) (bs : List ℕ) (n : ℕ) → n < 2 ^ 64 → number_in least most bs ≡ Some n → (least ≤ n) × (n ≤ most) × (bs ≡ decimal n)
number-sound least most bs n fits e =
    let t = taken (is_number bs && (nat_le least (digits_value 10 bs) && nat_le (digits_value 10 bs) most)) (digits_value 10 bs) n e in
    let b = and_parts _ _ (and_parts _ _ t.0).0 in
    let range = number-range least most bs n e in (
      range.0,
      range.1,
      sym (ap decimal (sym t.1) ∙ decimal-digits_value own bs (sym (all-digits bs) ∙ b.0) (starts-some bs b.1) (one-alone bs b.1) (omega (arith, t.1))),
    )

starts-above : (bs : List ℕ) → 48 < get_or bs 0 0 → starts_well bs ≡ true
starts-above [] e = absurd (omega arith)
starts-above (c ∷ []) e = refl
starts-above (c ∷ d ∷ cs) e = elim (eqb_tells c 48) [ inl p ↦ absurd (omega (arith, e, p.1)) | inr q ↦ ap not q.0 ]

starts-decimal : (n : ℕ) → n < 2 ^ 64 → starts_well (decimal n) ≡ true
starts-decimal zero fits = ap starts_well (decimal_digit 0 (omega arith))
starts-decimal (suc n) fits = starts-above (decimal (suc n)) (first_decimal (suc n) (omega arith) fits)

pub digits-decimal : (n : ℕ) → n < 2 ^ 64 → list_all is_ascii_digit (decimal n) ≡ true
digits-decimal n fits = all-digits (decimal n) ∙ digits_decimal own n fits

-- the decimal digits of a number in the range are read as it
pub number-complete : (least most n : ℕ) → n < 2 ^ 64 → least ≤ n → n ≤ most → number_in least most (decimal n) ≡ Some n
number-complete least most n fits low high =
    let digits : list_all is_ascii_digit (decimal n) ≡ true = digits-decimal n fits in
    let value : digits_value 10 (decimal n) ≡ n = digits_value-decimal own n fits in
    ap (λ m. if is_number (decimal n) && (nat_le least m && nat_le m most) then Some m else None) value
    ∙ ap (λ b. if b && (nat_le least n && nat_le n most) then Some n else None) (ap (λ b. b && starts_well (decimal n)) digits ∙ starts-decimal n fits)
    ∙ ap (λ b. if b && nat_le n most then Some n else None) (le-leb least n low)
    ∙ ap (λ b. if b then Some n else None) (le-leb n most high)
