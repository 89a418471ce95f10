-- DIV and REM divide as the instruction set says.
use Rattle.std.proofs.Common.{◌≡◌, ◌≢◌, refl, sym, ap, ◌∙◌, subst, ℕ, zero, suc, ◌-◌, ◌/◌, ◌%◌, ◌<◌, ◌^◌, ℤ, pos, negsuc, ◌+ℤ◌, ◌*ℤ◌, FitsSigned, w32, arith, ◌==◌, false, if◌then◌else◌}
use Rattle.std.specs.Prelude.{neg_ℤ, unsigned_abs}
use Rattle.std.specs.Int.{IsNonNegative}
use Rattle.std.specs.Int.RustNames.{int_div, int_rem}
use Rattle.std.proofs.lemmas.Int.{to_z-of_z, of_z-to_z, quot-rem, rem_below}
use native.Mathlib.Nat.{div-add-mod', div-le_self}
use Rattle.std.proofs.Math.Facts.{sfits_to_z}
use Rattle.std.proofs.lemmas.Bool.Decides.{nat_tests}
use lib.Signed.{mag, mag_rem}
use Rattle.rv_exec.specs.Arithmetic.{signed, word, quotient, remainder}
use Rattle.rv_exec.specs.Laws.{HasSignOf, DividesSigned}

mag-neg : (n : ℕ) → mag (neg_ℤ (pos n)) ≡ n - 1
mag-neg zero = refl
mag-neg (suc n) = omega arith

-- a quotient fits, but for the one overflow
quotient_fits : (x y : ℤ) → mag x < 2 ^ 31 → (x ≡ negsuc (2 ^ 31 - 1) → y ≢ negsuc 0) → FitsSigned w32 (int_div x y)
quotient_fits (pos a) (pos b) h other = record { sfits = omega (arith, div-le_self a b) }
quotient_fits (pos a) (negsuc b) h other = record { sfits = omega (arith, mag-neg (a / suc b), div-le_self a (suc b)) }
quotient_fits (negsuc a) (pos b) h other = record { sfits = omega (arith, mag-neg (suc a / b), div-le_self (suc a) b) }
quotient_fits (negsuc a) (negsuc zero) h other =
    let ne : a ≢ 2 ^ 31 - 1 = λ e. other (ap negsuc e) refl in
    record { sfits = omega (arith, div-le_self (suc a) 1) }
quotient_fits (negsuc a) (negsuc (suc b)) h other = record { sfits = omega (arith, div-add-mod' (suc a) (suc (suc b))) }

has_sign_self : (z : ℤ) → HasSignOf z z
has_sign_self (pos n) = tt
has_sign_self (negsuc n) = tt

neg_neg : (n : ℕ) → IsNonNegative (neg_ℤ (neg_ℤ (pos n)))
neg_neg zero = tt
neg_neg (suc n) = tt

remainder_sign : (x y : ℤ) → HasSignOf (int_rem x y) x
remainder_sign (pos a) y = tt
remainder_sign (negsuc a) y = neg_neg (suc a % unsigned_abs y)

abs_positive : (y : ℤ) → y ≢ pos 0 → 0 < unsigned_abs y
abs_positive (pos zero) ne = absurd (ne refl)
abs_positive (pos (suc n)) ne = omega arith
abs_positive (negsuc n) ne = omega arith

-- a word by its signed value
word-signed : (n : ℕ) → n < 2 ^ 32 → word (signed n) ≡ n
word-signed n h = of_z-to_z w32 n h

fits : (n : ℕ) → n < 2 ^ 32 → FitsSigned w32 (signed n)
fits n h = sfits_to_z (record { fits = h })

remainder_fits : (x y : ℤ) → FitsSigned w32 x → FitsSigned w32 (int_rem x y)
remainder_fits x y f = record { sfits = omega (arith, mag_rem x y, f.sfits) }

suc-not-zero : (m : ℕ) → (suc m == 0) ≡ false
suc-not-zero m = grind (arith, nat_tests)

quotient-suc : (a m : ℕ) → quotient a (suc m) ≡ word (int_div (signed a) (signed (suc m)))
quotient-suc a m = ap (λ t. if t then 2 ^ 32 - 1 else word (int_div (signed a) (signed (suc m)))) (suc-not-zero m)

remainder-suc : (a m : ℕ) → remainder a (suc m) ≡ word (int_rem (signed a) (signed (suc m)))
remainder-suc a m = ap (λ t. if t then a else word (int_rem (signed a) (signed (suc m)))) (suc-not-zero m)

divides : (a b : ℕ) → a < 2 ^ 32 → b < 2 ^ 32
    → DividesSigned (signed a) (signed b) (signed (quotient a b)) (signed (remainder a b))
divides a zero ha hb = record {
  by_zero = λ e. (refl, refl);
  overflow = λ e f. cc;
  identity = λ ne other. absurd (ne refl);
  smaller = λ ne. absurd (ne refl);
  sign = has_sign_self (signed a);
}
divides a (suc m) ha hb =
    let fx : FitsSigned w32 (signed a) = fits a ha in
    let r : signed (remainder a (suc m)) ≡ int_rem (signed a) (signed (suc m)) =
    ap signed (remainder-suc a m) ∙ to_z-of_z w32 (int_rem (signed a) (signed (suc m))) (remainder_fits (signed a) (signed (suc m)) fx) in
    record {
      by_zero = λ e. absurd (let z : suc m ≡ 0 = sym (word-signed (suc m) hb) ∙ ap word e in omega arith);
      overflow = λ e f. (
        ap signed (quotient-suc a m) ∙ (ap (λ x. signed (word (int_div x (signed (suc m))))) e ∙ ap (λ y. signed (word (int_div (negsuc (2 ^ 31 - 1)) y))) f) ∙ sym e,
        r ∙ (ap (λ x. int_rem x (signed (suc m))) e ∙ ap (λ y. int_rem (negsuc (2 ^ 31 - 1)) y) f),
      );
      identity = λ ne other.
          let q : signed (quotient a (suc m)) ≡ int_div (signed a) (signed (suc m)) =
          ap signed (quotient-suc a m) ∙ to_z-of_z w32 (int_div (signed a) (signed (suc m))) (quotient_fits (signed a) (signed (suc m)) fx.sfits other) in
          ap (λ z. z *ℤ signed (suc m) +ℤ signed (remainder a (suc m))) q
          ∙ ap (λ z. int_div (signed a) (signed (suc m)) *ℤ signed (suc m) +ℤ z) r
          ∙ quot-rem (signed a) (signed (suc m));
      smaller = λ ne. subst (λ z. unsigned_abs z < unsigned_abs (signed (suc m))) (sym r) (rem_below (signed a) (signed (suc m)) (abs_positive (signed (suc m)) ne));
      sign = subst (λ z. HasSignOf z (signed a)) (sym r) (remainder_sign (signed a) (signed (suc m)));
    }

pub quotient_divides : (a b q : ℕ) → a < 2 ^ 32 → b < 2 ^ 32 → q ≡ quotient a b
    → DividesSigned (signed a) (signed b) (signed q) (signed (remainder a b))
quotient_divides a b q ha hb e = rw e (divides a b ha hb)

pub remainder_divides : (a b r : ℕ) → a < 2 ^ 32 → b < 2 ^ 32 → r ≡ remainder a b
    → DividesSigned (signed a) (signed b) (signed (quotient a b)) (signed r)
remainder_divides a b r ha hb e = rw e (divides a b ha hb)
