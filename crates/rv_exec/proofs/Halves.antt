-- The words of MULH, MULHSU and MULHU with that of MUL make the whole product.
use Rattle.std.proofs.Common.{◌≡◌, sym, ap, ◌∙◌, subst, ℕ, ◌<◌, ◌^◌, ◌*◌, ◌+◌, ◌%◌, ◌-◌, ℤ, pos, negsuc, ◌+ℤ◌, ◌*ℤ◌, FitsSigned, w32, w64, arith, lit<}
use Rattle.std.specs.Prelude.{unsigned_abs}
use Rattle.std.specs.Int.{cast_signed, cast_unsigned, int_shr, int_rem_euclid, int_wrap}
use Rattle.std.proofs.lemmas.Int.{ints, to_z-of_z, of_z-to_z, wrapping_mul-bits, fits_signed_mul, int_wrap-mul_right}
use native.Mathlib.Nat.{div-add-mod'}
use Rattle.std.proofs.Math.Facts.{sfits_to_z}
use lib.Signed.{mag}
use Rattle.rv_exec.specs.Arithmetic.{signed, high_half, product_low, product_high, product_high_mixed, product_high_unsigned}
use Rattle.rv_exec.specs.Laws.{IsProduct}
use Rattle.rv_exec.proofs.Products.{abs_of_word}

-- the part of a number below 2 ^ 32
abbrev low_part : ℤ → ℕ
low_part z = unsigned_abs (int_rem_euclid z (pos (2 ^ 32)))

split : (z : ℤ) → int_shr z 32 *ℤ pos (2 ^ 32) +ℤ pos (low_part z) ≡ z
split (pos n) = omega (arith, ints, div-add-mod' n (2 ^ 32))
split (negsuc n) = omega (arith, ints, div-add-mod' n (2 ^ 32))

low_part-lt : (z : ℤ) → low_part z < 2 ^ 32
low_part-lt (pos n) = omega arith
low_part-lt (negsuc n) = omega arith

shifted_fits : (z : ℤ) → mag z < 2 ^ 63 → FitsSigned w32 (int_shr z 32)
shifted_fits (pos n) h = record { sfits = omega arith }
shifted_fits (negsuc n) h = record { sfits = omega arith }

signed_fits : (a : ℕ) → a < 2 ^ 32 → FitsSigned w32 (signed a)
signed_fits a ha = sfits_to_z (record { fits = ha })

signed_product_fits : (a b : ℕ) → a < 2 ^ 32 → b < 2 ^ 32 → FitsSigned w64 (signed a *ℤ signed b)
signed_product_fits a b ha hb =
    fits_signed_mul w64 (signed a) (signed b) (2 ^ 31) (2 ^ 31)
    (abs_of_word (signed a) (signed_fits a ha).sfits)
    (abs_of_word (signed b) (signed_fits b hb).sfits)
    (lit< tt)

mixed_product_fits : (a b : ℕ) → a < 2 ^ 32 → b < 2 ^ 32 → FitsSigned w64 (signed a *ℤ pos b)
mixed_product_fits a b ha hb =
    fits_signed_mul w64 (signed a) (pos b) (2 ^ 31) (2 ^ 32 - 1)
    (abs_of_word (signed a) (signed_fits a ha).sfits)
    (omega arith)
    (lit< tt)

-- two numbers below 2 ^ 32 with one signed value are the same
same_word : (m n : ℕ) → m < 2 ^ 32 → n < 2 ^ 32 → signed m ≡ signed n → m ≡ n
same_word m n hm hn e = sym (of_z-to_z w32 m hm) ∙ ap (cast_unsigned w32) e ∙ of_z-to_z w32 n hn

-- the low word is the same for the words and for their signed values
low_signed : (a b : ℕ) → a < 2 ^ 32 → b < 2 ^ 32 → product_low a b ≡ low_part (signed a *ℤ signed b)
unfolding int_wrap
low_signed a b ha hb =
    same_word _ _ (omega arith) (low_part-lt (signed a *ℤ signed b)) (wrapping_mul-bits w32 a b ha hb)

wrap_word : (b : ℕ) → b < 2 ^ 32 → int_wrap w32 (pos b) ≡ signed b
unfolding int_wrap
wrap_word b hb = let small : b % 2 ^ 32 ≡ b = omega arith in ap (cast_signed w32) small

wrap_mixed : (a b : ℕ) → b < 2 ^ 32
    → int_wrap w32 (signed a *ℤ signed b) ≡ int_wrap w32 (signed a *ℤ pos b)
wrap_mixed a b hb =
    ap (λ y. int_wrap w32 (signed a *ℤ y)) (sym (wrap_word b hb))
    ∙ int_wrap-mul_right w32 (signed a) (pos b)

low_mixed : (a b : ℕ) → a < 2 ^ 32 → b < 2 ^ 32 → product_low a b ≡ low_part (signed a *ℤ pos b)
unfolding int_wrap
low_mixed a b ha hb =
    same_word _ _ (omega arith) (low_part-lt (signed a *ℤ pos b))
    (wrapping_mul-bits w32 a b ha hb ∙ wrap_mixed a b hb)

-- a product of 64 bits is its halves
halves : (z : ℤ) (low : ℕ) → FitsSigned w64 z → low ≡ low_part z
    → (signed (high_half z) *ℤ pos (2 ^ 32) +ℤ pos low ≡ z) × (low < 2 ^ 32)
halves z low f e =
    let h : signed (high_half z) ≡ int_shr z 32 = to_z-of_z w32 _ (shifted_fits z f.sfits) in
    (rw (h, e) (split z), rw e (low_part-lt z))

pub signed_halves : (a b r : ℕ) → a < 2 ^ 32 → b < 2 ^ 32 → r ≡ product_high a b
    → IsProduct (signed a) (signed b) (signed r) (product_low a b)
signed_halves a b r ha hb e =
    let h = halves (signed a *ℤ signed b) (product_low a b)
    (signed_product_fits a b ha hb) (low_signed a b ha hb) in
    subst (λ w. IsProduct (signed a) (signed b) (signed w) (product_low a b)) (sym e)
    (record { whole = h.0; below = h.1 })

pub mixed_halves : (a b r : ℕ) → a < 2 ^ 32 → b < 2 ^ 32 → r ≡ product_high_mixed a b
    → IsProduct (signed a) (pos b) (signed r) (product_low a b)
mixed_halves a b r ha hb e =
    let h = halves (signed a *ℤ pos b) (product_low a b)
    (mixed_product_fits a b ha hb) (low_mixed a b ha hb) in
    subst (λ w. IsProduct (signed a) (pos b) (signed w) (product_low a b)) (sym e)
    (record { whole = h.0; below = h.1 })

pub unsigned_halves : (a b r : ℕ) → r ≡ product_high_unsigned a b
    → r * 2 ^ 32 + product_low a b ≡ a * b
unsigned_halves a b r e = rw e (div-add-mod' (a * b) (2 ^ 32))
