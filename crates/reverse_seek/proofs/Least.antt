-- The stride is the least.
use Rattle.std.proofs.Common.{◌≡◌, ◌≤◌, ◌<◌, ℕ, zero, suc, ◌*◌, ◌/◌, ◌^◌, Bool, true, false, refl, sym, ap, inl, inr, arith, subst, mul_assoc, mul_comm, pow-suc, eq-or-lt_of_le, div-mul-le_self, mul-le-mul_right}
use Rattle.std.specs.Prelude.{nat_lt}
use Rattle.std.proofs.lemmas.Bool.{cases_Bool, ltb-true, ltb-false}
use Rattle.reverse_seek.specs.Stride.{stride_from, stride_of}
use Rattle.reverse_seek.specs.Stride.{IsLeastStride}

-- each lesser doubling is too small
abbrev AllMany : ℕ → ℕ → Type 0
AllMany last j = (i : ℕ) → i < j → 32 ≤ last / (1000 * 2 ^ i)

not_less : (last j i : ℕ) → AllMany last j → last / (1000 * 2 ^ i) < 32 → j ≤ i
not_less last j i many few = go (nat_lt i j) refl where
  go : (t : Bool) → nat_lt i j ≡ t → j ≤ i
  go true e = absurd (omega (arith, many i (ltb-true i j e), few))
  go false e = ltb-false i j e

here : (last j : ℕ) → AllMany last j → last / (1000 * 2 ^ j) < 32 → IsLeastStride last (1000 * 2 ^ j)
here last j many few = record { doubling = j; doubles = refl; enough = few; least = λ i h. not_less last j i many h }

many_more : (last j : ℕ) → AllMany last j → 32 ≤ last / (1000 * 2 ^ j) → AllMany last (suc j)
many_more last j many more i less =
    let h : i ≤ j = omega (arith, less) in
    elim (eq-or-lt_of_le h) [
      | inl same ↦ subst (λ z. 32 ≤ last / (1000 * 2 ^ z)) (sym same) more
      | inr below ↦ many i below
    ]

few_at_last : (last stride : ℕ) → last ≤ 2 ^ 40 → 1000 * 2 ^ 40 ≤ stride → last / stride < 32
few_at_last last stride within large = go (nat_lt (last / stride) 32) refl where
  go : (t : Bool) → nat_lt (last / stride) 32 ≡ t → last / stride < 32
  go true e = ltb-true (last / stride) 32 e
  go false e = absurd (omega (
    arith,
    within,
    large,
    div-mul-le_self last stride,
    mul-le-mul_right {m = 32} {n = last / stride} stride (ltb-false (last / stride) 32 e),
  ))

double : (j : ℕ) → 1000 * 2 ^ j * 2 ≡ 1000 * 2 ^ suc j
double j = omega (arith, pow-suc 2 j)

least_from : (k j last : ℕ) → last ≤ 2 ^ 40 → 1000 * 2 ^ 40 ≤ 2 ^ k * (1000 * 2 ^ j) → AllMany last j → IsLeastStride last (stride_from k (1000 * 2 ^ j) last)
unfolding stride_from
least_from zero j last within far many = here last j many (few_at_last last (1000 * 2 ^ j) within (omega (arith, far)))
least_from (suc k) j last within far many =
    elim (cases_Bool (nat_lt (last / (1000 * 2 ^ j)) 32)) [
      | inl few ↦ rw few (here last j many (ltb-true (last / (1000 * 2 ^ j)) 32 few))
      | inr more ↦
          let enough : 1000 * 2 ^ 40 ≤ 2 ^ k * (1000 * 2 ^ suc j) =
          subst (λ z. 1000 * 2 ^ 40 ≤ 2 ^ k * z) (double j) (omega (
            arith,
            far,
            mul_assoc (2 ^ k) 2 (1000 * 2 ^ j),
            mul_comm 2 (1000 * 2 ^ j),
            ap (λ z. 2 ^ k * z) (mul_comm 2 (1000 * 2 ^ j)),
            ap (λ z. z * (1000 * 2 ^ j)) (pow-suc 2 k),
          )) in
          rw more (rw (double j) (least_from k (suc j) last within enough (many_more last j many (ltb-false (last / (1000 * 2 ^ j)) 32 more))))
    ]

pub least_stride : (last : ℕ) → last ≤ 2 ^ 40 → IsLeastStride last (stride_of last)
unfolding stride_of
least_stride last within = least_from 40 0 last within (omega arith) (λ i h. absurd (omega arith))
