-- What a clock of a list has given, after one more call.
use Rattle.std.proofs.Common.{◌≡◌, ℕ, ◌+◌, ◌-◌, ◌^◌, Bool, true, false, nat_lt, List, [], ◌∷◌, ◌++◌, Some, None, if◌then◌else◌, map, refl, arith}
use Rattle.std.proofs.lemmas.List.FromFn.{map-range_with_len_more}
use Rattle.std.specs.List.{range_with_len}
use Rattle.outside.specs.Causes.{one_more}
use Rattle.outside.specs.Fakes.{ClockState, clock_gave, value_at}
use Rattle.outside.specs.Told.{Takes}

-- a list that grew, told while a test holds that doesn't come to hold again
pub Takes-while : (before now : Bool) (xs ys bs : List ℕ) → (now ≡ true → before ≡ true) → (now ≡ true → ys ≡ xs ++ bs) → Takes (if before then Some xs else None) (if now then Some ys else None) bs
Takes-while before false xs ys bs stays grows = tt
Takes-while true true xs ys bs stays grows = grows refl
Takes-while false true xs ys bs stays grows = grind (arith, stays refl)

counted_before : (n : ℕ) → nat_lt (one_more n) (2 ^ 64 - 1) ≡ true → nat_lt n (2 ^ 64 - 1) ≡ true
counted_before n p = grind arith

one_more-counted : (n : ℕ) → nat_lt (one_more n) (2 ^ 64 - 1) ≡ true → one_more n ≡ n + 1
one_more-counted n p = grind arith

values-next : (f : ℕ → ℕ) (n next : ℕ) → next ≡ n + 1 → map f (range_with_len 0 next) ≡ map f (range_with_len 0 n) ++ f n ∷ []
values-next f n next e = rw e (map-range_with_len_more f 0 n n (omega arith))

pub clock_told : (old new : ClockState) (value : ℕ) → new ≡ record old { calls = one_more old.calls } → value ≡ value_at old.values old.calls → Takes (clock_gave old) (clock_gave new) (value ∷ [])
clock_told old new value e v = rw (e, v)
    (Takes-while _ _ _ _ _ (counted_before old.calls) (λ p. values-next (λ call. value_at old.values call) old.calls _ (one_more-counted old.calls p)))
