-- What a sink has taken, over several writes.
use Rattle.std.proofs.Common.{◌≡◌, ℕ, ◌+◌, ◌-◌, List, [], ◌++◌, None, Some, sym, ap, ◌∙◌, subst, append_assoc, append-nil, length, take, drop, take-append-drop, refl}
use Rattle.std.proofs.lemmas.List.{take_rest}
use Rattle.std.proofs.Math.Seq.{take-add, take-length}
use Rattle.std.specs.declared.option.Option.{Option}
use Rattle.outside.specs.Told.{Takes, TakesFront}
use Rattle.outside.specs.Ledger.{StartsEmpty}

pub Takes-refl : (a : Option (List ℕ)) → Takes a a []
Takes-refl None = tt
Takes-refl (Some x) = sym (append-nil x)

pub Takes-trans : (a b c : Option (List ℕ)) (xs ys : List ℕ) → Takes a b xs → Takes b c ys → Takes a c (xs ++ ys)
Takes-trans a b None xs ys p q = tt
Takes-trans a None (Some z) xs ys p q = absurd q
Takes-trans None (Some y) (Some z) xs ys p q = absurd p
Takes-trans (Some x) (Some y) (Some z) xs ys p q = q ∙ ap (λ l. l ++ ys) p ∙ append_assoc x xs ys

-- the first i bytes were taken, and then n of the rest
pub Takes-next : (a b c : Option (List ℕ)) (all : List ℕ) (i n : ℕ) → Takes a b (take i all) → Takes b c (take n (take (length all - i) (drop i all))) → Takes a c (take (i + n) all)
Takes-next a b c all i n p q =
    subst (Takes a c) (ap (λ l. take i all ++ take n l) (take_rest all i) ∙ sym (take-add i n all))
    (Takes-trans a b c (take i all) (take n (take (length all - i) (drop i all))) p q)

-- bytes were taken, and then none
pub Takes-stop : (a b c : Option (List ℕ)) (xs : List ℕ) → Takes a b xs → Takes b c [] → Takes a c xs
Takes-stop a b c xs p q = subst (Takes a c) (append-nil xs) (Takes-trans a b c xs [] p q)

-- the first i bytes are all of them
pub Takes-all : (a b : Option (List ℕ)) (all : List ℕ) (i : ℕ) → i ≡ length all → Takes a b (take i all) → Takes a b all
Takes-all a b all i e p = subst (Takes a b) (ap (λ n. take n all) e ∙ take-length all) p

-- nothing was taken
pub TakesFront-none : (a : Option (List ℕ)) (bs : List ℕ) → TakesFront a a bs
TakesFront-none a bs = record { front = []; rest = bs; whole = refl; taken = Takes-refl a }

-- all was taken
pub TakesFront-all : (a b : Option (List ℕ)) (bs : List ℕ) → Takes a b bs → TakesFront a b bs
TakesFront-all a b bs p = record { front = bs; rest = []; whole = sym (append-nil bs); taken = p }

-- the first i bytes were taken
pub TakesFront-take : (a b : Option (List ℕ)) (bs : List ℕ) (i : ℕ) → Takes a b (take i bs) → TakesFront a b bs
TakesFront-take a b bs i p = record { front = take i bs; rest = drop i bs; whole = sym (take-append-drop i bs); taken = p }

-- a front of the first part is a front of the whole
pub TakesFront-longer : (a b : Option (List ℕ)) (xs ys : List ℕ) → TakesFront a b xs → TakesFront a b (xs ++ ys)
TakesFront-longer a b xs ys p = record {
  front = p.front;
  rest = p.rest ++ ys;
  whole = ap (λ l. l ++ ys) p.whole ∙ append_assoc p.front p.rest ys;
  taken = p.taken;
}

-- the first part was taken, and a front of the second
pub TakesFront-after : (a b c : Option (List ℕ)) (xs ys : List ℕ) → Takes a b xs → TakesFront b c ys → TakesFront a c (xs ++ ys)
TakesFront-after a b c xs ys p q = record {
  front = xs ++ q.front;
  rest = q.rest;
  whole = ap (λ l. xs ++ l) q.whole ∙ sym (append_assoc xs q.front q.rest);
  taken = Takes-trans a b c xs q.front p q.taken;
}

-- a sink that had taken nothing took these bytes
pub Takes-start : (a b : Option (List ℕ)) (bs : List ℕ) → StartsEmpty a → Takes a b bs → Takes (Some []) b bs
Takes-start a None bs e p = tt
Takes-start None (Some y) bs e p = absurd p
Takes-start (Some x) (Some y) bs e p = p ∙ ap (λ l. l ++ bs) e

pub TakesFront-start : (a b : Option (List ℕ)) (bs : List ℕ) → StartsEmpty a → TakesFront a b bs → TakesFront (Some []) b bs
TakesFront-start a b bs e p = record { front = p.front; rest = p.rest; whole = p.whole; taken = Takes-start a b p.front e p.taken }
