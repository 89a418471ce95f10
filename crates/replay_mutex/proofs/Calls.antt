-- The entries of one pass, and beginnings of histories.
use Rattle.std.proofs.Common.{◌≡◌, ◌≢◌, ℕ, zero, suc, List, [], ◌∷◌, ◌++◌, length, drop, set, Bool, true, false, true≢false, ◌||◌, ◌==◌, refl, sym, ap, ◌∙◌, ◌⊎◌, Option, Some, None, inl, inr, ⊎_elim, eq-eqb, ne_eqb, append_assoc, append-nil}
use Rattle.std.specs.Prelude.{if◌then◌else◌}
use mathlib.Core.Option.{some, some-injective, some-ne-none}
use lib.ListN.{get_elem?}
use Rattle.plain_hub.specs.declared.entry.Entry.{Entry}
use Rattle.replay_mutex.specs.declared.view.Joined.{Joined}
use Rattle.replay_mutex.specs.Views.{StartsWith, calls_by, is_joined}

consed : (b : Bool) (e : Entry) (xs ys : List Entry) → (if b then e ∷ (xs ++ ys) else (xs ++ ys)) ≡ (if b then e ∷ xs else xs) ++ ys
consed true e xs ys = refl
consed false e xs ys = refl

pub calls_by-append : (p : ℕ) (xs ys : List Entry) → calls_by p (xs ++ ys) ≡ calls_by p xs ++ calls_by p ys
calls_by-append p [] ys = refl
calls_by-append p (e ∷ xs) ys = ap (λ l. if e.pass == p then e ∷ l else l) (calls_by-append p xs ys) ∙ consed (e.pass == p) e (calls_by p xs) (calls_by p ys)

pub calls_by-own : (p : ℕ) (xs : List Entry) (e : Entry) → e.pass ≡ p → calls_by p (xs ++ e ∷ []) ≡ calls_by p xs ++ e ∷ []
calls_by-own p xs e is = calls_by-append p xs (e ∷ []) ∙ ap (λ (b : Bool). calls_by p xs ++ (if b then e ∷ [] else [])) (eq-eqb e.pass p is)

pub calls_by-other : (p : ℕ) (xs : List Entry) (e : Entry) → e.pass ≢ p → calls_by p (xs ++ e ∷ []) ≡ calls_by p xs
calls_by-other p xs e ne = calls_by-append p xs (e ∷ []) ∙ ap (λ (b : Bool). calls_by p xs ++ (if b then e ∷ [] else [])) (ne_eqb e.pass p ne) ∙ append-nil (calls_by p xs)

pub starts_again : (xs : List Entry) → StartsWith xs xs
starts_again xs = ([], sym (append-nil xs))

pub starts_trans : (xs ys zs : List Entry) → StartsWith xs ys → StartsWith ys zs → StartsWith xs zs
starts_trans xs ys zs a b = (b.0 ++ a.0, a.1 ∙ ap (λ l. l ++ a.0) b.1 ∙ append_assoc zs b.0 a.0)

or_true : (a b : Bool) → (a || b) ≡ false → (a ≡ false) × (b ≡ false)
or_true true b e = absurd (true≢false e)
or_true false b e = (refl, e)

-- a number that was not joined is not that of one that was
pub not_joined : (n : ℕ) (xs : List Joined) (k : ℕ) (x : Joined) → is_joined n xs ≡ false → get_elem? xs k ≡ some x → x.number ≢ n
not_joined n [] k x ne at = absurd (some-ne-none x (sym at))
not_joined n (y ∷ xs) zero x ne at = λ same. true≢false (sym (eq-eqb y.number n (ap (λ (z : Joined). z.number) (some-injective y x at) ∙ same)) ∙ (or_true _ _ ne).0)
not_joined n (y ∷ xs) (suc k) x ne at = not_joined n xs k x (or_true _ _ ne).1 at

pub set_mine : {A : Type 0} (l : List A) (i : ℕ) (a b : A) → get_elem? l i ≡ some a → get_elem? (set l i b) i ≡ some b
set_mine [] i a b e = absurd (some-ne-none a (sym e))
set_mine (x ∷ l) zero a b e = refl
set_mine (x ∷ l) (suc i) a b e = set_mine l i a b e

pub dropped : (h : List Entry) (more : List Entry) → drop (length h) (h ++ more) ≡ more
dropped [] more = refl
dropped (x ∷ h) more = dropped h more

-- a list with one more has at each place what it had, or the last
pub at_end : {A : Type 0} (l : List A) (a b : A) (j : ℕ) → get_elem? (l ++ a ∷ []) j ≡ some b
    → (get_elem? l j ≡ some b) ⊎ ((j ≡ length l) × (a ≡ b))
at_end [] a b zero e = inr (refl, some-injective a b e)
at_end [] a b (suc j) e = absurd (some-ne-none b (sym e))
at_end (x ∷ xs) a b zero e = inl e
at_end (x ∷ xs) a b (suc j) e =
    ⊎_elim (λ t. inl t) (λ t. inr (ap suc t.0, t.1)) (at_end xs a b j e)

pub none_is_not : (o : Option (List Entry)) (x : List Entry) → o ≡ None → o ≡ Some x → ⊥
none_is_not o x e f = cc
