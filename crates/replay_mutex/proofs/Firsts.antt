-- The pass 0 among passes, and the others.
use Rattle.std.proofs.Common.{◌≡◌, ◌≢◌, ℕ, zero, suc, ◌<◌, ◌≤◌, List, [], ◌∷◌, length, get_or, cond, Bool, true, false, true≢false, ◌||◌, ◌&&◌, ◌==◌, None, Some, refl, sym, ap, ◌∙◌, subst, arith, ne_eqb}
use Rattle.std.specs.Prelude.{All, find, position, remove}
use Rattle.std.specs.List.{position_or_len}
use Rattle.std.proofs.lemmas.Bool.{eqb-true}
use Rattle.std.proofs.lemmas.List.Quantifiers.{position-Some}
use Rattle.std.proofs.lemmas.List.Edits.{length-remove}
use Rattle.std.proofs.lemmas.Grind.{common_steps}
use mathlib.Core.Logic.{dite}
use native.Mathlib.Decide.{ℕ_discrete}
use Rattle.plain_hub.specs.declared.entry.Entry.{Entry}
use Rattle.std.proofs.lemmas.List.Elements.{All-cons}
use Rattle.plain_hub.proofs.Contained.{all_head, all_tail, all_removed}
use Rattle.replay_mutex.specs.declared.pass.Pass.{Pass}
use Rattle.replay_mutex.specs.Row.{has_number, has_below, are_all, are_all_with, Ended, IsWhole}
use Rattle.plain_hub.specs.Proper.{Proper}
use Rattle.replay_mutex.specs.Shown.{knows}

module _ {X : Type 0} (p : X → Bool) where
  first_found : (xs : List X) (k : ℕ) (d : X) → k < length xs → p (get_or xs k d) ≡ true → ((i : ℕ) → i < k → p (get_or xs i d) ≡ false) → find p xs ≡ Some (get_or xs k d)
  first_found [] k d lt here before = absurd (omega arith)
  first_found (x ∷ xs) zero d lt here before = ap (λ b. cond b (Some x) (find p xs)) here
  first_found (x ∷ xs) (suc k) d lt here before = ap (λ b. cond b (Some x) (find p xs)) (before 0 (omega arith)) ∙ first_found xs k d (omega arith) here (λ i le. before (suc i) (omega arith))

  pub found_at : (xs : List X) (k : ℕ) (d : X) → position p xs ≡ Some k → find p xs ≡ Some (get_or xs k d)
  found_at xs k d is = let t = position-Some p xs k d is in first_found xs k d t.0 t.1 t.2

  none_from : (xs : List X) → length xs ≤ position_or_len p xs → find p xs ≡ None
  none_from [] le = refl
  none_from (x ∷ xs) le = by_case (p x) refl (none_from xs) le
    where
      by_case : (b : Bool) → p x ≡ b → (length xs ≤ position_or_len p xs → find p xs ≡ None) → length (x ∷ xs) ≤ position_or_len p (x ∷ xs) → find p (x ∷ xs) ≡ None
      by_case true is ih le = absurd (let h : position_or_len p (x ∷ xs) ≡ 0 = grind (arith, common_steps) in omega arith)
      by_case false is ih le = ap (λ b. cond b (Some x) (find p xs)) is ∙ ih (let h : position_or_len p (x ∷ xs) ≡ suc (position_or_len p xs) = grind (arith, common_steps) in omega arith)

  pub none_found : (xs : List X) → position p xs ≡ None → find p xs ≡ None
  none_found xs is = none_from xs (grind (arith, common_steps))

-- whether they are all, by the place of the pass 0
pub all_at : (ps : List Pass) (k : ℕ) (d : Pass) → position (λ p. p.number == 0) ps ≡ Some k → are_all ps ≡ ((length ps == (get_or ps k d).made) && has_below (get_or ps k d).made ps)
all_at ps k d is = ap (λ o. are_all_with o ps) (found_at (λ (p : Pass). p.number == 0) ps k d is)

pub not_all : (ps : List Pass) → position (λ p. p.number == 0) ps ≡ None → are_all ps ≡ false
not_all ps is = ap (λ o. are_all_with o ps) (none_found (λ (p : Pass). p.number == 0) ps is)

and_true : (a b : Bool) → (a && b) ≡ true → (a ≡ true) × (b ≡ true)
and_true true b e = (refl, e)
and_true false b e = absurd (true≢false (sym e))

-- where they are all, they are as many as the pass 0 knows, with each number below that
pub as_many : (ps : List Pass) (made : ℕ) → ((length ps == made) && has_below made ps) ≡ true → (length ps ≡ made) × (has_below made ps ≡ true)
as_many ps made is = let t = and_true (length ps == made) (has_below made ps) is in (eqb-true (length ps) made t.0, t.1)

has_at : (m n : ℕ) (ps : List Pass) → has_below m ps ≡ true → n < m → has_number n ps ≡ true
has_at zero n ps has lt = absurd (omega arith)
has_at (suc m) n ps has lt =
    let b = and_true (has_number m ps) (has_below m ps) has in
    dite (ℕ_discrete n m) (λ same. ap (λ k. has_number k ps) same ∙ b.0) (λ other. has_at m n ps b.1 (omega arith))

has_other : (n : ℕ) (ps : List Pass) (k : ℕ) (d : Pass) → k < length ps → (get_or ps k d).number ≢ n → has_number n ps ≡ true → has_number n (remove ps k) ≡ true
has_other n [] k d lt ne has = absurd (omega arith)
has_other n (p ∷ ps) zero d lt ne has = ap (λ b. b || has_number n ps) (sym (ne_eqb p.number n ne)) ∙ has
has_other n (p ∷ ps) (suc k) d lt ne has = by_first (p.number == n) (has_other n ps k d (omega arith) ne) has
  where
    by_first : (b : Bool) → (has_number n ps ≡ true → has_number n (remove ps k) ≡ true) → (b || has_number n ps) ≡ true → (b || has_number n (remove ps k)) ≡ true
    by_first true ih has = refl
    by_first false ih has = ih has

-- each number but 0 is among the others
pub others_have : (m : ℕ) (ps : List Pass) (k : ℕ) (d : Pass) → has_below m ps ≡ true → k < length ps → (get_or ps k d).number ≡ 0 → (n : ℕ) → n ≢ 0 → n < m → has_number n (remove ps k) ≡ true
others_have m ps k d has lt zeroth n ne less = has_other n ps k d lt (λ same. ne (sym same ∙ zeroth)) (has_at m n ps has less)

-- what holds of each, and the other way round
pub all_moved : {X : Type 0} (P : X → Type 0) (xs : List X) (k : ℕ) (d : X) → k < length xs → All P xs → All P (get_or xs k d ∷ remove xs k)
all_moved P xs k d lt all zero e less = all k d lt
all_moved P xs k d lt all (suc i) e less = all_removed P xs k all i e (omega arith)

pub all_back : {X : Type 0} (P : X → Type 0) (xs : List X) (k : ℕ) (d : X) → k < length xs → All P (get_or xs k d ∷ remove xs k) → All P xs
all_back P [] k d lt all = absurd (omega arith)
all_back P (x ∷ xs) zero d lt all = all
all_back P (x ∷ xs) (suc k) d lt all = All-cons P x xs (all_head P x (remove xs k) rest) (all_back P xs k d (omega arith) (All-cons P (get_or xs k d) (remove xs k) (all_head P (get_or xs k d) (x ∷ remove xs k) all) (all_tail P x (remove xs k) rest)))
  where
    rest : All P (x ∷ remove xs k)
    rest = all_tail P (get_or xs k d) (x ∷ remove xs k) all

pub whole_back : (h : List Entry) (ps : List Pass) (k : ℕ) (d : Pass) → k < length ps → IsWhole h (get_or ps k d ∷ remove ps k) → length (get_or ps k d ∷ remove ps k) ≡ length ps → IsWhole h ps
whole_back h ps k d lt w size = record {
  legal = w.legal;
  proper = all_back (λ (p : Pass). Proper (knows p).base h) ps k d lt w.proper;
  ended = all_back (Ended h) ps k d lt w.ended;
  others = λ n le. w.others n (subst (λ m. m ≤ n) (sym size) le);
}

-- the pass 0, and the others without it
pub record IsFirstOf (ps : List Pass) (k : ℕ) (first : Pass) : Type 0 where
  pub within : k < length ps
  pub is : get_or ps k first ≡ first
  pub zeroth : first.number ≡ 0
  pub others : (n : ℕ) → n ≢ 0 → n < first.made → has_number n (remove ps k) ≡ true
  pub size : length (first ∷ remove ps k) ≡ length ps
  pub count : length ps ≡ first.made

pub first_of_all : (ps : List Pass) (k : ℕ) (first : Pass) → position (λ p. p.number == 0) ps ≡ Some k → are_all ps ≡ true → first ≡ get_or ps k first → IsFirstOf ps k first
first_of_all ps k first at all is =
    let t = position-Some (λ (p : Pass). p.number == 0) ps k first at in
    let many = as_many ps (get_or ps k first).made (sym (all_at ps k first at) ∙ all) in
    let zero_there = eqb-true (get_or ps k first).number 0 t.1 in
    let others = others_have (get_or ps k first).made ps k first many.1 t.0 zero_there in
    let long = length-remove ps k t.0 in
    record {
      within = t.0;
      is = sym is;
      zeroth = ap (λ (q : Pass). q.number) is ∙ zero_there;
      others = subst (λ (q : Pass). (n : ℕ) → n ≢ 0 → n < q.made → has_number n (remove ps k) ≡ true) (sym is) others;
      size = omega arith;
      count = many.0 ∙ ap (λ (q : Pass). q.made) (sym is);
    }

pub all_moved_first : (P : Pass → Type 0) (ps : List Pass) (k : ℕ) (first : Pass) → IsFirstOf ps k first → All P ps → All P (first ∷ remove ps k)
all_moved_first P ps k first is all = subst (λ (q : Pass). All P (q ∷ remove ps k)) is.is (all_moved P ps k first is.within all)

pub whole_with_first : (h : List Entry) (ps : List Pass) (k : ℕ) (first : Pass) → IsFirstOf ps k first → IsWhole h (first ∷ remove ps k) → IsWhole h ps
whole_with_first h ps k first is w = whole_back h ps k first is.within (subst (λ (q : Pass). IsWhole h (q ∷ remove ps k)) (sym is.is) w) is.size
