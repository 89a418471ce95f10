-- The first Done of an id, by its place.
use Rattle.std.proofs.Common.{◌≡◌, ℕ, zero, suc, ◌+◌, ◌<◌, ◌≤◌, List, [], ◌∷◌, ◌++◌, length, map, take, drop, get_or, Bool, true, false, ◌==◌, Option, Some, None, refl, ap, ◌∙◌, subst, arith, cond, not}
use Rattle.std.proofs.lemmas.Bool.{eqb-true}
use Rattle.std.proofs.lemmas.Bool.Decides.{nat_tests}
use Rattle.std.specs.Prelude.{if◌then◌else◌, nat_lt, position, is_some}
use Rattle.std.specs.List.{position_or_len}
use Rattle.plain_hub.specs.declared.item.Item.{Item}
use Rattle.plain_hub.specs.declared.item.Item.TheVariants as item
use Rattle.plain_hub.specs.declared.item.Short.TheVariants.{Done, Console, Packet}
use Rattle.plain_hub.specs.Hub.{done_of, without}
use Rattle.plain_hub.specs.Items.{short, is_done, has_bytes}

case_none : (b : Bool) (len n : ℕ) (h : Bool) (others : Option Bool) → (len ≤ n → others ≡ None) → suc len ≤ cond (not b) (1 + n) 0 → (if b then Some h else others) ≡ None
case_none true len n h others ih le = absurd (omega arith)
case_none false len n h others ih le = ih (omega arith)

pub not_found : (id : ℕ) (xs : List Item) → length xs ≤ position_or_len (λ x. is_done id x) xs → done_of id (map short xs) ≡ None
not_found id [] le = refl
not_found id (item.Done i r ∷ xs) le = case_none (i == id) (length xs) (position_or_len (λ x. is_done id x) xs) (is_some r) (done_of id (map short xs)) (not_found id xs) le
not_found id (item.Console b ∷ xs) le = not_found id xs (omega arith)
not_found id (item.Packet b ∷ xs) le = not_found id xs (omega arith)

when_zero : (b : Bool) (n : ℕ) → cond (not b) (1 + n) 0 ≡ 0 → b ≡ true
when_zero true n e = refl
when_zero false n e = absurd (omega arith)

when_suc : (b : Bool) (n m : ℕ) → cond (not b) (1 + n) 0 ≡ suc m → (b ≡ false) × (n ≡ m)
when_suc true n m e = absurd (omega arith)
when_suc false n m e = (refl, omega arith)

-- what is taken from this place
pub record IsAt (id : ℕ) (xs : List Item) (m : ℕ) (d : Item) : Type 0 where
  pub item_is : short (get_or xs m d) ≡ Done id (has_bytes (get_or xs m d))
  pub first : done_of id (map short xs) ≡ Some (has_bytes (get_or xs m d))
  pub rest : without id (map short xs) ≡ map short (take m xs ++ drop (suc m) xs)

pub found : (id : ℕ) (xs : List Item) (m : ℕ) (d : Item) → position_or_len (λ x. is_done id x) xs ≡ m → m < length xs → IsAt id xs m d
found id [] m d e lt = absurd (omega arith)
found id (item.Done i r ∷ xs) zero d e lt =
    let here = when_zero (i == id) (position_or_len (λ x. is_done id x) xs) e in
    record { item_is = ap (λ n. Done n (is_some r)) (eqb-true i id here); first = ap (λ b. if b then Some (is_some r) else done_of id (map short xs)) here; rest = ap (λ b. if b then map short xs else (Done i (is_some r) ∷ without id (map short xs))) here }
found id (item.Done i r ∷ xs) (suc m) d e lt =
    let there = when_suc (i == id) (position_or_len (λ x. is_done id x) xs) m e in
    let t = found id xs m d there.1 (omega arith) in
    record { item_is = t.item_is; first = ap (λ b. if b then Some (is_some r) else done_of id (map short xs)) there.0 ∙ t.first; rest = ap (λ b. if b then map short xs else (Done i (is_some r) ∷ without id (map short xs))) there.0 ∙ ap (λ l. Done i (is_some r) ∷ l) t.rest }
found id (item.Console b ∷ xs) zero d e lt = absurd (omega arith)
found id (item.Console b ∷ xs) (suc m) d e lt = let t = found id xs m d (omega arith) (omega arith) in record { item_is = t.item_is; first = t.first; rest = ap (λ l. Console b ∷ l) t.rest }
found id (item.Packet b ∷ xs) zero d e lt = absurd (omega arith)
found id (item.Packet b ∷ xs) (suc m) d e lt = let t = found id xs m d (omega arith) (omega arith) in record { item_is = t.item_is; first = t.first; rest = ap (λ l. Packet b ∷ l) t.rest }

-- the same from the answer of a search
pub no_place : (id : ℕ) (xs : List Item) → position (λ x. is_done id x) xs ≡ None → done_of id (map short xs) ≡ None
no_place id xs e = go (nat_lt (position_or_len (λ x. is_done id x) xs) (length xs)) refl e
  where
    go : (b : Bool) → nat_lt (position_or_len (λ x. is_done id x) xs) (length xs) ≡ b → cond b (Some (position_or_len (λ x. is_done id x) xs)) None ≡ None → done_of id (map short xs) ≡ None
    go true is e = cc
    go false is e = not_found id xs (grind (arith, nat_tests))

pub place : (id : ℕ) (xs : List Item) (m : ℕ) (d : Item) → position (λ x. is_done id x) xs ≡ Some m → IsAt id xs m d
place id xs m d e = go (nat_lt (position_or_len (λ x. is_done id x) xs) (length xs)) refl e
  where
    go : (b : Bool) → nat_lt (position_or_len (λ x. is_done id x) xs) (length xs) ≡ b → cond b (Some (position_or_len (λ x. is_done id x) xs)) None ≡ Some m → IsAt id xs m d
    go true is e = let same : position_or_len (λ x. is_done id x) xs ≡ m = cc in let lt : position_or_len (λ x. is_done id x) xs < length xs = grind (arith, nat_tests) in found id xs m d same (subst (λ n. n < length xs) same lt)
    go false is e = cc

pub place_lt : (id : ℕ) (xs : List Item) (m : ℕ) → position (λ x. is_done id x) xs ≡ Some m → m < length xs
place_lt id xs m e = go (nat_lt (position_or_len (λ x. is_done id x) xs) (length xs)) refl e
  where
    go : (b : Bool) → nat_lt (position_or_len (λ x. is_done id x) xs) (length xs) ≡ b → cond b (Some (position_or_len (λ x. is_done id x) xs)) None ≡ Some m → m < length xs
    go true is e = let same : position_or_len (λ x. is_done id x) xs ≡ m = cc in let lt : position_or_len (λ x. is_done id x) xs < length xs = grind (arith, nat_tests) in subst (λ n. n < length xs) same lt
    go false is e = cc

-- a place was found where one is
pub some_done : (id : ℕ) (xs : List Item) (m : ℕ) → position (λ x. is_done id x) xs ≡ Some m → done_of id (map short xs) ≡ None → ⊥
some_done id xs m e none = let first = (place id xs m (item.Console []) e).first in cc
