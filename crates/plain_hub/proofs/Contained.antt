-- Elements of lists.
use Rattle.std.proofs.lemmas.List.{get_or_append_left, get_or_at, length-append}
use Rattle.std.proofs.Common.{subst, ◌≡◌, ◌⊎◌, ℕ, zero, suc, ◌<◌, List, [], ◌∷◌, ◌++◌, length, get_or, refl, inl, inr, ⊎_elim, arith}
use Rattle.std.specs.Prelude.{All, Contains, take, drop, remove}
use Rattle.std.proofs.lemmas.List.Elements.{All-append, All-take, All-drop}

module _ {X : Type 0} where
  pub not_in_nil : (x : X) → Contains [] x → ⊥
  not_in_nil x has = absurd (let lt = has.1 in omega arith)

  pub in_front : (x y : X) (ys : List X) → y ≡ x → Contains (y ∷ ys) x
  in_front x y ys is = (0, omega arith, is)

  pub in_rest : (x y : X) (ys : List X) → Contains ys x → Contains (y ∷ ys) x
  in_rest x y ys has = let lt = has.1 in (suc has.0, omega arith, has.2)

  pub where_in : (x y : X) (ys : List X) → Contains (y ∷ ys) x → (y ≡ x) ⊎ Contains ys x
  where_in x y ys has = go has.0 has.1 has.2
    where
      go : (k : ℕ) → k < length (y ∷ ys) → get_or (y ∷ ys) k x ≡ x → (y ≡ x) ⊎ Contains ys x
      go zero lt is = inl is
      go (suc k) lt is = inr (k, omega arith, is)

  pub in_left : (x : X) (xs ys : List X) → Contains xs x → Contains (xs ++ ys) x
  in_left x [] ys has = absurd (not_in_nil x has)
  in_left x (z ∷ xs) ys has = ⊎_elim
      (λ (e : z ≡ x). in_front x z (xs ++ ys) e)
      (λ (h : Contains xs x). in_rest x z (xs ++ ys) (in_left x xs ys h))
      (where_in x z xs has)

  pub in_either : (x : X) (xs ys : List X) → Contains (xs ++ ys) x → Contains xs x ⊎ Contains ys x
  in_either x [] ys has = inr has
  in_either x (z ∷ xs) ys has = ⊎_elim
      (λ (e : z ≡ x). inl (in_front x z xs e))
      (λ (h : Contains (xs ++ ys) x).
      ⊎_elim (λ (a : Contains xs x). inl (in_rest x z xs a)) (λ (b : Contains ys x). inr b) (in_either x xs ys h))
      (where_in x z (xs ++ ys) has)

  pub is_last : (x y : X) → Contains (y ∷ []) x → y ≡ x
  is_last x y has = ⊎_elim (λ (e : y ≡ x). e) (λ (h : Contains [] x). absurd (not_in_nil x h)) (where_in x y [] has)

  pub all_one : (P : X → Type 0) (x : X) → P x → All P (x ∷ [])
  all_one P x is zero d lt = is
  all_one P x is (suc k) d lt = absurd (omega arith)

  pub all_tail : (P : X → Type 0) (x : X) (xs : List X) → All P (x ∷ xs) → All P xs
  all_tail P x xs all k d lt = all (suc k) d (omega arith)

  pub all_head : (P : X → Type 0) (x : X) (xs : List X) → All P (x ∷ xs) → P x
  all_head P x xs all = all 0 x (omega arith)

  pub all_removed : (P : X → Type 0) (xs : List X) (k : ℕ) → All P xs → All P (remove xs k)
  all_removed P xs k all = All-append P (take k xs) (drop (suc k) xs) (All-take P k xs all) (All-drop P (suc k) xs all)

  pub all_init : (P : X → Type 0) (xs : List X) (x : X) → All P (xs ++ x ∷ []) → All P xs
  all_init P xs x all k d lt = subst P (get_or_append_left xs (x ∷ []) d k lt) (all k d (let n = length-append xs (x ∷ []) in omega arith))

  pub all_end : (P : X → Type 0) (xs : List X) (x : X) → All P (xs ++ x ∷ []) → P x
  all_end P xs x all = subst P (get_or_at xs x [] x (length xs) refl) (all (length xs) x (let n = length-append xs (x ∷ []) in omega arith))
