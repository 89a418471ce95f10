-- A table begins, a pass is made, and a pass is taken in: the rule stays.
use Rattle.std.proofs.Common.{◌≡◌, ◌≢◌, ◌⊎◌, ℕ, zero, suc, ◌+◌, ◌<◌, List, [], ◌∷◌, ◌++◌, length, true, false, true≢false, ◌||◌, Some, None, refl, sym, ap, ◌∙◌, subst, inl, inr, ⊎_elim, arith, ne_eqb}
use Rattle.std.specs.Prelude.{slice_set}
use mathlib.Core.Option.{some, some-injective, some-ne-none}
use mathlib.Core.Logic.{dite}
use native.Mathlib.Decide.{ℕ_discrete}
use lib.ListN.{get_elem?}
use Rattle.atomic_table.specs.Table.{State, opening, Splits}
use Rattle.atomic_table.proofs.Lists.{at_set, set_else, at_longer}
use Rattle.plain_hub.specs.declared.base.Base.{Base}
use Rattle.plain_hub.specs.Past.{past}
use Rattle.replay_mutex.specs.declared.view.View.{View}
use Rattle.replay_mutex.specs.declared.view.Joined.{Joined}
use Rattle.replay_mutex.specs.Views.{Slot, is_joined, newcomer, one_more}
use Rattle.replay_mutex.specs.Rule.{Fits, Keeps, Ruled}
use Rattle.replay_mutex.proofs.Calls.{set_mine, at_end, none_is_not}

not_false : true ≡ false → ⊥
not_false e = true≢false e

-- the table begins with an empty history, and the pass 0
pub begins : (b : Base) → Ruled (opening (0 ∷ 0 ∷ []) (Some (past b []) ∷ []) (newcomer b 0 1))
begins b = record {
  base = b;
  log = [];
  lock = 0;
  words = refl;
  legal = tt;
  home = λ _. refl;
  holder = λ ne. absurd (ne refl);
  top = (0, newcomer b 0 1, refl, refl, refl);
  based = λ i v at live. ap (λ (y : View). y.base) (sym (only i v at).1);
  each = λ i v at live. let is = only i v at in subst (Fits [] 0) is.1 record { begins = ([], refl); own = refl; own_seen = refl; earlier = λ m x e. absurd (some-ne-none x (sym e)); held = λ h e. absurd (none_is_not None h refl e) };
  distinct = λ i j v w ei ej lv lw same. (only i v ei).0 ∙ sym (only j w ej).0;
  keeps = λ i v at live n0. subst (Keeps [] (newcomer b 0 1 ∷ [])) (only i v at).1 record {
    others = λ j u e l. let is = only j u e in (subst (λ (y : View). y.number < 1) is.1 (omega arith), refl);
    unmade = λ n le. refl;
    gone = λ k x e. absurd (some-ne-none x (sym e));
  };
}
  where
    only : (i : ℕ) (v : View) → get_elem? (newcomer b 0 1 ∷ []) i ≡ some v → (i ≡ 0) × (newcomer b 0 1 ≡ v)
    only zero v e = (refl, some-injective _ _ e)
    only (suc i) v e = absurd (some-ne-none v (sym e))

-- numbers that were not made were not joined
unjoined : (n : ℕ) (xs : List Joined) → ((k : ℕ) (x : Joined) → get_elem? xs k ≡ some x → x.number < n) → is_joined n xs ≡ false
unjoined n [] below = refl
unjoined n (y ∷ xs) below = let lt : y.number < n = below 0 y refl in let ne : y.number ≢ n = (λ e. omega arith) in ap (λ b. b || is_joined n xs) (ne_eqb y.number n ne) ∙ unjoined n xs (λ k x e. below (suc k) x e)

-- a pass is made by the pass 0
module _ (id : ℕ) (v : View) (here : v.spent ≡ false) (first : v.number ≡ 0) (s : State Slot View) (r : Ruled s) (at : get_elem? s.views id ≡ some v) where
  abbrev w : View
  w = one_more v

  abbrev n : View
  n = newcomer v.base v.made 0

  abbrev views : List View
  views = slice_set s.views id w ++ n ∷ []

  k : Keeps r.log s.views v
  k = r.keeps id v at here first

  f : Fits r.log r.lock v
  f = r.each id v at here

  -- the pass 0, another that was there, or the new one
  abbrev Where : ℕ → View → Type 0
  Where j u = ((j ≡ id) × (w ≡ u)) ⊎ (((j ≢ id) × (get_elem? s.views j ≡ some u)) ⊎ ((j ≡ length (slice_set s.views id w)) × (n ≡ u)))

  where_is : (j : ℕ) (u : View) → get_elem? views j ≡ some u → Where j u
  where_is j u e = ⊎_elim
      (λ (x : get_elem? (slice_set s.views id w) j ≡ some u). ⊎_elim (λ (y : (j ≡ id) × (w ≡ u)). inl y) (λ (y : (j ≢ id) × (get_elem? s.views j ≡ some u)). inr (inl y)) (at_set s.views id j w u x))
      (λ (x : (j ≡ length (slice_set s.views id w)) × (n ≡ u)). inr (inr x))
      (at_end (slice_set s.views id w) n u j e)

  fits : (j : ℕ) (u : View) → u.spent ≡ false → Where j u → Fits r.log r.lock u
  fits j u live (inl x) = subst (Fits r.log r.lock) x.1 record { begins = f.begins; own = f.own; own_seen = f.own_seen; earlier = f.earlier; held = f.held }
  fits j u live (inr (inl x)) = r.each j u x.1 live
  fits j u live (inr (inr x)) = subst (Fits r.log r.lock) x.1 record { begins = (r.log, refl); own = k.unmade v.made (omega arith); own_seen = refl; earlier = λ m x e. absurd (some-ne-none x (sym e)); held = λ h is. absurd (none_is_not None h refl is) }

  -- its number is below the new one, or it is the new one
  numbered : (j : ℕ) (u : View) → u.spent ≡ false → Where j u → (u.number < v.made + 1) × (is_joined u.number v.joined ≡ false)
  numbered j u live (inl x) = let o = k.others id v at here in subst (λ (y : View). (y.number < v.made + 1) × (is_joined y.number v.joined ≡ false)) x.1 (let lt = o.0 in omega arith, o.1)
  numbered j u live (inr (inl x)) = let o = k.others j u x.1 live in (let lt = o.0 in omega arith, o.1)
  numbered j u live (inr (inr x)) = subst (λ (y : View). (y.number < v.made + 1) × (is_joined y.number v.joined ≡ false)) x.1 (omega arith, unjoined v.made v.joined (λ i y e. (k.gone i y e).2))

  -- below the new one where it was there
  old_number : (j : ℕ) (u y : View) → get_elem? s.views j ≡ some y → y.spent ≡ false → y.number ≡ u.number → u.number < v.made
  old_number j u y e live same = subst (λ m. m < v.made) same (k.others j y e live).0

  distinct : (i j : ℕ) (a b : View) → a.spent ≡ false → b.spent ≡ false → a.number ≡ b.number → Where i a → Where j b → i ≡ j
  distinct i j a b la lb same (inl x) (inl y) = x.0 ∙ sym y.0
  distinct i j a b la lb same (inl x) (inr (inl y)) = absurd (y.0 (r.distinct j id b v y.1 at lb here (sym same ∙ ap (λ (z : View). z.number) (sym x.1))))
  distinct i j a b la lb same (inl x) (inr (inr y)) = let lt : a.number < v.made = old_number id a v at here (ap (λ (z : View). z.number) x.1) in let is : v.made ≡ b.number = ap (λ (z : View). z.number) y.1 in absurd (omega arith)
  distinct i j a b la lb same (inr (inl x)) (inl y) = absurd (x.0 (r.distinct i id a v x.1 at la here (same ∙ ap (λ (z : View). z.number) (sym y.1))))
  distinct i j a b la lb same (inr (inl x)) (inr (inl y)) = r.distinct i j a b x.1 y.1 la lb same
  distinct i j a b la lb same (inr (inl x)) (inr (inr y)) = let lt : a.number < v.made = old_number i a a x.1 la refl in let is : v.made ≡ b.number = ap (λ (z : View). z.number) y.1 in absurd (omega arith)
  distinct i j a b la lb same (inr (inr x)) (inl y) = let lt : b.number < v.made = old_number id b v at here (ap (λ (z : View). z.number) y.1) in let is : v.made ≡ a.number = ap (λ (z : View). z.number) x.1 in absurd (omega arith)
  distinct i j a b la lb same (inr (inr x)) (inr (inl y)) = let lt : b.number < v.made = old_number j b b y.1 lb refl in let is : v.made ≡ a.number = ap (λ (z : View). z.number) x.1 in absurd (omega arith)
  distinct i j a b la lb same (inr (inr x)) (inr (inr y)) = x.0 ∙ sym y.0

  keeps : (i : ℕ) (a : View) → a.spent ≡ false → a.number ≡ 0 → Where i a → Keeps r.log views a
  keeps i a live z (inl x) = subst (Keeps r.log views) x.1 record {
    others = λ j u e l. numbered j u l (where_is j u e);
    unmade = λ m le. k.unmade m (omega arith);
    gone = λ m y e. let g = k.gone m y e in (g.0, g.1, let lt = g.2 in omega arith, g.3);
  }
  keeps i a live z (inr (inl x)) = absurd (x.0 (r.distinct i id a v x.1 at live here (z ∙ sym first)))
  keeps i a live z (inr (inr x)) = let lt = (k.others id v at here).0 in let is : v.made ≡ a.number = ap (λ (y : View). y.number) x.1 in absurd (omega arith)

  stays : (i : ℕ) (y : View) → i ≢ id → get_elem? s.views i ≡ some y → get_elem? views i ≡ some y
  stays i y ne e = at_longer (slice_set s.views id w) (n ∷ []) i y (set_else s.views id i w ne ∙ e)

  mine : get_elem? views id ≡ some w
  mine = at_longer (slice_set s.views id w) (n ∷ []) id w (set_mine s.views id v w at)

  same_view : (i : ℕ) (y : View) → i ≡ id → get_elem? s.views i ≡ some y → v ≡ y
  same_view i y e is = some-injective v y (sym at ∙ subst (λ m. get_elem? s.views m ≡ some y) e is)

  based : (j : ℕ) (u : View) → u.spent ≡ false → Where j u → u.base ≡ r.base
  based j u live (inl x) = ap (λ (y : View). y.base) (sym x.1) ∙ r.based id v at here
  based j u live (inr (inl x)) = r.based j u x.1 live
  based j u live (inr (inr x)) = ap (λ (y : View). y.base) (sym x.1) ∙ r.based id v at here

  pub split_rule : Ruled record { words = s.words; homes = s.homes; views = views }
  split_rule = record {
    base = r.base;
    log = r.log;
    lock = r.lock;
    words = r.words;
    legal = r.legal;
    home = r.home;
    holder = λ ne. let h = r.holder ne in
        dite (ℕ_discrete h.0 id)
        (λ e. (id, w, mine, here, ap (λ (y : View). y.noted) (same_view h.0 h.1 e h.2) ∙ h.4))
        (λ e. (h.0, h.1, stays h.0 h.1 e h.2, h.3, h.4));
    top = let h = r.top in
        dite (ℕ_discrete h.0 id)
        (λ e. (id, w, mine, here, ap (λ (y : View). y.seen) (same_view h.0 h.1 e h.2) ∙ h.4))
        (λ e. (h.0, h.1, stays h.0 h.1 e h.2, h.3, h.4));
    based = λ j u e live. based j u live (where_is j u e);
    each = λ j u e live. fits j u live (where_is j u e);
    distinct = λ i j a b ei ej la lb same. distinct i j a b la lb same (where_is i a ei) (where_is j b ej);
    keeps = λ i a e live z. keeps i a live z (where_is i a e);
  }

pub splits : (id : ℕ) (v : View) → v.spent ≡ false → v.number ≡ 0 → Splits Ruled id v (one_more v) (newcomer v.base v.made 0)
splits id v here first s r at = split_rule id v here first s r at
