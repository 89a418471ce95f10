-- One pass, that holds the hub or finds it free, changes its view: the rule stays.
use Rattle.std.proofs.Common.{◌≡◌, ◌≢◌, ◌⊎◌, ℕ, ◌<◌, ◌≤◌, List, [], ◌∷◌, length, set, false, Some, refl, sym, ap, ◌∙◌, subst, ⊎_elim, arith}
use mathlib.Core.Option.{Option as Maybe, some, some-injective}
use mathlib.Core.Logic.{dite}
use native.Mathlib.Decide.{ℕ_discrete}
use lib.ListN.{get_elem?}
use Rattle.atomic_table.specs.Table.{State}
use Rattle.atomic_table.proofs.Lists.{at_set, set_else}
use Rattle.plain_hub.specs.declared.entry.Entry.{Entry}
use Rattle.plain_hub.specs.Hub.{Legal}
use Rattle.plain_hub.specs.Past.{past}
use Rattle.replay_mutex.specs.declared.view.View.{View}
use Rattle.replay_mutex.specs.Views.{Slot, StartsWith, calls_by, is_joined}
use Rattle.replay_mutex.specs.Rule.{Fits, Keeps, Ruled}
use Rattle.replay_mutex.proofs.Calls.{starts_trans, not_joined, set_mine}

-- no other pass holds the hub
abbrev pub IsIdle : List View → ℕ → Type 0
IsIdle views id = (j : ℕ) (u : View) → j ≢ id → get_elem? views j ≡ some u → u.spent ≡ false → (h : List Entry) → u.noted ≡ Some h → ⊥

-- what a pass has afterwards
pub record Turn (before : List Entry) (v : View) (log : List Entry) (lock : ℕ) (w : View) : Type 0 where
  pub longer : StartsWith log before
  pub only : (n : ℕ) → n ≢ v.number → calls_by n log ≡ calls_by n before
  pub legal : Legal log
  pub here : w.spent ≡ false
  pub base : w.base ≡ v.base
  pub number : w.number ≡ v.number
  pub made : w.made ≡ v.made
  pub joined : w.joined ≡ v.joined
  pub fits : Fits log lock w
  pub holds : lock ≢ 0 → w.noted ≡ Some log
  pub top : (w.seen ≡ log) ⊎ ((log ≡ before) × (w.seen ≡ v.seen))

module _ (s : State Slot View) (r : Ruled s) (id : ℕ) (v : View) (at : get_elem? s.views id ≡ some v) (here : v.spent ≡ false) (idle : IsIdle s.views id) (log : List Entry) (lock : ℕ) (w : View) (t : Turn r.log v log lock w) where
  abbrev views : List View
  views = set s.views id w

  there : (j : ℕ) (u : View) → get_elem? views j ≡ some u → ((j ≡ id) × (w ≡ u)) ⊎ ((j ≢ id) × (get_elem? s.views j ≡ some u))
  there j u e = at_set s.views id j w u e

  -- another pass has another number
  apart : (j : ℕ) (u : View) → j ≢ id → get_elem? s.views j ≡ some u → u.spent ≡ false → u.number ≢ v.number
  apart j u ne e live = λ same. ne (r.distinct j id u v e at live here same)

  fits : (j : ℕ) (u : View) → get_elem? views j ≡ some u → u.spent ≡ false → Fits log lock u
  fits j u e live =
      ⊎_elim
      (λ (x : (j ≡ id) × (w ≡ u)). subst (λ (y : View). Fits log lock y) x.1 t.fits)
      (λ (x : (j ≢ id) × (get_elem? s.views j ≡ some u)).
      let f = r.each j u x.1 live in
      record {
        begins = starts_trans log r.log u.seen t.longer f.begins;
        own = t.only u.number (apart j u x.0 x.1 live) ∙ f.own;
        own_seen = f.own_seen;
        earlier = λ k x e. starts_trans log r.log x t.longer (f.earlier k x e);
        held = λ h is. absurd (idle j u x.0 x.1 live h is);
      })
      (there j u e)

  -- the number that a view had before
  had : (j : ℕ) (u : View) → get_elem? views j ≡ some u → u.spent ≡ false → (y : View) × (get_elem? s.views j ≡ some y) × (y.spent ≡ false) × (y.number ≡ u.number)
  had j u e live =
      ⊎_elim
      (λ (x : (j ≡ id) × (w ≡ u)). (v, subst (λ k. get_elem? s.views k ≡ some v) (sym x.0) at, here, sym t.number ∙ ap (λ (y : View). y.number) x.1))
      (λ (x : (j ≢ id) × (get_elem? s.views j ≡ some u)). (u, x.1, live, refl))
      (there j u e)

  keeps_as : (a b : View) → Keeps r.log s.views a → b.base ≡ a.base → b.made ≡ a.made → b.joined ≡ a.joined → Keeps log views b
  keeps_as a b k based made joined =
      let mine = k.others id v at here in
      record {
        others = λ j u e live.
            let y = had j u e live in
            let o = k.others j y.0 y.1 y.2 in
            (subst (λ n. n < b.made) y.3 (subst (λ n. y.0.number < n) (sym made) o.0), subst (λ n. is_joined n b.joined ≡ false) y.3 (subst (λ l. is_joined y.0.number l ≡ false) (sym joined) o.1));
        unmade = λ n le. let le' : a.made ≤ n = subst (λ m. m ≤ n) made le in let lt : v.number < a.made = mine.0 in t.only n (λ same. absurd (omega arith)) ∙ k.unmade n le';
        gone = λ i x e.
            let e' = subst (λ l. get_elem? l i ≡ some x) joined e in
            let g = k.gone i x e' in
            (starts_trans log r.log x.seen t.longer g.0, t.only x.number (not_joined v.number a.joined i x mine.1 e') ∙ g.1, subst (λ n. x.number < n) (sym made) g.2, g.3 ∙ sym based);
      }

  -- it names the base that it named before
  based : (j : ℕ) (u : View) → get_elem? views j ≡ some u → u.spent ≡ false → u.base ≡ r.base
  based j u e live =
      ⊎_elim
      (λ (x : (j ≡ id) × (w ≡ u)). ap (λ (y : View). y.base) (sym x.1) ∙ t.base ∙ r.based id v at here)
      (λ (x : (j ≢ id) × (get_elem? s.views j ≡ some u)). r.based j u x.1 live)
      (there j u e)

  pub moved : (words : List ℕ) (homes : List (Maybe Slot)) → words ≡ lock ∷ length log ∷ [] → (lock ≡ 0 → homes ≡ some (Some (past r.base log)) ∷ []) → Ruled record { words = words; homes = homes; views = views }
  moved words homes is home = record {
    base = r.base;
    log = log;
    lock = lock;
    words = is;
    legal = t.legal;
    home = home;
    holder = λ ne. (id, w, set_mine s.views id v w at, t.here, t.holds ne);
    top = ⊎_elim
        (λ (e : w.seen ≡ log). (id, w, set_mine s.views id v w at, t.here, e))
        (λ (e : (log ≡ r.log) × (w.seen ≡ v.seen)).
        dite (ℕ_discrete r.top.0 id)
        (λ same. (id, w, set_mine s.views id v w at, t.here, e.1 ∙ ap (λ (y : View). y.seen) (some-injective v r.top.1 (sym at ∙ subst (λ k. get_elem? s.views k ≡ some r.top.1) same r.top.2)) ∙ r.top.4 ∙ sym e.0))
        (λ ne. (r.top.0, r.top.1, set_else s.views id r.top.0 w ne ∙ r.top.2, r.top.3, r.top.4 ∙ sym e.0)))
        t.top;
    based = based;
    each = fits;
    distinct = λ i j a b ei ej la lb same.
        let x = had i a ei la in
        let y = had j b ej lb in
        r.distinct i j x.0 y.0 x.1 y.1 x.2 y.2 (x.3 ∙ same ∙ sym y.3);
    keeps = λ i a e live zero.
        ⊎_elim
        (λ (x : (i ≡ id) × (w ≡ a)). subst (λ (y : View). Keeps log views y) x.1 (keeps_as v w (r.keeps id v at here (sym t.number ∙ ap (λ (y : View). y.number) x.1 ∙ zero)) t.base t.made t.joined))
        (λ (x : (i ≢ id) × (get_elem? s.views i ≡ some a)). keeps_as a a (r.keeps i a x.1 live zero) refl refl refl)
        (there i a e);
  }
