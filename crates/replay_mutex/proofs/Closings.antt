-- Where all passes were taken in, the hub is home, and its history is that of all passes.
use Rattle.std.proofs.Common.{◌≡◌, ◌≢◌, ◌⊎◌, ℕ, zero, suc, ◌<◌, ◌≤◌, List, [], ◌∷◌, ◌++◌, length, Bool, true, false, true≢false, ◌||◌, ◌==◌, None, Some, refl, sym, ap, ◌∙◌, subst, inl, inr, ⊎_elim, arith, eq-eqb, append_assoc}
use Rattle.std.specs.Prelude.{All}
use Rattle.std.proofs.lemmas.Bool.{eqb-true}
use Rattle.std.proofs.lemmas.List.Elements.{All-cons}
use mathlib.Core.Option.{some, some-injective, some-ne-none}
use mathlib.Core.Logic.{dite}
use native.Mathlib.Decide.{ℕ_discrete}
use lib.ListN.{get_elem?}
use Rattle.atomic_table.specs.Table.{Final, Seen}
use Rattle.atomic_table.specs.Seated.{TableId}
use Rattle.atomic_table.proofs.Lists.{at_longer, at_last}
use Rattle.plain_hub.specs.declared.base.Base.{Base}
use Rattle.plain_hub.specs.declared.entry.Entry.{Entry}
use Rattle.plain_hub.specs.Hub.{Legal}
use Rattle.plain_hub.specs.Past.{Past, past}
use Rattle.plain_hub.specs.Proper.{Proper}
use Rattle.plain_hub.proofs.Contained.{all_head, all_tail, all_init}
use Rattle.replay_mutex.proofs.Calls.{none_is_not}
use Rattle.replay_mutex.specs.declared.view.View.{View}
use Rattle.replay_mutex.specs.declared.view.Joined.{Joined}
use Rattle.replay_mutex.specs.declared.pass.Pass.{Pass}
use Rattle.replay_mutex.specs.Views.{Slot, Sits, StartsWith, calls_by, is_joined, joined, taken_in}
use Rattle.replay_mutex.specs.Rule.{Ruled}
use Rattle.replay_mutex.specs.Shown.{knows, table_of}
use Rattle.replay_mutex.specs.Row.{has_number, Ended, IsWhole}

or_else : (a b : Bool) → (a || b) ≡ true → (a ≡ true) ⊎ (b ≡ true)
or_else true b e = inl refl
or_else false b e = inr e

joined_at : (n : ℕ) (js : List Joined) (k : ℕ) (x : Joined) → get_elem? js k ≡ some x → x.number ≡ n → is_joined n js ≡ true
joined_at n [] k x e same = absurd (some-ne-none x (sym e))
joined_at n (y ∷ js) zero x e same = ap (λ b. b || is_joined n js) (eq-eqb y.number n (ap (λ (z : Joined). z.number) (some-injective y x e) ∙ same))
joined_at n (y ∷ js) (suc k) x e same = or_right (y.number == n) _ (joined_at n js k x e same)
  where
    or_right : (a b : Bool) → b ≡ true → (a || b) ≡ true
    or_right true b e = refl
    or_right false b e = e

-- the pass was taken in
abbrev pub IsIn : List Joined → Pass → Type 0
IsIn js p = (k : ℕ) × (get_elem? js k ≡ some (joined (knows p)))

number_joined : (n : ℕ) (ps : List Pass) (js : List Joined) → has_number n ps ≡ true → All (IsIn js) ps → is_joined n js ≡ true
number_joined n [] js has all = absurd (true≢false (sym has))
number_joined n (p ∷ ps) js has all = ⊎_elim
    (λ (e : (p.number == n) ≡ true). let in_ = all_head (IsIn js) p ps all in joined_at n js in_.0 (joined (knows p)) in_.1 (p.numbered ∙ eqb-true p.number n e))
    (λ (e : has_number n ps ≡ true). number_joined n ps js e (all_tail (IsIn js) p ps all))
    (or_else (p.number == n) (has_number n ps) has)

-- what the first pass had seen is what the keeper has seen, or had
abbrev pub HasSeen : View → List Entry → Type 0
HasSeen v seen = (v.seen ≡ seen) ⊎ ((k : ℕ) × (get_elem? v.earlier k ≡ some seen))

-- while passes are taken in: the keeper is the pass 0 with its calls, and each pass is left or in
pub record Closing (z : TableId) (all : List Pass) (first : View) (left : List Pass) (at : TableId) (m : Sits) : Type 0 where
  pub place : at ≡ z
  pub mine : All (λ p. table_of p ≡ z) left
  pub empty : m.1 ≡ []
  pub here : m.0.spent ≡ false
  pub number : m.0.number ≡ 0
  pub free : m.0.noted ≡ None
  pub base : m.0.base ≡ first.base
  pub made : m.0.made ≡ first.made
  pub calls : m.0.mine ≡ first.mine
  pub seen : HasSeen m.0 first.seen
  pub others : (gone : List Pass) × (all ≡ left ++ gone) × All (IsIn m.0.joined) gone

still_in : (js : List Joined) (x : Joined) (ps : List Pass) → All (IsIn js) ps → All (IsIn (js ++ x ∷ [])) ps
still_in js x ps all = λ k p lt. let in_ = all k p lt in (in_.0, at_longer js (x ∷ []) in_.0 _ in_.1)

pub closing_step : (z : TableId) (all : List Pass) (first : View) (left new : List Pass) (p : Pass) (at at' : TableId) (m m' : Sits) → Closing z all first left at m → left ≡ new ++ p ∷ [] → at' ≡ at → m' ≡ (taken_in m.0 (knows p), m.1) → Closing z all first new at' m'
closing_step z all first left new p at at' m m' c is same now =
    let o = c.others in
    let n : Sits = (taken_in m.0 (knows p), m.1) in
    let more : HasSeen n.0 first.seen = ⊎_elim
    (λ (e : m.0.seen ≡ first.seen). inr (length m.0.earlier, subst (λ l. get_elem? (m.0.earlier ++ l ∷ []) (length m.0.earlier) ≡ some first.seen) (sym e) (at_last m.0.earlier first.seen (length m.0.earlier) refl)))
    (λ (e : (k : ℕ) × (get_elem? m.0.earlier k ≡ some first.seen)). inr (e.0, at_longer m.0.earlier (m.0.seen ∷ []) e.0 first.seen e.1))
    c.seen in
    let in_now : IsIn n.0.joined p = (length m.0.joined, at_last m.0.joined (joined (knows p)) (length m.0.joined) refl) in
    let step : Closing z all first new at' n = record {
      place = same ∙ c.place;
      mine = all_init (λ (q : Pass). table_of q ≡ z) new p (subst (λ l. All (λ (q : Pass). table_of q ≡ z) l) is c.mine);
      empty = c.empty;
      here = c.here;
      number = c.number;
      free = c.free;
      base = c.base;
      made = c.made;
      calls = c.calls;
      seen = more;
      others = (p ∷ o.0, o.1 ∙ ap (λ l. l ++ o.0) is ∙ append_assoc new (p ∷ []) o.0, All-cons (IsIn n.0.joined) p o.0 in_now (still_in m.0.joined (joined (knows p)) o.0 o.2));
    } in
    subst (Closing z all first new at') (sym now) step

all_in : (z : TableId) (all : List Pass) (first : View) (left : List Pass) (at : TableId) (m : Sits) → Closing z all first left at m → length left ≡ 0 → All (IsIn m.0.joined) all
all_in z all first left at m c none_left = subst (λ l. All (IsIn m.0.joined) l) (sym (c.others.1 ∙ ap (λ l. l ++ c.others.0) (empty left none_left))) c.others.2
  where
    empty : (l : List Pass) → length l ≡ 0 → l ≡ []
    empty [] e = refl
    empty (x ∷ l) e = absurd (omega arith)

-- the history of the first pass and these others, with this base
abbrev pub Whole : Past → Pass → List Pass → Type 0
Whole h first ps =
    Legal h.entries × All (λ p. (knows p).base ≡ h.base) (first ∷ ps) × All (Ended h.entries) (first ∷ ps)
    × ((n : ℕ) → first.made ≤ n → calls_by n h.entries ≡ [])

-- what a closed table tells
closes : (id : ℕ) (v : View) (first : Pass) (ps : List Pass) (words : List ℕ) (slots : List Slot) → v.spent ≡ false → v.number ≡ 0 → v.noted ≡ None → v.base ≡ (knows first).base → v.made ≡ first.made → ((n : ℕ) → n ≢ 0 → n < first.made → has_number n ps ≡ true) → All (IsIn v.joined) ps → HasSeen v (knows first).seen → v.mine ≡ (knows first).mine → (knows first).number ≡ 0
    → Final (Seen Ruled id v) words slots → (h : Past) × (get_elem? slots 0 ≡ some (Some h)) × Whole h first ps
closes id v first ps words slots here number free base made all gone seen mine first_is final =
    let s = final.0 in
    let r = final.1.0 in
    let at = final.1.1 in
    let k = r.keeps id v at here number in
    let f = r.each id v at here in
    let named : v.base ≡ r.base = r.based id v at here in
    let open_ : r.lock ≡ 0 =
    dite (ℕ_discrete r.lock 0)
    (λ e. e)
    (λ held.
    let h = r.holder held in
    let o = k.others h.0 h.1 h.2 h.3 in
    absurd (dite (ℕ_discrete h.1.number 0)
    (λ e. none_is_not v.noted r.log free (ap (λ (y : View). y.noted) (same_view s.views id h.0 v h.1 (r.distinct h.0 id h.1 v h.2 at h.3 here (e ∙ sym number)) at h.2) ∙ h.4))
    (λ ne. true≢false (sym (number_joined h.1.number ps v.joined (all h.1.number ne (subst (λ n. h.1.number < n) made o.0)) gone) ∙ o.1)))) in
    let first_ended : Ended r.log first = (⊎_elim (λ (e : v.seen ≡ (knows first).seen). subst (StartsWith r.log) e f.begins) (λ (e : (m : ℕ) × (get_elem? v.earlier m ≡ some (knows first).seen)). f.earlier e.0 (knows first).seen e.1) seen, ap (λ n. calls_by n r.log) (first_is ∙ sym number) ∙ f.own ∙ mine) in (
      past r.base r.log,
      final.4 0 (Some (past r.base r.log)) (ap (λ hs. get_elem? hs 0) (r.home open_)),
      (
        r.legal,
        All-cons (λ (p : Pass). (knows p).base ≡ r.base) first ps (sym base ∙ named) (λ m p lt. let in_ = gone m p lt in (k.gone in_.0 _ in_.1).3 ∙ named),
        All-cons (Ended r.log) first ps first_ended (λ m p lt. let in_ = gone m p lt in let g = k.gone in_.0 _ in_.1 in (g.0, g.1)),
        λ n le. k.unmade n (subst (λ q. q ≤ n) (sym made) le),
      ),
    )
  where
    same_view : (views : List View) (i j : ℕ) (x y : View) → j ≡ i → get_elem? views i ≡ some x → get_elem? views j ≡ some y → x ≡ y
    same_view views i j x y same ei ej = some-injective x y (sym ei ∙ subst (λ m. get_elem? views m ≡ some y) same ej)

pub whole_history : (z : TableId) (all : List Pass) (first : Pass) (left : List Pass) (at : TableId) (m : Sits) (id : ℕ) (words : List ℕ) (slots : List Slot) → Closing z all (knows first) left at m → length left ≡ 0 → first.number ≡ 0 → ((n : ℕ) → n ≢ 0 → n < first.made → has_number n all ≡ true)
    → Final (Seen Ruled id m.0) words slots → (found : Slot) → get_elem? slots 0 ≡ some found → (h : Past) × (found ≡ Some h) × Whole h first all
whole_history z all first left at m id words slots c none_left zeroth numbers final found has =
    let t = closes id m.0 first all words slots c.here c.number c.free c.base (c.made ∙ first.counted) numbers (all_in z all (knows first) left at m c none_left) c.seen c.calls (first.numbered ∙ zeroth) final in
    (t.0, some-injective found (Some t.0) (sym has ∙ t.1), t.2)

pub same_hub : (found : Slot) (h x : Past) → found ≡ Some h → found ≡ Some x → h ≡ x
same_hub found h x a b = cc

pub not_empty : (found : Slot) (h : Past) → found ≡ Some h → found ≡ None → ⊥
not_empty found h a b = cc

-- what the history of a hub is, that keeps what hubs keep
pub is_whole : (h : Past) (first : Pass) (ps : List Pass) → Whole h first ps → Proper h.base h.entries → length (first ∷ ps) ≡ first.made → IsWhole h.entries (first ∷ ps)
is_whole h first ps w proper count = record {
  legal = w.0;
  proper = λ k p lt. subst (λ (b : Base). Proper b h.entries) (sym (w.1 k p lt)) proper;
  ended = w.2;
  others = λ n le. w.3 n (subst (λ c. c ≤ n) count le);
}
