-- A pass is taken in by the pass 0: the rule stays.
use Rattle.std.proofs.Common.{◌≡◌, ◌≢◌, ◌⊎◌, ℕ, ◌<◌, ◌≤◌, List, [], ◌∷◌, ◌++◌, length, Bool, true, false, true≢false, ◌||◌, ◌==◌, None, refl, sym, ap, ◌∙◌, subst, inl, inr, ⊎_elim, arith, ne_eqb, length-append, append-nil}
use Rattle.std.proofs.lemmas.Bool.Decides.{nat_tests}
use Rattle.std.proofs.lemmas.List.{nil_from_length}
use Rattle.std.specs.Prelude.{slice_set, if◌then◌else◌, nat_le}
use mathlib.Core.Option.{some, some-injective}
use mathlib.Core.Logic.{dite}
use native.Mathlib.Decide.{ℕ_discrete}
use lib.ListN.{get_elem?}
use Rattle.atomic_table.specs.Table.{State, Joins}
use Rattle.atomic_table.proofs.Lists.{at_set, set_else}
use Rattle.plain_hub.specs.declared.entry.Entry.{Entry}
use Rattle.replay_mutex.specs.declared.view.View.{View}
use Rattle.replay_mutex.specs.declared.view.Joined.{Joined}
use Rattle.replay_mutex.specs.Views.{Slot, StartsWith, calls_by, is_joined, longer, joined, taken_in, spent}
use Rattle.replay_mutex.specs.Rule.{Fits, Keeps, Ruled}
use Rattle.replay_mutex.proofs.Calls.{set_mine, calls_by-append, at_end, none_is_not}

-- of two beginnings of one list the longer begins with the shorter
pub begins_longer : (log xs ys : List Entry) → StartsWith log xs → StartsWith log ys → length xs ≤ length ys → StartsWith ys xs
begins_longer log [] ys a b le = (ys, refl)
begins_longer log (x ∷ xs) [] a b le = absurd (omega arith)
begins_longer log (x ∷ xs) (y ∷ ys) a b le =
    let both : x ∷ (xs ++ a.0) ≡ y ∷ (ys ++ b.0) = sym a.1 ∙ b.1 in
    let t = begins_longer (ys ++ b.0) xs ys (a.0, sym (tails x y (xs ++ a.0) (ys ++ b.0) both)) (b.0, refl) (omega arith) in
    (t.0, (λ i. heads x y (xs ++ a.0) (ys ++ b.0) (sym both) i ∷ t.1 i))
  where
    tails : (x y : Entry) (xs ys : List Entry) → x ∷ xs ≡ y ∷ ys → xs ≡ ys
    tails x y xs ys e = cc

    heads : (x y : Entry) (xs ys : List Entry) → y ∷ ys ≡ x ∷ xs → y ≡ x
    heads x y xs ys e = cc

whole : (log xs : List Entry) → StartsWith log xs → length log ≤ length xs → log ≡ xs
whole log xs a le = all a.0 xs log a.1 le
  where
    all : (more xs log : List Entry) → log ≡ xs ++ more → length log ≤ length xs → log ≡ xs
    all [] xs log e le = e ∙ append-nil xs
    all (y ∷ more) xs log e le = absurd (let n = ap length e in omega (arith, length-append xs (y ∷ more)))

is_le : (m n : ℕ) → nat_le m n ≡ true → m ≤ n
is_le m n e = grind (arith, nat_tests)

is_ge : (m n : ℕ) → nat_le m n ≡ false → n ≤ m
is_ge m n e = grind (arith, nat_tests)

-- the longer of two, by cases
by_longer : (P : List Entry → Type 0) (xs ys : List Entry) → (length ys ≤ length xs → P xs) → (length xs ≤ length ys → P ys) → P (longer xs ys)
by_longer P xs ys left right = go (nat_le (length ys) (length xs)) refl
  where
    go : (b : Bool) → nat_le (length ys) (length xs) ≡ b → P (if b then xs else ys)
    go true e = left (is_le (length ys) (length xs) e)
    go false e = right (is_ge (length ys) (length xs) e)

-- the calls between two beginnings with the same calls
no_calls : (p : ℕ) (xs ys zs : List Entry) → calls_by p ((xs ++ ys) ++ zs) ≡ calls_by p xs → calls_by p (xs ++ ys) ≡ calls_by p xs
no_calls p xs ys zs e =
    let a = calls_by-append p (xs ++ ys) zs in
    let b = calls_by-append p xs ys in
    let n : length (calls_by p ys) ≡ 0 = (let l = ap length e in let la = ap length a in let lb = ap length b in omega (arith, length-append (calls_by p (xs ++ ys)) (calls_by p zs), length-append (calls_by p xs) (calls_by p ys))) in
    b ∙ ap (λ l. calls_by p xs ++ l) (nil_from_length (calls_by p ys) n) ∙ append-nil (calls_by p xs)

-- a longer beginning has the same calls
same_calls : (p : ℕ) (log xs ys : List Entry) → StartsWith ys xs → StartsWith log ys → calls_by p log ≡ calls_by p xs → calls_by p ys ≡ calls_by p xs
same_calls p log xs ys a b e = ap (calls_by p) a.1 ∙ no_calls p xs a.0 b.0 (ap (calls_by p) (ap (λ l. l ++ b.0) (sym a.1) ∙ sym b.1) ∙ e)

is_joined-push : (n : ℕ) (xs : List Joined) (y : Joined) → is_joined n xs ≡ false → y.number ≢ n → is_joined n (xs ++ y ∷ []) ≡ false
is_joined-push n [] y e ne = ap (λ b. b || false) (ne_eqb y.number n ne)
is_joined-push n (x ∷ xs) y e ne = ap (λ b. b || is_joined n (xs ++ y ∷ [])) (or_left (x.number == n) _ e) ∙ is_joined-push n xs y (or_right (x.number == n) _ e) ne
  where
    or_left : (a b : Bool) → (a || b) ≡ false → a ≡ false
    or_left true b e = absurd (true≢false e)
    or_left false b e = refl

    or_right : (a b : Bool) → (a || b) ≡ false → b ≡ false
    or_right true b e = absurd (true≢false e)
    or_right false b e = e

module _ (id : ℕ) (v : View) (here : v.spent ≡ false) (first : v.number ≡ 0) (rests : v.noted ≡ None) (other : ℕ) (w : View) (there : w.spent ≡ false) (free : w.noted ≡ None)
    (s : State Slot View) (r : Ruled s) (at : get_elem? s.views id ≡ some v) (ne : other ≢ id) (with : get_elem? s.views other ≡ some w) where
  abbrev both : View
  both = taken_in v w

  abbrev views : List View
  views = slice_set (slice_set s.views id both) other spent

  k : Keeps r.log s.views v
  k = r.keeps id v at here first

  f : Fits r.log r.lock v
  f = r.each id v at here

  o : Fits r.log r.lock w
  o = r.each other w with there

  abbrev Where : ℕ → View → Type 0
  Where j u = ((j ≡ id) × (both ≡ u)) ⊎ ((j ≢ id) × (j ≢ other) × (get_elem? s.views j ≡ some u))

  where_is : (j : ℕ) (u : View) → get_elem? views j ≡ some u → u.spent ≡ false → Where j u
  where_is j u e live = ⊎_elim
      (λ (x : (j ≡ other) × (spent ≡ u)). absurd (true≢false (ap (λ (y : View). y.spent) x.1 ∙ live)))
      (λ (x : (j ≢ other) × (get_elem? (slice_set s.views id both) j ≡ some u)). ⊎_elim (λ (y : (j ≡ id) × (both ≡ u)). inl y) (λ (y : (j ≢ id) × (get_elem? s.views j ≡ some u)). inr (y.0, x.0, y.1)) (at_set s.views id j both u x.1))
      (at_set (slice_set s.views id both) other j spent u e)

  seen_begins : StartsWith r.log (longer v.seen w.seen)
  seen_begins = by_longer (StartsWith r.log) v.seen w.seen (λ _. f.begins) (λ _. o.begins)

  seen_own : calls_by v.number (longer v.seen w.seen) ≡ v.mine
  seen_own = by_longer (λ l. calls_by v.number l ≡ v.mine) v.seen w.seen (λ _. f.own_seen) (λ le. same_calls v.number r.log v.seen w.seen (begins_longer r.log v.seen w.seen f.begins o.begins le) o.begins (f.own ∙ sym f.own_seen) ∙ f.own_seen)

  fits : (j : ℕ) (u : View) → u.spent ≡ false → Where j u → Fits r.log r.lock u
  fits j u live (inl x) = subst (Fits r.log r.lock) x.1 record { begins = seen_begins; own = f.own; own_seen = seen_own; earlier = λ m x e. ⊎_elim (λ old. f.earlier m x old) (λ (new : (m ≡ length v.earlier) × (v.seen ≡ x)). subst (StartsWith r.log) new.1 f.begins) (at_end v.earlier v.seen x m e); held = λ h is. absurd (none_is_not v.noted h rests is) }
  fits j u live (inr x) = r.each j u x.2 live

  distinct : (i j : ℕ) (a b : View) → a.spent ≡ false → b.spent ≡ false → a.number ≡ b.number → Where i a → Where j b → i ≡ j
  distinct i j a b la lb same (inl x) (inl y) = x.0 ∙ sym y.0
  distinct i j a b la lb same (inl x) (inr y) = absurd (y.0 (r.distinct j id b v y.2 at lb here (sym same ∙ ap (λ (z : View). z.number) (sym x.1))))
  distinct i j a b la lb same (inr x) (inl y) = absurd (x.0 (r.distinct i id a v x.2 at la here (same ∙ ap (λ (z : View). z.number) (sym y.1))))
  distinct i j a b la lb same (inr x) (inr y) = r.distinct i j a b x.2 y.2 la lb same

  numbered : (j : ℕ) (u : View) → u.spent ≡ false → Where j u → (u.number < v.made) × (is_joined u.number (v.joined ++ joined w ∷ []) ≡ false)
  numbered j u live (inl x) = subst (λ (y : View). (y.number < v.made) × (is_joined y.number (v.joined ++ joined w ∷ []) ≡ false)) x.1 ((k.others id v at here).0, is_joined-push v.number v.joined (joined w) (k.others id v at here).1 (λ same. ne (r.distinct other id w v with at there here same)))
  numbered j u live (inr x) = ((k.others j u x.2 live).0, is_joined-push u.number v.joined (joined w) (k.others j u x.2 live).1 (λ same. x.1 (sym (r.distinct other j w u with x.2 there live same))))

  keeps : (i : ℕ) (a : View) → a.spent ≡ false → a.number ≡ 0 → Where i a → Keeps r.log views a
  keeps i a live z (inl x) = subst (Keeps r.log views) x.1 record {
    others = λ j u e l. numbered j u l (where_is j u e l);
    unmade = k.unmade;
    gone = λ m y e. ⊎_elim (λ old. k.gone m y old) (λ (new : (m ≡ length v.joined) × (joined w ≡ y)). subst (λ (q : Joined). StartsWith r.log q.seen × (calls_by q.number r.log ≡ q.mine) × (q.number < v.made) × (q.base ≡ v.base)) new.1 (o.begins, o.own, (k.others other w with there).0, r.based other w with there ∙ sym (r.based id v at here))) (at_end v.joined (joined w) y m e);
  }
  keeps i a live z (inr x) = absurd (x.0 (r.distinct i id a v x.2 at live here (z ∙ sym first)))

  mine : get_elem? views id ≡ some both
  mine = set_else (slice_set s.views id both) other id spent (λ e. ne (sym e)) ∙ set_mine s.views id v both at

  stays : (i : ℕ) (y : View) → i ≢ id → i ≢ other → get_elem? s.views i ≡ some y → get_elem? views i ≡ some y
  stays i y a b e = set_else (slice_set s.views id both) other i spent b ∙ set_else s.views id i both a ∙ e

  same_view : (i n : ℕ) (x y : View) → get_elem? s.views n ≡ some x → i ≡ n → get_elem? s.views i ≡ some y → x ≡ y
  same_view i n x y has e is = some-injective x y (sym has ∙ subst (λ m. get_elem? s.views m ≡ some y) e is)

  -- the longer of the two is the whole, where one of them is
  longest : (v.seen ≡ r.log) ⊎ (w.seen ≡ r.log) → longer v.seen w.seen ≡ r.log
  longest (inl e) = by_longer (λ l. l ≡ r.log) v.seen w.seen (λ _. e) (λ le. sym (whole r.log w.seen o.begins (let n = ap length e in omega arith)))
  longest (inr e) = by_longer (λ l. l ≡ r.log) v.seen w.seen (λ le. sym (whole r.log v.seen f.begins (let n = ap length e in omega arith))) (λ _. e)

  based : (j : ℕ) (u : View) → u.spent ≡ false → Where j u → u.base ≡ r.base
  based j u live (inl x) = ap (λ (y : View). y.base) (sym x.1) ∙ r.based id v at here
  based j u live (inr x) = r.based j u x.2 live

  pub taken_rule : Ruled record { words = s.words; homes = s.homes; views = views }
  taken_rule = record {
    base = r.base;
    log = r.log;
    lock = r.lock;
    words = r.words;
    legal = r.legal;
    home = r.home;
    holder = λ held. let h = r.holder held in (
      h.0,
      h.1,
      stays h.0 h.1
          (λ e. none_is_not v.noted r.log rests (ap (λ (y : View). y.noted) (same_view h.0 id v h.1 at e h.2) ∙ h.4))
          (λ e. none_is_not w.noted r.log free (ap (λ (y : View). y.noted) (same_view h.0 other w h.1 with e h.2) ∙ h.4))
          h.2,
      h.3,
      h.4,
    );
    top = let h = r.top in
        dite (ℕ_discrete h.0 id)
        (λ e. (id, both, mine, here, longest (inl (ap (λ (y : View). y.seen) (same_view h.0 id v h.1 at e h.2) ∙ h.4))))
        (λ a. dite (ℕ_discrete h.0 other)
        (λ e. (id, both, mine, here, longest (inr (ap (λ (y : View). y.seen) (same_view h.0 other w h.1 with e h.2) ∙ h.4))))
        (λ b. (h.0, h.1, stays h.0 h.1 a b h.2, h.3, h.4)));
    based = λ j u e live. based j u live (where_is j u e live);
    each = λ j u e live. fits j u live (where_is j u e live);
    distinct = λ i j a b ei ej la lb same. distinct i j a b la lb same (where_is i a ei la) (where_is j b ej lb);
    keeps = λ i a e live z. keeps i a live z (where_is i a e live);
  }

pub takes_in : (id : ℕ) (v : View) → v.spent ≡ false → v.number ≡ 0 → v.noted ≡ None → (other : ℕ) (w : View) → w.spent ≡ false → w.noted ≡ None → Joins Ruled id v other w (taken_in v w) spent
takes_in id v here first rests other w there free s r at ne with = taken_rule id v here first rests other w there free s r at ne (set_other (λ e. ne e) with)
  where
    set_other : other ≢ id → get_elem? (slice_set s.views id (taken_in v w)) other ≡ some w → get_elem? s.views other ≡ some w
    set_other apart e = sym (set_else s.views id other (taken_in v w) apart) ∙ e
