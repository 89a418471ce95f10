-- Each step of a pass keeps the rule.
use Rattle.std.proofs.Common.{◌≡◌, ◌≢◌, ℕ, ◌+◌, ◌<◌, ◌%◌, ◌^◌, List, [], ◌∷◌, ◌++◌, length, drop, false, ◌==◌, Some, None, refl, sym, ap, ◌∙◌, subst, inl, inr, arith, eq-eqb, ne_eqb, length-append}
use Rattle.std.specs.Prelude.{MatchBool, slice_index, slice_set}
use Rattle.std.proofs.Math.Nat.{mod-eq_of_lt}
use mathlib.Core.Option.{Option as Maybe, some, none}
use prog.Atomic.{either}
use lib.ListN.{get_elem?}
use Rattle.atomic_table.specs.Table.{State, Me, Step, step, Allows, Act, keeps, takes, gives, stepped, rest}
use Rattle.atomic_table.proofs.Lists.{set_again, exchanged}
use Rattle.plain_hub.specs.declared.entry.Entry.{Entry}
use Rattle.plain_hub.specs.Hub.{Legal}
use Rattle.plain_hub.specs.Past.{Past, past}
use Rattle.replay_mutex.specs.declared.view.View.{View}
use Rattle.replay_mutex.specs.Views.{Slot, StartsWith, calls_by, knowing, Sits}
use Rattle.replay_mutex.specs.Rule.{Ruled}
use Rattle.replay_mutex.specs.Plays.{or_none, in_hand, Took, Takes, counted, Counts, Loads, Returns}
use Rattle.replay_mutex.specs.Holding.{Rests}
use Rattle.replay_mutex.proofs.Calls.{starts_again, starts_trans, calls_by-own, calls_by-other, dropped, none_is_not}
use Rattle.replay_mutex.proofs.Moved.{IsIdle, moved}

some_is : (x y : List Entry) → Some x ≡ Some y → x ≡ y
some_is x y e = cc

-- where the lock is free, nobody holds the hub
idle_free : (s : State Slot View) (r : Ruled s) (id : ℕ) → r.lock ≡ 0 → IsIdle s.views id
idle_free s r id free j u other e live h is = let f = ((r.each j u e live).held h is).0 in absurd (omega arith)

-- where a pass holds it, no other does
idle_held : (s : State Slot View) (r : Ruled s) (id : ℕ) (v : View) → get_elem? s.views id ≡ some v → v.spent ≡ false → (h : List Entry) → v.noted ≡ Some h → IsIdle s.views id
idle_held s r id v at here h is j u other e live h' is' =
    let f = ((r.each id v at here).held h is).0 in
    let g = ((r.each j u e live).held h' is').0 in
    other (r.distinct j id u v e at live here (omega arith))

same_rule : (s : State Slot View) → Ruled s → (words : List ℕ) (views : List View) → words ≡ s.words → views ≡ s.views → Ruled record { words = words; homes = s.homes; views = views }
same_rule s r words views p q = subst Ruled (λ i. record { words = sym p i; homes = s.homes; views = sym q i }) r

-- the slot is taken out
module _ (id : ℕ) (v : View) (here : v.spent ≡ false) (free : v.noted ≡ None) where
  pub out_allows : Allows Ruled 1 id (v, []) 0 (λ n. either (n == 0) (v.number + 1) n) (Takes (step 1 0 0 (v.number + 1) none) (v, []))
  out_allows s r len at small =
      let n : ℕ = slice_index s.words 0 in
      let lock : n ≡ r.lock = ap (λ l. slice_index l 0) r.words in
      let f = r.each id v at here in
      exchanged n 0 (v.number + 1)
      (λ k. (w : View) × (a : Act Slot) × Rattle.atomic_table.specs.Table.Valid s.homes [] a × Ruled (stepped s 0 k id [] w a) × Takes (step 1 0 0 (v.number + 1) none) (v, []) n (w, Rattle.atomic_table.specs.Table.carried_after [] a))
      (λ zero.
      let open_ : r.lock ≡ 0 = sym lock ∙ zero in
      let w = knowing v (Some r.log) v.seen v.mine in
      let hub = past r.base r.log in
      let m' : Sits = (w, (0, Some hub) ∷ []) in
      let took : Took (v, []) m' = (hub, (f.begins, f.own, r.legal, sym (r.based id v at here)), refl) in (
        w,
        takes 0 (Some hub),
        ap (λ hs. get_elem? hs 0) (r.home open_),
        moved s r id v at here (idle_free s r id open_) r.log (v.number + 1) w
            record {
              longer = starts_again r.log;
              only = λ m ne. refl;
              legal = r.legal;
              here = here;
              base = refl;
              number = refl;
              made = refl;
              joined = refl;
              fits = record { begins = f.begins; own = f.own; own_seen = f.own_seen; earlier = f.earlier; held = λ h is. (refl, sym (some_is r.log h is)) };
              holds = λ _. refl;
              top = inr (refl, refl);
            }
            (slice_set s.words 0 (v.number + 1)) (slice_set s.homes 0 none) (ap (λ l. slice_set l 0 (v.number + 1)) r.words) (λ z. absurd (omega arith)),
        subst (λ b. MatchBool b (Took (v, []) m') (m' ≡ (v, []))) (sym (eq-eqb n 0 zero)) took,
      ))
      (λ taken. let m' : Sits = (v, []) in (
        v,
        keeps,
        tt,
        same_rule s r _ _ (ap (λ l. slice_set l 0 (slice_index l 0)) r.words ∙ sym r.words) (set_again s.views id v at),
        subst (λ b. MatchBool b (Took (v, []) m') (m' ≡ (v, []))) (sym (ne_eqb n 0 taken)) refl,
      ))

-- the pass holds the hub, with this history in the slot in hand
module _ (id : ℕ) (v : View) (here : v.spent ≡ false) (h : List Entry) (noted : v.noted ≡ Some h) where
  -- the history is an entry longer
  pub counts_allows : (hub : Past) (e : Entry) → hub.entries ≡ h ++ e ∷ [] → e.pass ≡ v.number → Legal hub.entries → length hub.entries < 2 ^ 64 → Allows Ruled 1 id (v, (0, Some hub) ∷ []) 1 (λ n. (n + 1) % 2 ^ 64) (Counts (step 1 1 1 0 none) (v, (0, Some hub) ∷ []))
  counts_allows hub e is by legal small s r len at fit =
      let now = hub.entries in
      let n : ℕ = slice_index s.words 1 in
      let f = r.each id v at here in
      let held = f.held h noted in
      let long : now ≡ r.log ++ e ∷ [] = is ∙ ap (λ l. l ++ e ∷ []) held.1 in
      let count : n ≡ length r.log = ap (λ l. slice_index l 1) r.words in
      let longer_ : length now ≡ length r.log + 1 = omega (arith, ap length long, length-append r.log (e ∷ [])) in
      let up : (n + 1) % 2 ^ 64 ≡ length now = (let fits_ : n + 1 < 2 ^ 64 = omega arith in mod-eq_of_lt fits_ ∙ omega arith) in
      let w = counted v now in
      let news : drop (length (or_none v.noted)) now ≡ e ∷ [] = ap (λ o. drop (length (or_none o)) now) noted ∙ ap (drop (length h)) is ∙ dropped h (e ∷ []) in
      let own : calls_by v.number now ≡ w.mine = ap (calls_by v.number) long ∙ calls_by-own v.number r.log e by ∙ ap (λ l. l ++ e ∷ []) f.own ∙ ap (λ l. v.mine ++ l) (sym news) in (
        w,
        keeps,
        tt,
        moved s r id v at here (idle_held s r id v at here h noted) now r.lock w
            record {
              longer = (e ∷ [], long);
              only = λ m ne. ap (calls_by m) long ∙ calls_by-other m r.log e (λ same. ne (sym same ∙ by));
              legal = legal;
              here = here;
              base = refl;
              number = refl;
              made = refl;
              joined = refl;
              fits = record { begins = starts_again now; own = own; own_seen = own; earlier = λ m x has. starts_trans now r.log x (e ∷ [], long) (f.earlier m x has); held = λ h' is'. (held.0, sym (some_is now h' is')) };
              holds = λ _. refl;
              top = inl refl;
            }
            (slice_set s.words 1 ((n + 1) % 2 ^ 64)) s.homes (ap (λ l. slice_set l 1 ((n + 1) % 2 ^ 64)) r.words ∙ ap (λ k. r.lock ∷ k ∷ []) up) (λ z. absurd (let l = held.0 in omega arith)),
        refl,
      )

  -- the history is seen
  pub loads_allows : (hub : Past) → Allows Ruled 1 id (v, (0, Some hub) ∷ []) 1 (λ n. n) (Loads (step 1 1 0 0 none) (v, (0, Some hub) ∷ []))
  loads_allows hub s r len at fit =
      let n : ℕ = slice_index s.words 1 in
      let f = r.each id v at here in
      let held = f.held h noted in
      let all : or_none v.noted ≡ r.log = ap or_none noted ∙ held.1 in
      let count : n ≡ length (or_none v.noted) = ap (λ l. slice_index l 1) r.words ∙ ap length (sym all) in
      let w = knowing v v.noted (or_none v.noted) v.mine in (
        w,
        keeps,
        tt,
        moved s r id v at here (idle_held s r id v at here h noted) r.log r.lock w
            record {
              longer = starts_again r.log;
              only = λ m ne. refl;
              legal = r.legal;
              here = here;
              base = refl;
              number = refl;
              made = refl;
              joined = refl;
              fits = record { begins = subst (StartsWith r.log) (sym all) (starts_again r.log); own = f.own; own_seen = ap (calls_by v.number) all ∙ f.own; earlier = f.earlier; held = f.held };
              holds = λ _. noted ∙ ap (λ l. Some l) held.1;
              top = inl all;
            }
            (slice_set s.words 1 n) s.homes (ap (λ l. slice_set l 1 (slice_index l 1)) r.words) r.home,
        (refl, count),
      )

  -- the slot goes back
  pub returns_allows : (hub : Past) → hub.entries ≡ h → hub.base ≡ v.base → Allows Ruled 1 id (v, (0, Some hub) ∷ []) 0 (λ _. 0) (λ _. Returns (step 1 0 0 0 none) (v, (0, Some hub) ∷ []) 0)
  returns_allows hub entries base s r len at fit =
      let f = r.each id v at here in
      let held = f.held h noted in
      let is : hub ≡ past r.base r.log = (λ i. past ((base ∙ r.based id v at here) i) ((entries ∙ held.1) i)) in
      let w = knowing v None v.seen v.mine in (
        w,
        gives,
        tt,
        moved s r id v at here (idle_held s r id v at here h noted) r.log 0 w
            record {
              longer = starts_again r.log;
              only = λ m ne. refl;
              legal = r.legal;
              here = here;
              base = refl;
              number = refl;
              made = refl;
              joined = refl;
              fits = record { begins = f.begins; own = f.own; own_seen = f.own_seen; earlier = f.earlier; held = λ h' is'. absurd (none_is_not None h' refl is') };
              holds = λ ne. absurd (ne refl);
              top = inr (refl, refl);
            }
            (slice_set s.words 0 0) (slice_set s.homes 0 (some (Some hub))) (ap (λ l. slice_set l 0 0) r.words) (λ _. one_slot s.homes (Some hub) len ∙ ap (λ l. some (Some l) ∷ []) is),
        refl,
      )
    where
      one_slot : (hs : List (Maybe Slot)) (x : Slot) → length hs ≡ 1 → slice_set hs 0 (some x) ≡ some x ∷ []
      one_slot [] x e = absurd (omega arith)
      one_slot (y ∷ []) x e = refl
      one_slot (y ∷ z ∷ hs) x e = absurd (omega arith)

-- the same, as the calls ask for them
pub out_as : (slots id p : ℕ) (m : Sits) → slots ≡ 1 → Rests m → m.0.number ≡ p → Allows Ruled slots id m 0 (λ n. either (n == 0) (p + 1) n) (Takes (step slots 0 0 (p + 1) none) m)
out_as slots id p m one rests number = subst (λ (t : ℕ × List (ℕ × Slot) × ℕ). Allows Ruled t.0 id (m.0, t.1) 0 (λ n. either (n == 0) (t.2 + 1) n) (Takes (step t.0 0 0 (t.2 + 1) none) (m.0, t.1))) (λ i. (sym one i, sym rests.2 i, number i)) (out_allows id m.0 rests.0 rests.1)

pub took : (m : Sits) (found : ℕ) (m' : Sits) → MatchBool (found == 0) (Took m m') (m' ≡ m) → found ≡ 0 → Took m m'
took m found m' t free = subst (λ b. MatchBool b (Took m m') (m' ≡ m)) (eq-eqb found 0 free) t

pub not_took : (m : Sits) (found : ℕ) (m' : Sits) → MatchBool (found == 0) (Took m m') (m' ≡ m) → found ≢ 0 → m' ≡ m
not_took m found m' t held = subst (λ b. MatchBool b (Took m m') (m' ≡ m)) (ne_eqb found 0 held) t

-- the slot is in hand
pub has_slot : (m m' : Sits) → Took m m' → (x : Slot) × (m'.1 ≡ (0, x) ∷ rest m'.1)
has_slot m m' t = let p = ap (λ (y : Sits). y.1) t.2 in (Some t.0, p ∙ ap (λ l. (0, Some t.0) ∷ l) (sym (ap rest p)))

-- the hub was moved back into the slot
pub moved_in : (m n : Sits) (x : Past) → m.1 ≡ (0, None) ∷ [] → n ≡ (m.0, (0, Some x) ∷ rest m.1) → n ≡ (m.0, (0, Some x) ∷ [])
moved_in m n x out is = is ∙ (λ i. (m.0, (0, Some x) ∷ rest (out i)))

pub counts_at : (slots id : ℕ) (m : Sits) (v : View) (h : List Entry) (hub : Past) (e : Entry) → slots ≡ 1 → v.spent ≡ false → v.noted ≡ Some h → m ≡ (v, (0, Some hub) ∷ []) → hub.entries ≡ h ++ e ∷ [] → e.pass ≡ v.number → Legal hub.entries → length hub.entries < 2 ^ 64 → Allows Ruled slots id m 1 (λ n. (n + 1) % 2 ^ 64) (Counts (step slots 1 1 0 none) m)
counts_at slots id m v h hub e one here noted has is by legal small = subst (λ (t : ℕ × Sits). Allows Ruled t.0 id t.1 1 (λ n. (n + 1) % 2 ^ 64) (Counts (step t.0 1 1 0 none) t.1)) (λ i. (sym one i, sym has i)) (counts_allows id v here h noted hub e is by legal small)

pub loads_at : (slots id : ℕ) (m : Sits) (v : View) (hub : Past) → slots ≡ 1 → v.spent ≡ false → v.noted ≡ Some hub.entries → m ≡ (v, (0, Some hub) ∷ []) → Allows Ruled slots id m 1 (λ n. n) (Loads (step slots 1 0 0 none) m)
loads_at slots id m v hub one here noted has = subst (λ (t : ℕ × Sits). Allows Ruled t.0 id t.1 1 (λ n. n) (Loads (step t.0 1 0 0 none) t.1)) (λ i. (sym one i, sym has i)) (loads_allows id v here hub.entries noted hub)

pub returns_at : (slots id : ℕ) (m : Sits) (v : View) (hub : Past) → slots ≡ 1 → v.spent ≡ false → v.noted ≡ Some hub.entries → hub.base ≡ v.base → m ≡ (v, (0, Some hub) ∷ []) → Allows Ruled slots id m 0 (λ _. 0) (λ _. Returns (step slots 0 0 0 none) m 0)
returns_at slots id m v hub one here noted base has = subst (λ (t : ℕ × Sits). Allows Ruled t.0 id t.1 0 (λ _. 0) (λ _. Returns (step t.0 0 0 0 none) t.1 0)) (λ i. (sym one i, sym has i)) (returns_allows id v here hub.entries noted hub refl base)

pub after_load : (m n : Sits) (v : View) (hub : Past) → m ≡ (v, (0, Some hub) ∷ []) → v.noted ≡ Some hub.entries → n ≡ (knowing m.0 m.0.noted (or_none m.0.noted) m.0.mine, m.1) → n ≡ (knowing v (Some hub.entries) hub.entries v.mine, (0, Some hub) ∷ [])
after_load m n v hub is noted now = now ∙ (λ i. (knowing (is i).0 (is i).0.noted (or_none (is i).0.noted) (is i).0.mine, (is i).1)) ∙ (λ i. (knowing v (noted i) (or_none (noted i)) v.mine, (0, Some hub) ∷ []))

pub after_count : (m n : Sits) (v : View) (hub : Past) → m ≡ (v, (0, Some hub) ∷ []) → n ≡ (counted m.0 (in_hand m.1), m.1) → n ≡ (counted v hub.entries, (0, Some hub) ∷ [])
after_count m n v hub is then_ = then_ ∙ (λ i. (counted (is i).0 (in_hand (is i).1), (is i).1))
