-- What a pass knows after a call, and what its own calls tell of the whole history.
use Rattle.std.proofs.Common.{arith, ◌≡◌, ℕ, ◌+◌, List, [], ◌∷◌, ◌++◌, length, drop, Bool, true, false, ◌==◌, ◌||◌, None, Some, refl, sym, ap, ◌∙◌, subst, ⊎_elim, eq-eqb, append_assoc, append-nil}
use Rattle.std.specs.Prelude.{if◌then◌else◌, Contains}
use Rattle.plain_hub.specs.declared.base.Base.{Base}
use Rattle.plain_hub.specs.declared.job.Job.{Job}
use Rattle.plain_hub.specs.declared.item.Item.{Item}
use Rattle.plain_hub.specs.declared.item.Item.TheVariants as item
use Rattle.plain_hub.specs.declared.entry.Call.{Call}
use Rattle.plain_hub.specs.declared.entry.Call.TheVariants.{Issue, Claim, Post, Flush, TakeDone, End, Stop}
use Rattle.plain_hub.specs.declared.entry.Entry.{Entry}
use Rattle.plain_hub.specs.Hub.{State, empty, after, Allows, state_from, LegalFrom, state_of, Legal, entry, is_end, has_end}
use Rattle.plain_hub.specs.Past.{Past, and_then}
use Rattle.plain_hub.specs.Proper.{one_if, is_post, posts, Proper, Owes, Answers, MayPost}
use Rattle.plain_hub.proofs.Contained.{in_front, in_rest, where_in}
use Rattle.plain_hub.proofs.Counts.{posts-push, posts_by, posts_by_le, claimed_by}
use Rattle.plain_hub.proofs.Owners.{posted_own, fresh_claim}
use Rattle.replay_mutex.specs.declared.view.View.{View}
use Rattle.replay_mutex.specs.Views.{Sits, calls_by, knowing}
use Rattle.replay_mutex.specs.Plays.{IsNew, or_none}
use Rattle.replay_mutex.specs.Holding.{Holds}
use Rattle.replay_mutex.specs.Shown.{issued_by, issued_in, is_stop, has_stop, own, Goes, Makes}
use Rattle.replay_mutex.proofs.Calls.{calls_by-own, starts_trans, dropped}

-- what a pass knows that put the hub back with this call entered, where it has this number
pub entered : (v : View) (c : Call) {number : ℕ} {x n : Sits} {h now : Past} → IsNew v h
    → x ≡ (knowing v (Some h.entries) v.seen v.mine, (0, None) ∷ [])
    → v.number ≡ number → now ≡ and_then h number c → Legal now.entries
    → n ≡ (knowing x.0 None now.entries (x.0.mine ++ drop (length (or_none x.0.noted)) now.entries), [])
    → (n ≡ (knowing v None now.entries (v.mine ++ entry v.number c ∷ []), [])) × Makes v n.0 c
entered v c {number = number} {n = n} {h = h} {now = now} new had by is legal has =
    let e : Entry = entry v.number c in
    let w : View = knowing v None now.entries (v.mine ++ e ∷ []) in
    let m : Sits = (w, []) in
    let entries : now.entries ≡ h.entries ++ e ∷ [] =
    ap (λ (q : Past). q.entries) is ∙ ap (λ k. h.entries ++ entry k c ∷ []) (sym by) in
    let more : drop (length h.entries) now.entries ≡ e ∷ [] =
    ap (drop (length h.entries)) entries ∙ dropped h.entries (e ∷ []) in
    let p : n ≡ m =
    has ∙ (λ i. (
      knowing (had i).0 None now.entries ((had i).0.mine
          ++ drop (length (or_none (had i).0.noted)) now.entries),
      [],
    ))
    ∙ (λ i. (knowing v None now.entries (v.mine ++ more i), [])) in
    let mine : calls_by v.number now.entries ≡ v.mine ++ e ∷ [] =
    ap (calls_by v.number) entries ∙ calls_by-own v.number h.entries e refl
    ∙ ap (λ l. l ++ e ∷ []) new.1 in
    let goes : Goes v w =
    (refl, refl, starts_trans now.entries h.entries v.seen (e ∷ [], entries) new.0, legal, mine) in
    let makes : Makes v w c = (goes, (h.entries, new.0, entries), refl) in
    (p, subst (λ (y : Sits). Makes v y.0 c) (sym p) makes)

-- the pass may put the hub back with one entry more
pub may_enter : (v : View) (c : Call) {number : ℕ} {x : Sits} {h now : Past} → v.spent ≡ false
    → IsNew v h → x ≡ (knowing v (Some h.entries) v.seen v.mine, (0, None) ∷ [])
    → v.number ≡ number → now ≡ and_then h number c
    → (q : Past) × (d : Call) × Holds x q × (now ≡ and_then q x.0.number d)
may_enter v c {h = h} {now = now} here new had by is =
    subst (λ (y : Sits). (q : Past) × (d : Call) × Holds y q × (now ≡ and_then q y.0.number d))
    (sym had) (h, c, (here, refl, new.3, refl), is ∙ ap (λ k. and_then h k c) (sym by))

-- the jobs issued are those that the pass 0 issued
skipped : (b : Bool) (e : Entry) (es : List Entry) → issued_by e.call ≡ [] → issued_in (if b then e ∷ es else es) ≡ issued_in es
skipped true e es none = ap (λ l. l ++ issued_in es) none
skipped false e es none = refl

module _ (s : State) (p : ℕ) (es : List Entry) where
  others : (c : Call) → issued_by c ≡ [] → (after s p c).issued ≡ s.issued → (state_from (after s p c) es).issued ≡ (after s p c).issued ++ issued_in (calls_by 0 es)
      → (state_from (after s p c) es).issued ≡ s.issued ++ issued_in (calls_by 0 (entry p c ∷ es))
  others c none same ih = ih ∙ ap (λ l. l ++ issued_in (calls_by 0 es)) same ∙ ap (λ l. s.issued ++ l) (sym (skipped (p == 0) (entry p c) (calls_by 0 es) none))

  issued_more : (c : Call) → Allows s p c → (state_from (after s p c) es).issued ≡ (after s p c).issued ++ issued_in (calls_by 0 es)
      → (state_from (after s p c) es).issued ≡ s.issued ++ issued_in (calls_by 0 (entry p c ∷ es))
  issued_more (Issue j) may ih = ih ∙ append_assoc s.issued (j ∷ []) (issued_in (calls_by 0 es)) ∙ ap (λ b. s.issued ++ issued_in (if b then entry p (Issue j) ∷ calls_by 0 es else calls_by 0 es)) (sym (eq-eqb p 0 may.0))
  issued_more (Claim j) may ih = others (Claim j) refl refl ih
  issued_more (Post x) may ih = others (Post x) refl refl ih
  issued_more (Flush n) may ih = others (Flush n) refl refl ih
  issued_more (TakeDone id ok) may ih = others (TakeDone id ok) refl refl ih
  issued_more (End why) may ih = others (End why) refl refl ih
  issued_more Stop may ih = others Stop refl refl ih

issued_from : (s : State) (es : List Entry) → LegalFrom s es → (state_from s es).issued ≡ s.issued ++ issued_in (calls_by 0 es)
issued_from s [] h = sym (append-nil s.issued)
issued_from s (e ∷ es) h = issued_more s e.pass es e.call h.0 (issued_from (after s e.pass e.call) es h.1)

pub issued_own : (h : List Entry) → Legal h → (state_of h).issued ≡ issued_in (calls_by 0 h)
issued_own h legal = issued_from empty h legal

-- a pass has ended where its own calls say so
pub end_own : (p : ℕ) (es : List Entry) → has_end p es ≡ has_end p (calls_by p es)
end_own p [] = refl
end_own p (e ∷ es) = by_pass (e.pass == p) refl (end_own p es)
  where
    by_pass : (b : Bool) → (e.pass == p) ≡ b → has_end p es ≡ has_end p (calls_by p es) → ((if e.pass == p then is_end e.call else false) || has_end p es) ≡ has_end p (if e.pass == p then e ∷ calls_by p es else calls_by p es)
    by_pass true is ih = ap (λ b. (if b then is_end e.call else false) || has_end p es) is ∙ ap (λ b. is_end e.call || b) ih ∙ ap (λ b. (if b then is_end e.call else false) || has_end p (calls_by p es)) (sym is) ∙ ap (λ b. has_end p (if b then e ∷ calls_by p es else calls_by p es)) (sym is)
    by_pass false is ih = ap (λ b. (if b then is_end e.call else false) || has_end p es) is ∙ ih ∙ ap (λ b. has_end p (if b then e ∷ calls_by p es else calls_by p es)) (sym is)

-- a pass's own calls stand in the history
own_stands : (p : ℕ) (es : List Entry) (x : Entry) → Contains (calls_by p es) x → Contains es x
own_stands p [] x has = has
own_stands p (e ∷ es) x has = by_pass (e.pass == p) (own_stands p es x) has
  where
    by_pass : (b : Bool) → (Contains (calls_by p es) x → Contains es x) → Contains (if b then e ∷ calls_by p es else calls_by p es) x → Contains (e ∷ es) x
    by_pass true ih has = ⊎_elim (λ (is : e ≡ x). in_front x e es is) (λ (later : Contains (calls_by p es) x). in_rest x e es (ih later)) (where_in x e (calls_by p es) has)
    by_pass false ih has = in_rest x e es (ih has)

posts_own : (p id : ℕ) (es : List Entry) → posts id (calls_by p es) ≡ posts_by p id es
posts_own p id [] = refl
posts_own p id (e ∷ es) = by_pass (e.pass == p) (posts_own p id es)
  where
    by_pass : (b : Bool) → posts id (calls_by p es) ≡ posts_by p id es → posts id (if b then e ∷ calls_by p es else calls_by p es) ≡ (if b then is_post id e.call else 0) + posts_by p id es
    by_pass true ih = let h = ih in omega arith
    by_pass false ih = let h = ih in omega arith

-- what a pass owes by its own calls, it owes
owes_all : (b : Base) (p : ℕ) (j : Job) (h mine : List Entry) → Legal h → Proper b h → calls_by p h ≡ mine → Owes mine p j → Owes h p j
owes_all b p j h mine legal proper is owes =
    let has = own_stands p h (entry p (Claim j)) (subst (λ l. Contains l (entry p (Claim j))) (sym is) owes.0) in
    let none : posts_by p j.id h ≡ 0 = sym (posts_own p j.id h) ∙ ap (posts j.id) is ∙ owes.1 in
    (has, posted_own b p j.id h legal proper (claimed_by p j h has) ∙ none)

pub may_post : (v : View) (h : Past) (x : Item) → IsNew v h → Proper h.base h.entries → MayPost (own v) v.number x → MayPost h v.number x
may_post v h (item.Done id read) new proper may = (may.0, may.1, owes_all h.base v.number may.0 h.entries v.mine new.2 proper new.1 may.2, subst (λ (b : Base). Answers b may.0 read) (sym new.3) may.3)
may_post v h (item.Console xs) new proper may = may
may_post v h (item.Packet xs) new proper may = may

in_last : (x : Entry) (xs : List Entry) → Contains (xs ++ x ∷ []) x
in_last x [] = in_front x x [] refl
in_last x (y ∷ xs) = in_rest x y (xs ++ x ∷ []) (in_last x xs)

-- who has claimed a job owes its Done
pub owed : (v : View) (j : Job) {number : ℕ} {h now : Past} → IsNew v h → v.number ≡ number
    → now ≡ and_then h number (Claim j) → Legal now.entries → Proper h.base h.entries
    → Owes (v.mine ++ entry v.number (Claim j) ∷ []) v.number j
owed v j {h = h} {now = now} new by is legal proper =
    let p = v.number in
    let e : Entry = entry p (Claim j) in
    let mine : now ≡ and_then h p (Claim j) = is ∙ ap (λ k. and_then h k (Claim j)) (sym by) in
    let t : one_if (j.id == j.id) ≡ 1 = ap one_if (eq-eqb j.id j.id refl) in
    let none_yet = fresh_claim h.base j.id p (Claim j) h.entries
    (subst (λ (q : Past). Legal q.entries) mine legal) proper t in
    let b : posts j.id v.mine ≡ posts_by p j.id h.entries =
    ap (posts j.id) (sym new.1) ∙ posts_own p j.id h.entries in
    let le = posts_by_le p j.id h.entries in
    let d = posts-push j.id v.mine (e ∷ []) in
    (in_last e v.mine, omega arith)

-- the hub is stopped where the pass 0 has stopped it
no_stop : (b : Bool) (e : Entry) (es : List Entry) → is_stop e.call ≡ false → has_stop (if b then e ∷ es else es) ≡ has_stop es
no_stop true e es none = ap (λ x. x || has_stop es) none
no_stop false e es none = refl

module _ (s : State) (p : ℕ) (es : List Entry) where
  same_stop : (c : Call) → is_stop c ≡ false → (after s p c).stopped ≡ s.stopped → (state_from (after s p c) es).stopped ≡ ((after s p c).stopped || has_stop (calls_by 0 es))
      → (state_from (after s p c) es).stopped ≡ (s.stopped || has_stop (calls_by 0 (entry p c ∷ es)))
  same_stop c none same ih = ih ∙ ap (λ b. b || has_stop (calls_by 0 es)) same ∙ ap (λ b. s.stopped || b) (sym (no_stop (p == 0) (entry p c) (calls_by 0 es) none))

  stopped_more : (c : Call) → Allows s p c → (state_from (after s p c) es).stopped ≡ ((after s p c).stopped || has_stop (calls_by 0 es))
      → (state_from (after s p c) es).stopped ≡ (s.stopped || has_stop (calls_by 0 (entry p c ∷ es)))
  stopped_more (Issue j) may ih = same_stop (Issue j) refl refl ih
  stopped_more (Claim j) may ih = same_stop (Claim j) refl refl ih
  stopped_more (Post x) may ih = same_stop (Post x) refl refl ih
  stopped_more (Flush n) may ih = same_stop (Flush n) refl refl ih
  stopped_more (TakeDone id ok) may ih = same_stop (TakeDone id ok) refl refl ih
  stopped_more (End why) may ih = same_stop (End why) refl refl ih
  stopped_more Stop may ih = ih ∙ ap (λ b. b || true) (sym may.1) ∙ ap (λ b. s.stopped || has_stop (if b then entry p Stop ∷ calls_by 0 es else calls_by 0 es)) (sym (eq-eqb p 0 may.0))

stopped_from : (s : State) (es : List Entry) → LegalFrom s es → (state_from s es).stopped ≡ (s.stopped || has_stop (calls_by 0 es))
stopped_from s [] h = or_false s.stopped
  where
    or_false : (b : Bool) → b ≡ (b || false)
    or_false true = refl
    or_false false = refl
stopped_from s (e ∷ es) h = stopped_more s e.pass es e.call h.0 (stopped_from (after s e.pass e.call) es h.1)

pub stopped_own : (v : View) (h : Past) → IsNew v h → v.number ≡ 0 → (state_of h.entries).stopped ≡ has_stop v.mine
stopped_own v h new zeroth = stopped_from empty h.entries new.2 ∙ ap has_stop (ap (λ n. calls_by n h.entries) (sym zeroth) ∙ new.1)

-- what a pass knows after an answer without an entry
pub answered : (v : View) {x n : Sits} {h : Past} → IsNew v h
    → x ≡ (knowing v (Some h.entries) v.seen v.mine, (0, None) ∷ [])
    → n ≡ (knowing x.0 None h.entries x.0.mine, [])
    → Goes v n.0 × (n.0.mine ≡ v.mine) × (n.0.seen ≡ h.entries)
answered v {n = n} {h = h} new had has =
    let w : View = knowing v None h.entries v.mine in
    let m : Sits = (w, []) in
    let p : n ≡ m = has ∙ (λ i. (knowing (had i).0 None h.entries (had i).0.mine, [])) in
    let told : Goes v w × (w.mine ≡ v.mine) × (w.seen ≡ h.entries) =
    ((refl, refl, new.0, new.2, new.1), refl, refl) in
    subst (λ (y : Sits). Goes v y.0 × (y.0.mine ≡ v.mine) × (y.0.seen ≡ h.entries)) (sym p) told
