-- A call keeps what the hub keeps.
use Rattle.std.proofs.Common.{◌≡◌, ℕ, ◌+◌, ◌≤◌, List, [], ◌∷◌, ◌++◌, length, false, sym, ap, ◌∙◌, subst, arith, length-append}
use Rattle.std.specs.Prelude.{All}
use Rattle.std.specs.Vec.{vec_capacity}
use Rattle.plain_hub.specs.declared.base.Base.{Base}
use Rattle.plain_hub.specs.declared.entry.Call.{Call}
use Rattle.plain_hub.specs.declared.entry.Entry.{Entry}
use Rattle.plain_hub.specs.declared.hub.PlainHub.TheInside.{Inside}
use Rattle.plain_hub.specs.Hub.{State, after, Allows, state_of, entry, is_end, left_below, to_come}
use Rattle.plain_hub.specs.Proper.{LiesIn, Proper, Meets, Promised}
use Rattle.plain_hub.specs.Kept.{Shows, Kept}
use Rattle.plain_hub.proofs.History.{longer}
use Rattle.plain_hub.proofs.Owners.{ProperFrom-push}
use Rattle.plain_hub.proofs.Promises.{promises_stay}
use Rattle.plain_hub.proofs.Rooms.{left-other, to_come_at_most}

-- the history has one entry more, and the other fields follow it
pub record Grows (h g : Inside) (p : ℕ) (c : Call) : Type 0 where
  pub base : g.base ≡ h.base
  pub history : g.history.items ≡ h.history.items ++ entry p c ∷ []
  pub allows : Allows (state_of h.history.items) p c
  pub shows : Shows g (after (state_of h.history.items) p c)
  pub meets : Meets h.base h.history.items p c
  pub lie : All (LiesIn h.base) g.jobs.items
  pub promised : All (Promised h.base (h.history.items ++ entry p c ∷ [])) g.items.items
  pub ends : g.ended + left_below 17 (h.history.items ++ entry p c ∷ []) ≡ 17

grown : (h g : Inside) (p : ℕ) (c : Call) → Kept h → Grows h g p c → length g.history.items + to_come g.history.items ≤ vec_capacity g.history → Kept g
grown h g p c kept grows room =
    let m = longer h.history.items g.history.items p c grows.history kept.legal grows.allows in
    record {
      shows = subst (λ (s : State). Shows g s) (sym m.0) grows.shows;
      legal = m.1;
      proper = subst (λ (t : Base × List Entry). Proper t.0 t.1) (λ i. (sym grows.base i, sym grows.history i)) (ProperFrom-push h.base [] h.history.items (entry p c) kept.proper grows.meets);
      lie = subst (λ (b : Base). All (LiesIn b) g.jobs.items) (sym grows.base) grows.lie;
      promised = subst (λ (t : Base × List Entry). All (Promised t.0 t.1) g.items.items) (λ i. (sym grows.base i, sym grows.history i)) grows.promised;
      room = room;
      ends = ap (λ l. g.ended + left_below 17 l) grows.history ∙ grows.ends;
    }

longer_by_one : (h g : Inside) (p : ℕ) (c : Call) → Grows h g p c → length g.history.items ≡ length h.history.items + 1
longer_by_one h g p c grows = omega (arith, ap length grows.history, length-append h.history.items (entry p c ∷ []))

-- room was made for the entry, and for those that may come
pub kept_more : (h g : Inside) (p : ℕ) (c : Call) → Kept h → Grows h g p c → length h.history.items + 19 ≤ vec_capacity g.history → Kept g
kept_more h g p c kept grows room =
    let long = longer_by_one h g p c grows in
    let few = to_come_at_most g.history.items in
    grown h g p c kept grows (omega arith)

-- the entry uses room that was reserved
pub kept_reserved : (h g : Inside) (p : ℕ) (c : Call) → Kept h → Grows h g p c → vec_capacity g.history ≡ vec_capacity h.history → to_come (h.history.items ++ entry p c ∷ []) + 1 ≡ to_come h.history.items → Kept g
kept_reserved h g p c kept grows same less =
    let long = longer_by_one h g p c grows in
    let less' : to_come g.history.items + 1 ≡ to_come h.history.items = ap (λ l. to_come l + 1) grows.history ∙ less in
    let room = kept.room in
    grown h g p c kept grows (omega arith)

-- the items that wait stay as promised
pub still_promised : (h : Inside) (p : ℕ) (c : Call) → Kept h → Meets h.base h.history.items p c → All (Promised h.base (h.history.items ++ entry p c ∷ [])) h.items.items
still_promised h p c kept meets = promises_stay h.base h.history.items p c meets h.items.items kept.promised

-- who has not ended stays
pub no_end : (h : Inside) (p : ℕ) (c : Call) → Kept h → is_end c ≡ false → h.ended + left_below 17 (h.history.items ++ entry p c ∷ []) ≡ 17
no_end h p c kept other = ap (λ n. h.ended + n) (left-other 17 h.history.items (entry p c) other) ∙ kept.ends
