use Rattle.std.specs.Vec.{vec_capacity}
use Rattle.std.specs.Prelude.{All}
use Rattle.std.proofs.Common.{◌+◌, ◌≤◌, rules, ◌≡◌, List, [], ◌∷◌, ◌++◌, refl, sym, ap, ◌∙◌, subst, map, length}
use Rattle.std.proofs.lemmas.List.{length-map}
use Rattle.std.proofs.lemmas.List.Elements.{All-nil}
use Rattle.plain_hub.specs.declared.entry.Entry.{Entry}
use Rattle.plain_hub.specs.declared.entry.Call.TheVariants.{Flush}
use Rattle.plain_hub.specs.declared.item.Item.{Item}
use Rattle.plain_hub.specs.Hub.{entry}
use Rattle.plain_hub.specs.Items.{short}
use Rattle.plain_hub.specs.Proper.{Promised}
use Rattle.plain_hub.proofs.Keeping.{kept_more, still_promised, no_end}
use Rattle.plain_hub.proofs.hub.PlainHub.flush.Goals as goal

pub invariant_of-self-2 : goal.invariant_of-self-2
invariant_of-self-2 c =
    let h = c.self.inside in
    let k = c.self.invariant in
    let n = c.len.result in
    let count : n ≡ length h.items.items = search rules in
    let none = ap (λ v. v.items) c.replace-items.ensures.after ∙ c.new.ensures.items in
    let room : length h.history.items + 19 ≤ vec_capacity c.push_reserved.new.self = search rules in
    kept_more h _ 0 (Flush n) k
    record {
      base = refl;
      history = c.push_reserved.ensures.items ∙ ap (λ l. l ++ entry 0 (Flush n) ∷ []) c.reserve.ensures.items;
      allows = (refl, count ∙ sym (length-map _ short) ∙ ap length k.shows.items);
      shows = record { jobs = k.shows.jobs; items = ap (map short) none; ended = k.shows.ended; trouble = k.shows.trouble; stopped = k.shows.stopped };
      meets = tt;
      lie = k.lie;
      promised = subst (λ (l : List Item). All (Promised h.base (h.history.items ++ entry 0 (Flush n) ∷ [])) l) (sym none) (All-nil (Promised h.base (h.history.items ++ entry 0 (Flush n) ∷ [])));
      ends = no_end h 0 (Flush n) k refl;
    }
    room

pub returns-clause-promised : goal.returns-clause-promised
returns-clause-promised c =
    let h = c.self.inside in
    let n = c.len.result in
    let history : c.push_reserved.new.self.items ≡ h.history.items ++ entry 0 (Flush n) ∷ [] = c.push_reserved.ensures.items ∙ ap (λ l. l ++ entry 0 (Flush n) ∷ []) c.reserve.ensures.items in
    let was = still_promised h 0 (Flush n) c.self.invariant tt in
    let items : c.replace-items.result.items ≡ h.items.items = ap (λ v. v.items) c.replace-items.ensures.value in
    subst (λ (t : List Entry × List Item). All (Promised h.base t.0) t.1) (λ i. (sym history i, sym items i)) was
