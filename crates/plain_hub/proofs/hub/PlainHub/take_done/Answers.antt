use Rattle.std.specs.Vec.{vec_capacity}
use Rattle.std.specs.Prelude.{All, position, Some}
use Rattle.std.proofs.Common.{rules, ◌+◌, ◌≤◌, List, [], ◌∷◌, ◌++◌, length, map, refl, sym, ap, ◌∙◌, subst}
use Rattle.plain_hub.specs.declared.entry.Entry.{Entry}
use Rattle.plain_hub.specs.declared.entry.Call.TheVariants.{TakeDone}
use Rattle.plain_hub.specs.declared.item.Short.TheVariants.{Done}
use Rattle.plain_hub.specs.declared.item.Item.{Item}
use Rattle.plain_hub.specs.Hub.{state_of, entry, done_of, without}
use Rattle.plain_hub.specs.Items.{short, has_bytes, is_done}
use Rattle.plain_hub.specs.Past.{Past, and_then}
use Rattle.plain_hub.specs.Proper.{Promised}
use Rattle.plain_hub.proofs.Contained.{all_removed}
use Rattle.plain_hub.proofs.Keeping.{kept_more, still_promised, no_end}
use Rattle.plain_hub.proofs.Places.{no_place, place, place_lt, some_done}
use Rattle.plain_hub.proofs.hub.PlainHub.take_done.Goals as goal

pub returns-in_default-clause-why : goal.returns-in_default-clause-why
returns-in_default-clause-why c =
    let none_there = no_place c.args.id c.as_slice.result.now (sym c.place_of.ensures ∙ c.in_default.is) in
    ap (λ (q : Past). done_of c.args.id (state_of q.entries).items) (sym c.self.view_is) ∙ ap (done_of c.args.id) (sym c.self.invariant.shows.items ∙ ap (map short) (sym c.as_slice.ensures.value)) ∙ none_there

pub returns-then-is_err-clause-why : goal.returns-then-is_err-clause-why
returns-then-is_err-clause-why c = λ none.
    let same = ap (λ (q : Past). done_of c.args.id (state_of q.entries).items) (sym c.self.view_is) ∙ ap (done_of c.args.id) (sym c.self.invariant.shows.items ∙ ap (map short) (sym c.as_slice.ensures.value)) in
    some_done c.args.id c.as_slice.result.now c.in-Some.at (sym c.place_of.ensures ∙ c.in-Some.is) (sym same ∙ none)

pub invariant_of-self-2 : goal.invariant_of-self-2
invariant_of-self-2 c =
    let h = c.self.inside in
    let k = c.self.invariant in
    let id = c.args.id in
    let ok = c.has_bytes-ok.result in
    let at = place id h.items.items c.in-Some.at c.remove-item.result (ap (λ l. position (λ x. is_done id x) l) (sym c.as_slice.ensures.value) ∙ sym c.place_of.ensures ∙ c.in-Some.is) in
    let has = ap has_bytes (sym c.remove-item.ensures.value) ∙ sym c.has_bytes-ok.ensures in
    let room : length h.history.items + 19 ≤ vec_capacity c.push_reserved.new.self = search rules in
    kept_more h _ 0 (TakeDone id ok) k
    record {
      base = refl;
      history = c.push_reserved.ensures.items ∙ ap (λ l. l ++ entry 0 (TakeDone id ok) ∷ []) c.reserve.ensures.items;
      allows = (refl, ap (done_of id) (sym k.shows.items) ∙ at.first ∙ ap Some has);
      shows = record { jobs = k.shows.jobs; items = ap (map short) c.remove-item.ensures.items ∙ sym at.rest ∙ ap (without id) k.shows.items; ended = k.shows.ended; trouble = k.shows.trouble; stopped = k.shows.stopped };
      meets = tt;
      lie = k.lie;
      promised = subst (λ (l : List Item). All (Promised h.base (h.history.items ++ entry 0 (TakeDone id ok) ∷ [])) l) (sym c.remove-item.ensures.items) (all_removed (Promised h.base (h.history.items ++ entry 0 (TakeDone id ok) ∷ [])) h.items.items c.in-Some.at (still_promised h 0 (TakeDone id ok) k tt));
      ends = no_end h 0 (TakeDone id ok) k refl;
    }
    room

pub returns-clause-ok : goal.returns-clause-ok
returns-clause-ok c =
    let h = c.self.inside in
    let id = c.args.id in
    let ok = c.has_bytes-ok.result in
    let at = place id h.items.items c.in-Some.at c.remove-item.result (ap (λ l. position (λ x. is_done id x) l) (sym c.as_slice.ensures.value) ∙ sym c.place_of.ensures ∙ c.in-Some.is) in
    let has = ap has_bytes (sym c.remove-item.ensures.value) ∙ sym c.has_bytes-ok.ensures in
    let history = c.push_reserved.ensures.items ∙ ap (λ l. l ++ entry 0 (TakeDone id ok) ∷ []) c.reserve.ensures.items in
    let now : Past = record { base = h.base; entries = c.push_reserved.new.self.items } in
    (ok, ap short c.remove-item.ensures.value ∙ at.item_is ∙ ap (Done id) has, ap (λ (l : List Entry). record { base = h.base; entries = l }) history ∙ ap (λ (q : Past). and_then q 0 (TakeDone id ok)) c.self.view_is)

pub returns-clause-promised : goal.returns-clause-promised
returns-clause-promised c =
    let h = c.self.inside in
    let id = c.args.id in
    let ok = c.has_bytes-ok.result in
    let history = c.push_reserved.ensures.items ∙ ap (λ l. l ++ entry 0 (TakeDone id ok) ∷ []) c.reserve.ensures.items in
    let at = place_lt id h.items.items c.in-Some.at (ap (λ l. position (λ x. is_done id x) l) (sym c.as_slice.ensures.value) ∙ sym c.place_of.ensures ∙ c.in-Some.is) in
    let was = still_promised h 0 (TakeDone id ok) c.self.invariant tt c.in-Some.at c.remove-item.result at in
    subst (λ (t : List Entry × Item). Promised h.base t.0 t.1) (λ i. (sym history i, sym c.remove-item.ensures.value i)) was
