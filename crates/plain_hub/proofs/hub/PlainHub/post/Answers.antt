use Rattle.std.specs.Vec.{vec_capacity}
use Rattle.std.specs.Prelude.{All}
use Rattle.std.proofs.Common.{◌+◌, ◌≤◌, length, subst, rules, List, [], ◌∷◌, ◌++◌, refl, sym, ap, ◌∙◌, map}
use Rattle.std.proofs.lemmas.List.{map-append}
use Rattle.std.proofs.lemmas.List.Elements.{All-append}
use Rattle.plain_hub.specs.declared.item.Item.{Item}
use Rattle.plain_hub.specs.declared.entry.Call.{Call}
use Rattle.plain_hub.specs.declared.entry.Call.TheVariants.{Post}
use Rattle.plain_hub.specs.Hub.{entry}
use Rattle.plain_hub.specs.Items.{short}
use Rattle.plain_hub.specs.Past.{Past}
use Rattle.plain_hub.specs.Proper.{MayPost, Promised}
use Rattle.plain_hub.proofs.Contained.{all_one}
use Rattle.plain_hub.proofs.Promises.{may_meets, posted_promise}
use Rattle.plain_hub.proofs.Keeping.{kept_more, still_promised, no_end}
use Rattle.plain_hub.proofs.hub.PlainHub.post.Goals as goal

pub invariant_of-self-2 : goal.invariant_of-self-2
invariant_of-self-2 c =
    let h = c.self.inside in
    let k = c.self.invariant in
    let p = c.args.pass in
    let x = c.args.item in
    let past : Past = record { base = h.base; entries = h.history.items } in
    let may = subst (λ (q : Past). MayPost q p x) (sym c.self.view_is) c.requires.may in
    let call : Call = Post (short x) in
    let meets = may_meets past p x may in
    let items = c.push_reserved.ensures.items ∙ ap (λ l. l ++ x ∷ []) c.reserve-else-is_err.ensures.items in
    let room : length h.history.items + 19 ≤ vec_capacity c.push_reserved-2.new.self = search rules in
    kept_more h _ p call k
    record {
      base = refl;
      history = c.push_reserved-2.ensures.items ∙ (λ i. c.reserve.ensures.items i ++ entry p (Post (c.in-Ok.ensures i)) ∷ []);
      allows = (c.requires.kind, sym k.shows.stopped ∙ c.if-self.false);
      shows = record { jobs = k.shows.jobs; items = ap (map short) items ∙ map-append short h.items.items (x ∷ []) ∙ ap (λ l. l ++ short x ∷ []) k.shows.items; ended = k.shows.ended; trouble = k.shows.trouble; stopped = k.shows.stopped };
      meets = meets;
      lie = k.lie;
      promised = subst (λ (l : List Item). All (Promised h.base (h.history.items ++ entry p call ∷ [])) l) (sym items) (All-append (Promised h.base (h.history.items ++ entry p call ∷ [])) h.items.items (x ∷ []) (still_promised h p call k meets) (all_one (Promised h.base (h.history.items ++ entry p call ∷ [])) x (posted_promise past p x k.legal may)));
      ends = no_end h p call k refl;
    }
    room
