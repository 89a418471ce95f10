use Rattle.std.proofs.Common.{rules, ◌≡◌, ◌+◌, ◌<◌, ◌^◌, false, refl, ap, ◌∙◌, arith}
use Rattle.plain_hub.specs.Hub.{has_end, first_of_two, trouble_at}
use Rattle.plain_hub.specs.Past.{Past}
use Rattle.plain_hub.specs.declared.entry.Call.TheVariants.{End}
use Rattle.plain_hub.proofs.Keeping.{kept_reserved, still_promised}
use Rattle.plain_hub.proofs.Rooms.{end_fits, left-end}
use Rattle.plain_hub.proofs.hub.PlainHub.end.Goals as goal

pub overflow_add-self : goal.overflow_add-self
overflow_add-self c =
    let few = c.self.invariant.ends in
    let fits : c.self.inside.ended + 1 < 2 ^ 32 = omega arith in
    search (rules, fits)

pub invariant_of-self : goal.invariant_of-self
invariant_of-self c =
    let h = c.self.inside in
    let k = c.self.invariant in
    let p = c.args.pass in
    let why = c.args.why in
    let not_yet : has_end p h.history.items ≡ false = ap (λ (q : Past). has_end p q.entries) c.self.view_is ∙ c.requires.once in
    let fewer = left-end 17 h.history.items p why c.requires.kind.1 not_yet in
    let ends = k.ends in
    kept_reserved h _ p (End why) k
    record {
      base = refl;
      history = c.push_reserved.ensures.items;
      allows = c.requires.kind.0;
      shows = record { jobs = k.shows.jobs; items = k.shows.items; ended = ap (λ n. n + 1) k.shows.ended; trouble = c.first_trouble-self-inside.ensures ∙ ap (λ t. first_of_two t (trouble_at p why)) k.shows.trouble; stopped = k.shows.stopped };
      meets = (c.requires.kind.1, not_yet);
      lie = k.lie;
      promised = still_promised h p (End why) k (c.requires.kind.1, not_yet);
      ends = omega arith;
    }
    c.push_reserved.ensures.capacity (end_fits h.history.items p why c.requires.kind.1 not_yet)
