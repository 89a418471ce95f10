use Rattle.std.proofs.Common.{refl, sym, ◌∙◌}
use Rattle.plain_hub.specs.declared.entry.Call.TheVariants.{Stop}
use Rattle.plain_hub.proofs.Keeping.{kept_reserved, still_promised, no_end}
use Rattle.plain_hub.proofs.Rooms.{stop_fits}
use Rattle.plain_hub.proofs.hub.PlainHub.stop.Goals as goal

pub invariant_of-self : goal.invariant_of-self
invariant_of-self c =
    let h = c.self.inside in
    let k = c.self.invariant in
    let not_yet = sym k.shows.stopped ∙ c.if-not-self.true in
    kept_reserved h _ 0 Stop k
    record {
      base = refl;
      history = c.push_reserved.ensures.items;
      allows = (refl, not_yet);
      shows = record { jobs = k.shows.jobs; items = k.shows.items; ended = k.shows.ended; trouble = k.shows.trouble; stopped = refl };
      meets = tt;
      lie = k.lie;
      promised = still_promised h 0 Stop k tt;
      ends = no_end h 0 Stop k refl;
    }
    c.push_reserved.ensures.capacity (stop_fits h.history.items not_yet)
