use Rattle.std.specs.Vec.{vec_capacity}
use Rattle.std.specs.Prelude.{All}
use Rattle.std.proofs.Common.{◌+◌, ◌≤◌, length, rules, ◌≡◌, None, [], ◌∷◌, ◌++◌, refl, sym, ap, ◌∙◌, subst}
use Rattle.std.proofs.lemmas.List.Elements.{All-append}
use Rattle.plain_hub.specs.Hub.{state_of, entry, job_of}
use Rattle.plain_hub.specs.Past.{Past}
use Rattle.plain_hub.specs.Proper.{LiesIn}
use Rattle.plain_hub.specs.declared.entry.Call.TheVariants.{Issue}
use Rattle.plain_hub.proofs.Contained.{all_one}
use Rattle.plain_hub.proofs.Keeping.{kept_more, still_promised, no_end}
use Rattle.plain_hub.proofs.hub.PlainHub.issue.Goals as goal

pub invariant_of-self-2 : goal.invariant_of-self-2
invariant_of-self-2 c =
    let h = c.self.inside in
    let k = c.self.invariant in
    let j = c.args.job in
    let new = subst (λ (q : Past). job_of j.id (state_of q.entries).issued ≡ None) (sym c.self.view_is) c.requires.new in
    let lies = subst (λ (q : Past). LiesIn q.base j) (sym c.self.view_is) c.requires.lies in
    let jobs : c.push_back_reserved.new.self.items ≡ h.jobs.items ++ j ∷ [] = c.push_back_reserved.ensures.items ∙ ap (λ l. l ++ j ∷ []) c.reserve-2.ensures.items in
    let room : length h.history.items + 19 ≤ vec_capacity c.push_reserved.new.self = search rules in
    kept_more h _ 0 (Issue j) k
    record {
      base = refl;
      history = c.push_reserved.ensures.items ∙ ap (λ l. l ++ entry 0 (Issue j) ∷ []) c.reserve.ensures.items;
      allows = (refl, new);
      shows = record { jobs = jobs ∙ ap (λ l. l ++ j ∷ []) k.shows.jobs; items = k.shows.items; ended = k.shows.ended; trouble = k.shows.trouble; stopped = k.shows.stopped };
      meets = lies;
      lie = subst (λ l. All (LiesIn h.base) l) (sym jobs) (All-append (LiesIn h.base) h.jobs.items (j ∷ []) k.lie (all_one (LiesIn h.base) j lies));
      promised = still_promised h 0 (Issue j) k lies;
      ends = no_end h 0 (Issue j) k refl;
    }
    room
