use Rattle.std.specs.Vec.{vec_capacity}
use Rattle.std.specs.Prelude.{All}
use Rattle.std.proofs.Common.{◌+◌, ◌≤◌, length, rules, List, [], ◌∷◌, ◌++◌, refl, sym, ap, ◌∙◌, subst}
use Rattle.plain_hub.specs.declared.job.Job.{Job}
use Rattle.plain_hub.specs.Hub.{entry, rest_of}
use Rattle.plain_hub.specs.Past.{Past}
use Rattle.plain_hub.specs.Proper.{LiesIn}
use Rattle.plain_hub.specs.declared.entry.Call.TheVariants.{Claim}
use Rattle.plain_hub.proofs.Contained.{all_head, all_tail}
use Rattle.plain_hub.proofs.Keeping.{kept_more, still_promised, no_end}
use Rattle.plain_hub.proofs.hub.PlainHub.claim.Goals as goal

pub invariant_of-self-2 : goal.invariant_of-self-2
invariant_of-self-2 c =
    let h = c.self.inside in
    let k = c.self.invariant in
    let j = c.in-Some.job in
    let first = sym k.shows.jobs ∙ c.in-Some.ensures.items in
    let others = sym (ap rest_of first) in
    let room : length h.history.items + 19 ≤ vec_capacity c.push_reserved.new.self = search rules in
    kept_more h _ c.args.pass (Claim j) k
    record {
      base = refl;
      history = c.push_reserved.ensures.items ∙ ap (λ l. l ++ entry c.args.pass (Claim j) ∷ []) c.reserve.ensures.items;
      allows = (c.requires, sym k.shows.stopped ∙ c.if-self.false, first ∙ ap (λ l. j ∷ l) others);
      shows = record { jobs = others; items = k.shows.items; ended = k.shows.ended; trouble = k.shows.trouble; stopped = k.shows.stopped };
      meets = tt;
      lie = all_tail (LiesIn h.base) j _ (subst (λ (l : List Job). All (LiesIn h.base) l) c.in-Some.ensures.items k.lie);
      promised = still_promised h c.args.pass (Claim j) k tt;
      ends = no_end h c.args.pass (Claim j) k refl;
    }
    room

pub returns-clause-lies : goal.returns-clause-lies
returns-clause-lies c =
    let h = c.self.inside in
    let j = c.in-Some.job in
    let lies : LiesIn h.base j = all_head (LiesIn h.base) j _ (subst (λ (l : List Job). All (LiesIn h.base) l) c.in-Some.ensures.items c.self.invariant.lie) in
    subst (λ (q : Past). LiesIn q.base j) c.self.view_is lies
