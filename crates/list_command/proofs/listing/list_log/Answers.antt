use Rattle.std.proofs.Common.{ℕ, sym, ap, ◌∙◌, subst}
use Rattle.outside.specs.Causes.{Rose}
use Rattle.outside.specs.Ledger.{StartsEmpty, sink_back}
use Rattle.outside.specs.declared.roles.Role.TheVariants.{ConsoleOut}
use Rattle.event_log.specs.Reading.{ahead}
use Rattle.event_list.specs.Listing.{Listed, listed}
use Rattle.list_command.proofs.Listed.{Ran, ran-of, ran-cause, ran-shown, ran-kept}
use Rattle.list_command.proofs.listing.list_log.Given.{Over}
use Rattle.list_command.proofs.listing.list_log.Goals as goal

-- the log and the console before the list and after it
abbrev before : (g : Over) → goal.After-list_outcome g → Listed
before g c = listed c.header.new.self (g.W.Sink.Sink.taken c.new-out.result)
    (g.W.Sink.Sink.faults c.new-out.result)

abbrev after : (g : Over) → goal.After-list_outcome g → Listed
after g c = listed c.list_events-end.new.log (g.W.Sink.Sink.taken c.list_events-end.new.out)
    (g.W.Sink.Sink.faults c.list_events-end.new.out)

ran : (g : Over) (c : goal.After-list_outcome g)
    → Ran (ahead c.args.log.now) (before g c) (after g c) (g.W.World.ledger c.args.world.now)
    (g.W.World.ledger c.take_sink.new.self)
ran g c =
    let k = c.in-Ok.ensures.header in
    let opened = g.W.World.ledger c.sink.new.self in
    ran-of (ahead c.args.log.now) (before g c) (after g c) c.in-Ok.field-0
    (g.W.World.ledger c.args.world.now) opened (g.W.World.ledger c.take_sink.new.self) k.1 k.2.bytes
    (subst (λ z. StartsEmpty (g.W.Sink.Sink.taken z)) (sym c.new-out.ensures)
    c.in-Ok-sink.ensures.empty)
    (ap (λ z. g.W.Sink.Sink.faults z) c.new-out.ensures ∙ c.in-Ok-sink.ensures.fresh)
    c.in-Ok-sink.ensures.opened
    (c.take_sink.ensures.back ∙ ap (λ z. sink_back opened ConsoleOut
    (g.W.Sink.Sink.faults z) (g.W.Sink.Sink.taken z)) c.into_inner.ensures)

pub returns-clause-cause : goal.returns-clause-cause
returns-clause-cause g c = λ name.
    ran-cause _ _ _ _ _ (ran g c) name (Rose c.args.log.now.faults c.list_events-end.new.log.faults)
    c.list_events-end.result c.list_outcome.result c.list_events-end.ensures.lists
    (λ rose. subst (λ (n : ℕ). Rose n c.list_events-end.new.log.faults)
    c.in-Ok.ensures.header.0.faults rose)
    c.list_outcome.ensures

pub returns-clause-shown : goal.returns-clause-shown
returns-clause-shown g c = λ more.
    ran-shown _ _ _ _ _ (ran g c) c.list_events-end.result c.list_events-end.ensures.lists

pub returns-clause-kept : goal.returns-clause-kept
returns-clause-kept g c =
    ran-kept _ _ _ _ _ (ran g c) c.args.log.now.faults c.list_events-end.result
    c.list_outcome.result c.in-Ok.ensures.header.0.faults c.list_events-end.ensures.lists
    c.list_outcome.ensures
