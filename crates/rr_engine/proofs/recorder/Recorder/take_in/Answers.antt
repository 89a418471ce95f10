use Rattle.std.proofs.Common.{sym, subst}
use Rattle.std.specs.Prelude.{Ok, Err}
use Rattle.event_log.specs.declared.event.Event.{Event}
use Rattle.rr_engine.specs.Stand.{stand}
use Rattle.rr_engine.specs.Owed.{IsOwed, Enters}
use Rattle.rr_engine.proofs.Taking.{taking-starts, taking-input, taking-more, taking-breaks, taking-some, owes-input}
use Rattle.rr_engine.proofs.recorder.Recorder.take_in.Goals as goal

pub loop-item-init : goal.loop-item-init
loop-item-init g c =
    taking-starts c.args.items.items c.reverse.new.self.items
    (stand g.I.Inputs.feed c.args.self.now c.args.parts.now)
    c.reverse.ensures.items c.requires.inputs c.requires.open c.requires.silent c.requires.works

pub enter-requires-clause-owed : goal.enter-requires-clause-owed
enter-requires-clause-owed g c =
    let p = stand g.I.Inputs.feed c.args.self.now c.args.parts.now in
    let q = stand g.I.Inputs.feed c.loop-item.self c.loop-item.parts in
    subst (λ (z : Event). IsOwed c.loop-item.self.machine z) (sym c.event_of.ensures)
    (owes-input c.loop-item.self.machine c.in-Some.item
    (taking-input c.args.items.items c.loop-item.waiting.items c.pop.new.self.items c.in-Some.item
    c.in-Some.ensures.items p q c.loop-item.invariant)
    c.loop-item.invariant.took.opens)

pub loop-item-preserved : goal.loop-item-preserved
loop-item-preserved g c =
    let p = stand g.I.Inputs.feed c.args.self.now c.args.parts.now in
    let q = stand g.I.Inputs.feed c.loop-item.self c.loop-item.parts in
    let r = stand g.I.Inputs.feed c.enter.new.self c.enter.new.parts in
    taking-more c.args.items.items c.loop-item.waiting.items c.pop.new.self.items c.in-Some.item
    c.in-Some.ensures.items p q c.loop-item.invariant r
    (subst (λ (z : Event). Enters q r z (Ok tt)) c.event_of.ensures c.in-Ok.ensures)

pub returns-in-Err-clause-goes : goal.returns-in-Err-clause-goes
returns-in-Err-clause-goes g c troubled =
    let p = stand g.I.Inputs.feed c.args.self.now c.args.parts.now in
    let q = stand g.I.Inputs.feed c.loop-item.self c.loop-item.parts in
    let r = stand g.I.Inputs.feed c.enter.new.self c.enter.new.parts in
    taking-breaks c.args.items.items c.loop-item.waiting.items c.pop.new.self.items c.in-Some.item
    c.in-Some.ensures.items p q c.loop-item.invariant r c.in-Err.broke troubled
    (subst (λ (z : Event). Enters q r z (Err c.in-Err.broke)) c.event_of.ensures c.in-Err.ensures)

pub returns-in-Err-clause-some : goal.returns-in-Err-clause-some
returns-in-Err-clause-some g c =
    taking-some c.args.items.items c.loop-item.waiting.items c.pop.new.self.items c.in-Some.item
    c.in-Some.ensures.items (stand g.I.Inputs.feed c.args.self.now c.args.parts.now)
    (stand g.I.Inputs.feed c.loop-item.self c.loop-item.parts) c.loop-item.invariant
