use Rattle.plain_hub.specs.declared.entry.Call.TheVariants.{Flush}
use Rattle.replay_mutex.specs.Shown.{knows}
use Rattle.replay_mutex.proofs.Entered.{entered, may_enter}
use Rattle.replay_mutex.proofs.hub.Hub.flush.Goals as goal

pub enter-requires-clause-holds : goal.enter-requires-clause-holds
enter-requires-clause-holds g c =
    let p = c.args.pass.now in
    may_enter (knows p) (Flush c.in-Ok.flushed.items.len) p.here c.take_out-hub.ensures.new c.take_out-hub.ensures.holds
    c.requires.kind c.in-Ok.ensures.ok

pub invariant_of-pass-clause-own : goal.invariant_of-pass-clause-own
invariant_of-pass-clause-own g c =
    let p = c.args.pass.now in
    let e = entered (knows p) (Flush c.in-Ok.flushed.items.len) c.take_out-hub.ensures.new c.take_out-hub.ensures.holds
    c.requires.kind c.in-Ok.ensures.ok c.enter.ensures.legal c.enter.ensures.rests in
    e.1.0.4
