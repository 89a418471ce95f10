use Rattle.plain_hub.specs.declared.entry.Call.TheVariants.{TakeDone}
use Rattle.replay_mutex.specs.Shown.{knows}
use Rattle.replay_mutex.proofs.Entered.{entered, may_enter}
use Rattle.replay_mutex.proofs.hub.Hub.take_done.Goals as goal

pub enter-requires-clause-holds : goal.enter-requires-clause-holds
enter-requires-clause-holds g c =
    let p = c.args.pass.now in
    may_enter (knows p) (TakeDone c.args.id c.in-Ok.ensures.ok.0) p.here c.take_out-hub.ensures.new c.take_out-hub.ensures.holds
    c.requires.kind c.in-Ok.ensures.ok.2

pub invariant_of-pass-clause-own : goal.invariant_of-pass-clause-own
invariant_of-pass-clause-own g c =
    let p = c.args.pass.now in
    let e = entered (knows p) (TakeDone c.args.id c.in-Ok.ensures.ok.0) c.take_out-hub.ensures.new c.take_out-hub.ensures.holds
    c.requires.kind c.in-Ok.ensures.ok.2 c.enter.ensures.legal c.enter.ensures.rests in
    e.1.0.4
