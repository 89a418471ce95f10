use Rattle.std.proofs.Common.{sym, subst}
use Rattle.plain_hub.specs.declared.entry.Call.TheVariants.{Claim}
use Rattle.plain_hub.specs.Proper.{Owes}
use Rattle.replay_mutex.specs.Views.{Sits}
use Rattle.replay_mutex.specs.Shown.{knows}
use Rattle.replay_mutex.proofs.Entered.{entered, may_enter, owed}
use Rattle.replay_mutex.proofs.hub.Hub.claim.Goals as goal

pub enter-requires-clause-holds : goal.enter-requires-clause-holds
enter-requires-clause-holds g c =
    let p = c.args.pass.now in
    may_enter (knows p) (Claim c.in-Ok.job) p.here c.take_out-hub.ensures.new c.take_out-hub.ensures.holds
    p.numbered c.in-Ok.ensures.ok

pub invariant_of-pass-clause-own : goal.invariant_of-pass-clause-own
invariant_of-pass-clause-own g c =
    let p = c.args.pass.now in
    let e = entered (knows p) (Claim c.in-Ok.job) c.take_out-hub.ensures.new c.take_out-hub.ensures.holds
    p.numbered c.in-Ok.ensures.ok c.enter.ensures.legal c.enter.ensures.rests in
    e.1.0.4

pub returns-in-Ok-clause-owes : goal.returns-in-Ok-clause-owes
returns-in-Ok-clause-owes g c =
    let p = c.args.pass.now in
    let j = c.in-Ok.job in
    let new = c.take_out-hub.ensures.new in
    let legal = c.enter.ensures.legal in
    let e = entered (knows p) (Claim j) new c.take_out-hub.ensures.holds p.numbered
    c.in-Ok.ensures.ok legal c.enter.ensures.rests in
    let o = owed (knows p) j new p.numbered c.in-Ok.ensures.ok legal c.len-kept.ensures.proper in
    subst (λ (m : Sits). Owes m.0.mine m.0.number j) (sym e.0) o
