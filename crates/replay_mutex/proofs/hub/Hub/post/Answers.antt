use Rattle.std.proofs.Common.{subst}
use Rattle.plain_hub.specs.declared.entry.Call.TheVariants.{Post}
use Rattle.plain_hub.specs.Items.{short}
use Rattle.plain_hub.specs.Proper.{MayPost}
use Rattle.replay_mutex.specs.Shown.{knows}
use Rattle.replay_mutex.proofs.Entered.{entered, may_enter, may_post}
use Rattle.replay_mutex.proofs.hub.Hub.post.Goals as goal

pub enter-requires-clause-holds : goal.enter-requires-clause-holds
enter-requires-clause-holds g c =
    let p = c.args.pass.now in
    may_enter (knows p) (Post (short c.args.item)) p.here c.take_out-hub.ensures.new c.take_out-hub.ensures.holds
    p.numbered c.in-Ok.ensures.ok

pub invariant_of-pass-clause-own : goal.invariant_of-pass-clause-own
invariant_of-pass-clause-own g c =
    let p = c.args.pass.now in
    let e = entered (knows p) (Post (short c.args.item)) c.take_out-hub.ensures.new c.take_out-hub.ensures.holds
    p.numbered c.in-Ok.ensures.ok c.enter.ensures.legal c.enter.ensures.rests in
    e.1.0.4

pub post-requires-clause-may : goal.post-requires-clause-may
post-requires-clause-may g c =
    let p = c.args.pass.now in
    let h = c.take_out-hub.result in
    let may = may_post (knows p) h c.args.item c.take_out-hub.ensures.new c.len-kept.ensures.proper c.requires.may in
    subst (λ n. MayPost h n c.args.item) p.numbered may
