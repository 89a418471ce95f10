use Rattle.std.proofs.Common.{sym, ap, ◌∙◌}
use Rattle.plain_hub.specs.declared.entry.Call.TheVariants.{Issue}
use Rattle.plain_hub.specs.Hub.{job_of}
use Rattle.replay_mutex.specs.Views.{calls_by}
use Rattle.replay_mutex.specs.Shown.{knows, issued_in}
use Rattle.replay_mutex.proofs.Entered.{entered, may_enter, issued_own}
use Rattle.replay_mutex.proofs.hub.Hub.issue.Goals as goal

pub enter-requires-clause-holds : goal.enter-requires-clause-holds
enter-requires-clause-holds g c =
    let p = c.args.pass.now in
    may_enter (knows p) (Issue c.args.job) p.here c.take_out-hub.ensures.new c.take_out-hub.ensures.holds
    c.requires.kind c.in-Ok.ensures.ok

pub invariant_of-pass-clause-own : goal.invariant_of-pass-clause-own
invariant_of-pass-clause-own g c =
    let p = c.args.pass.now in
    let e = entered (knows p) (Issue c.args.job) c.take_out-hub.ensures.new c.take_out-hub.ensures.holds
    c.requires.kind c.in-Ok.ensures.ok c.enter.ensures.legal c.enter.ensures.rests in
    e.1.0.4

pub issue-requires-clause-new : goal.issue-requires-clause-new
issue-requires-clause-new g c =
    let h = c.take_out-hub.result in
    let new = c.take_out-hub.ensures.new in
    let same = issued_own h.entries new.2 ∙ ap issued_in (ap (λ n. calls_by n h.entries) (sym c.requires.kind) ∙ new.1) in
    ap (job_of c.args.job.id) same ∙ c.requires.new
