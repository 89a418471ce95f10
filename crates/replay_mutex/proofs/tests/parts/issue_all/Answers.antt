use Rattle.std.proofs.Common.{◌<◌, ◌+◌, List, refl, sym, ap, ◌∙◌, subst}
use Rattle.std.specs.Prelude.{All}
use Rattle.plain_hub.specs.declared.job.Job.{Job}
use Rattle.plain_hub.specs.declared.entry.Entry.{Entry}
use Rattle.plain_hub.specs.Hub.{job_of}
use Rattle.replay_mutex.specs.Shown.{knows, issued_in}
use Rattle.replay_mutex.proofs.FreshIds.{fresh_id, one_id_more}
use Rattle.replay_mutex.proofs.tests.parts.issue_all.Goals as goal

pub issue-requires-clause-new : goal.issue-requires-clause-new
issue-requires-clause-new g c =
    let jobs = issued_in (knows c.loop-id.machine).mine in
    ap (λ (j : Job). job_of j.id jobs) c.empty_job.ensures ∙ fresh_id c.loop-id.id jobs c.loop-id.invariant.1

pub loop-id-preserved : goal.loop-id-preserved
loop-id-preserved g c =
    let i = c.loop-id.invariant in
    let s = c.issue.ensures.same in
    let v = knows c.loop-id.machine in
    let n = c.loop-id.id in
    let more = one_id_more n (n + 1) v.number v.mine c.empty_job.result i.1 (ap (λ (j : Job). j.id) c.empty_job.ensures) refl in (
      record { table = s.table ∙ i.0.table; base = s.base ∙ i.0.base; number = s.number ∙ i.0.number; made = s.made ∙ i.0.made },
      subst (λ (l : List Entry). All (λ (j : Job). j.id < n + 1) (issued_in l)) (sym c.in_ok-issue.ensures.ok.2) more,
    )
