use Rattle.std.proofs.Common.{◌<◌}
use Rattle.std.specs.Prelude.{All}
use Rattle.plain_hub.specs.declared.job.Job.{Job}
use Rattle.replay_mutex.specs.Shown.{knows, IsSame, issued_in}
use Rattle.replay_mutex.proofs.tests.parts.issue_all.Given as goal

-- all ids so far are below the next
abbrev pub invariant-loop-id : goal.invariant-loop-id
invariant-loop-id g l = IsSame l.fn.machine l.machine × All (λ (j : Job). j.id < l.id) (issued_in (knows l.machine).mine)
