use Rattle.replay_mutex.specs.Shown.{IsSame}
use Rattle.replay_mutex.proofs.tests.threads.act.Given as goal

abbrev pub invariant-loop : goal.invariant-loop
invariant-loop g l = IsSame l.fn.pass l.pass
