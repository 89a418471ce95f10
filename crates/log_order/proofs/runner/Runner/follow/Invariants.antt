use Rattle.std.proofs.Common.{◌-◌, length}
use Rattle.log_order.specs.Feeding.{CountsTurns}
use Rattle.log_order.proofs.Following.{Followed}
use Rattle.log_order.proofs.runner.Runner.follow.Given as goal

abbrev pub invariant-events : goal.invariant-events
invariant-events g l = record {
  followed : Followed l.bytes l.fn.self.machine l.place l.self;
  turns : CountsTurns l.fn.self l.self l.fn.steps l.steps;
}

abbrev pub decreases-events : goal.decreases-events
decreases-events g l = length l.bytes - l.place
