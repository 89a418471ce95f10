use Rattle.std.proofs.Common.{length}
use Rattle.rr_engine.specs.Stand.{stand}
use Rattle.rr_engine.proofs.Taking.{Taking}
use Rattle.rr_engine.proofs.recorder.Recorder.take_in.Given as goal

-- the items that don't wait were entered
abbrev pub invariant-loop-item : goal.invariant-loop-item
invariant-loop-item g l =
    Taking l.fn.items.items l.waiting.items (stand g.I.Inputs.feed l.fn.self l.fn.parts)
    (stand g.I.Inputs.feed l.self l.parts)

abbrev pub decreases-loop-item : goal.decreases-loop-item
decreases-loop-item g l = length l.waiting.items
