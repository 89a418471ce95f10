use Rattle.std.proofs.Common.{◌-◌, ◌≤◌, length}
use Rattle.event_log.specs.Reading.{reading, Runs, Stays}
use Rattle.event_log.proofs.read_ahead.ReadAhead.wait_for.Given as goal

-- the same bytes are ahead
abbrev pub invariant-loop-self : goal.invariant-loop-self
invariant-loop-self g l = record {
  runs : Runs (reading (g.S.Source.left l.fn.source) (g.S.Source.faults l.fn.source) l.fn.self)
      (reading (g.S.Source.left l.source) (g.S.Source.faults l.source) l.self);
  stays : Stays (reading (g.S.Source.left l.fn.source) (g.S.Source.faults l.fn.source) l.fn.self)
      (reading (g.S.Source.left l.source) (g.S.Source.faults l.source) l.self);
  most : length l.self.held ≤ 65536;
}

abbrev pub decreases-loop-self : goal.decreases-loop-self
decreases-loop-self g l = l.count - length l.self.held
