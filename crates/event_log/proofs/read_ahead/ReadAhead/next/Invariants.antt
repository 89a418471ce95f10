use Rattle.std.proofs.Common.{◌-◌, ◌≤◌, length}
use Rattle.event_log.specs.Reading.{reading, Runs, Stays}
use Rattle.event_log.proofs.read_ahead.ReadAhead.next.Given as goal

-- the same bytes are ahead
abbrev pub invariant-loop-found : goal.invariant-loop-found
invariant-loop-found g l = record {
  runs : Runs (reading (g.S.Source.left l.fn.source) (g.S.Source.faults l.fn.source) l.fn.self)
      (reading (g.S.Source.left l.source) (g.S.Source.faults l.source) l.self);
  stays : Stays (reading (g.S.Source.left l.fn.source) (g.S.Source.faults l.fn.source) l.fn.self)
      (reading (g.S.Source.left l.source) (g.S.Source.faults l.source) l.self);
  most : length l.self.held ≤ 65536;
}

abbrev pub decreases-loop-found : goal.decreases-loop-found
decreases-loop-found g l = 65536 - length l.self.held
