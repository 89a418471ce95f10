use Rattle.std.proofs.Common.{◌≡◌, ◌-◌, ◌≤◌, length, take}
use Rattle.outside.specs.Told.{Takes}
use Rattle.outside.proofs.careful.Careful.put_all.Given as goal

-- so many bytes were taken
abbrev pub invariant-loop-done : goal.invariant-loop-done
invariant-loop-done g l = record {
  within : l.done ≤ length l.bytes;
  taken : Takes (g.S.Sink.taken l.fn.self) (g.S.Sink.taken l.self-inside.sink) (take l.done l.bytes);
  role : g.S.Sink.role l.self-inside.sink ≡ g.S.Sink.role l.fn.self;
  faults : g.S.Sink.faults l.self-inside.sink ≡ g.S.Sink.faults l.fn.self;
}

abbrev pub decreases-loop-done : goal.decreases-loop-done
decreases-loop-done g l = length l.bytes - l.done
