use Rattle.std.proofs.Common.{◌≡◌, take}
use Rattle.monitor.specs.Serving.{desk_of, written}
use Rattle.monitor.proofs.Fed.{Went}
use Rattle.monitor.proofs.desk.Keeping.take_bytes.Given as goal

abbrev pub invariant-loop-byte : goal.invariant-loop-byte
invariant-loop-byte g l = record {
  went : Went l.fn.timeline.script (desk_of l.fn.timeline l.fn.self) (desk_of l.timeline l.self) (take l.byte-index l.bytes)
      (written (g.S.Sink.taken l.fn.out) (g.S.Sink.faults l.fn.out))
      (written (g.S.Sink.taken l.out) (g.S.Sink.faults l.out));
  script : l.timeline.script ≡ l.fn.timeline.script;
  image : l.timeline.image ≡ l.fn.timeline.image;
  role : g.S.Sink.role l.out ≡ g.S.Sink.role l.fn.out;
}
