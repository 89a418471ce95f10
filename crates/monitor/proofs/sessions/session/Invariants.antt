use Rattle.std.proofs.Common.{◌≡◌, ◌+◌, ◌-◌}
use Rattle.monitor.specs.Serving.{desk_of, written, heard, most}
use Rattle.monitor.proofs.Ending.{Served}
use Rattle.monitor.proofs.sessions.session.Given as goal

abbrev pub invariant-loop-keeping : goal.invariant-loop-keeping
invariant-loop-keeping g l = record {
  served : Served l.fn.timeline.script (desk_of l.timeline l.keeping) l.count
      (heard (g.I.Source.left l.fn.input) (g.I.Source.faults l.fn.input))
      (heard (g.I.Source.left l.input) (g.I.Source.faults l.input))
      (written (g.S.Sink.taken l.fn.out) (g.S.Sink.faults l.fn.out))
      (written (g.S.Sink.taken l.out) (g.S.Sink.faults l.out));
  script : l.timeline.script ≡ l.fn.timeline.script;
  image : l.timeline.image ≡ l.fn.timeline.image;
  role : g.S.Sink.role l.out ≡ g.S.Sink.role l.fn.out;
}

abbrev pub decreases-loop-keeping : goal.decreases-loop-keeping
decreases-loop-keeping g l = most + 1 - l.count
