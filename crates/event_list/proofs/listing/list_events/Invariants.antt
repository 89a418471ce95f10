use Rattle.std.proofs.Common.{◌≡◌, ◌-◌, ◌^◌}
use Rattle.event_list.specs.Listing.{listed}
use Rattle.event_list.proofs.ListSteps.{Listing}
use Rattle.event_list.proofs.listing.list_events.Given as goal

abbrev pub invariant-loop-over : goal.invariant-loop-over
invariant-loop-over g l = record {
  listing : Listing
      (listed l.fn.log (g.K.Sink.taken l.fn.out) (g.K.Sink.faults l.fn.out))
      (listed l.log (g.K.Sink.taken l.out) (g.K.Sink.faults l.out)) l.index l.over;
  role : g.K.Sink.role l.out ≡ g.K.Sink.role l.fn.out;
}

abbrev pub decreases-loop-over : goal.decreases-loop-over
decreases-loop-over g l = 2 ^ 40 - l.log.unread.place
