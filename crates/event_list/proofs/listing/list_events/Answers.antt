use Rattle.std.proofs.Common.{rules, arith, ◌≡◌, false, refl, ◌∙◌}
use Rattle.std.specs.Prelude.{Ok}
use Rattle.outside.specs.Causes.{Rose}
use Rattle.outside.specs.Told.{Takes}
use Rattle.event_log.specs.Reading.{Ends}
use Rattle.event_list.specs.Texts.{event_line}
use Rattle.event_list.proofs.ListSteps.{listing-none, more-as, unwritten-as, next-as, more-bytes-as}
use Rattle.event_list.proofs.listing.list_events.Goals as goal

pub loop-over-init : goal.loop-over-init
loop-over-init g c = record {
  listing = listing-none _ c.requires.place c.requires.works
      (omega (arith, c.requires.place, c.place-place.ensures.most));
  role = refl;
}

pub loop-over-preserved : goal.loop-over-preserved
loop-over-preserved g c =
    let line : c.as_bytes.result.now ≡ event_line c.loop-over.index c.in-Ok.offset c.in-Ok.event =
    search rules in
    let took : Takes (g.K.Sink.taken c.loop-over.out) (g.K.Sink.taken c.put_all.new.self)
    c.as_bytes.result.now = search rules in
    let kept : g.K.Sink.faults c.put_all.new.self ≡ g.K.Sink.faults c.loop-over.out =
    search rules in
    record {
      listing = more-as _ _ _ _ c.loop-over.invariant.listing c.in-Ok.event c.in-Ok.offset
          c.next.new.self _ _ c.as_bytes.result.now c.is_end-over.result c.loop-over-test.true
          c.in-Ok.ensures.event line took kept c.is_end-over.ensures;
      role = c.put_all.ensures.role ∙ c.loop-over.invariant.role;
    }

pub returns-then-is_err-clause-lists : goal.returns-then-is_err-clause-lists
returns-then-is_err-clause-lists g c =
    let line : c.as_bytes.result.now ≡ event_line c.loop-over.index c.in-Ok.offset c.in-Ok.event =
    search rules in
    let rose : Rose (g.K.Sink.faults c.loop-over.out) (g.K.Sink.faults c.put_all.new.self) =
    search rules in
    unwritten-as _ _ _ _ c.loop-over.invariant.listing c.in-Ok.event c.in-Ok.offset
    c.next.new.self _ _ c.as_bytes.result.now c.loop-over-test.true c.in-Ok.ensures.event line
    c.put_all.ensures.front rose

pub returns-in-Err-clause-lists : goal.returns-in-Err-clause-lists
returns-in-Err-clause-lists g c =
    next-as _ _ _ _ c.loop-over.invariant.listing c.next.new.self c.in-Err.error _
    c.loop-over-test.true c.in-Err.ensures.event c.stopped.ensures

pub returns-in-Ok-false-clause-lists : goal.returns-in-Ok-false-clause-lists
returns-in-Ok-false-clause-lists g c =
    let end : Ends c.loop-over.log c.at_end.new.self (Ok false) = search rules in
    more-bytes-as _ _ _ _ c.loop-over.invariant.listing c.at_end.new.self c.place.result _
    c.loop-over-test.false end c.place.ensures.place c.refused.ensures
