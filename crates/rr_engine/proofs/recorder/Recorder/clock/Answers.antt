use Rattle.std.proofs.Common.{arith}
use Rattle.rr_engine.specs.Stand.{stand}
use Rattle.rr_engine.proofs.Owing.{owes_clock}
use Rattle.rr_engine.proofs.Rounding.{clock-goes, clock-falls, clock-rests, entered-works, entered-falls, all-falls, inner-rests, entered-feed}
use Rattle.rr_engine.proofs.recorder.Recorder.clock.Goals as goal

pub enter-requires-clause-owed : goal.enter-requires-clause-owed
enter-requires-clause-owed g c = owes_clock c.args.self.now.machine c.now-value.result (omega arith) c.requires.due

pub returns : goal.returns
returns g c =
    let p = stand g.I.Inputs.feed c.args.self.now c.now-value.new.self in
    let q = stand g.I.Inputs.feed c.enter.new.self c.enter.new.parts in
    record {
      goes = clock-goes g.I.Inputs.feed c.args.self.now c.args.parts.now c.now-value.new.self _
          c.now-value.result _ c.now-value.ensures.rest c.now-value.ensures.value (omega arith) c.enter.ensures;
      works = entered-works p q _ _ c.enter.ensures;
      left = clock-falls g.I.Inputs.feed c.args.self.now c.args.parts.now c.now-value.new.self q _
          c.now-value.ensures.rest
          (all-falls p q _ (entered-feed p q _ _ c.enter.ensures)
          (entered-falls p q _ _ tt c.requires.counts c.requires.on.going c.enter.ensures));
      rests = inner-rests p _ _ _ tt c.requires.on.going
          (clock-rests g.I.Inputs.feed c.args.self.now c.args.parts.now c.now-value.new.self
          c.now-value.ensures.rest c.requires.on.rests)
          c.enter.ensures;
    }
