use Rattle.std.proofs.Common.{refl}
use Rattle.rr_engine.specs.Windows.{nothing_left}
use Rattle.rr_engine.specs.Stand.{stand}
use Rattle.log_order.proofs.Advancing.{instruction}
use Rattle.rr_engine.proofs.Running.{count-spelled, turns-fall, turns-going}
use Rattle.rr_engine.proofs.Entering.{enters-noted, out-of-memory}
use Rattle.rr_engine.proofs.Rounding.{entered-goes, entered-works, turns-left, turns-rests}
use Rattle.rr_engine.proofs.recorder.Recorder.turns.Goals as goal

pub note-requires-clause-spelled : goal.note-requires-clause-spelled
note-requires-clause-spelled g c =
    count-spelled c.in-Ok.count c.args.self.now.machine c.requires.counts c.requires.due c.in-Ok.ensures.1

pub returns-in-Ok : goal.returns-in-Ok
returns-in-Ok g c =
    let p = stand g.I.Inputs.feed c.args.self.now c.args.parts.now in
    let q = stand g.I.Inputs.feed c.note.new.self c.note.new.parts in
    let on = c.requires.on in
    let stepped = instruction c.in-Ok.count c.args.self.now.machine c.run.new.self c.requires.counts c.in-Ok.ensures.1 c.in-Ok.ensures.0 in
    let spelled = count-spelled c.in-Ok.count c.args.self.now.machine c.requires.counts c.requires.due c.in-Ok.ensures.1 in
    let entered = enters-noted p q _ _ _ stepped c.note.ensures in
    record {
      goes = entered-goes p q _ _ spelled refl tt entered;
      works = entered-works p q _ _ entered;
      left = turns-left p q c.run.new.self _ _ c.note.ensures
          (turns-fall c.args.self.now.machine c.run.new.self c.requires.counts c.requires.due c.in-Ok.ensures.0);
      rests = turns-rests p q _ _ c.run.new.self c.note.ensures c.in-Ok.ensures.0 c.requires.due
          (turns-going c.args.self.now.machine c.run.new.self on.going c.in-Ok.ensures.0) on.rests;
    }

pub returns-in-Err : goal.returns-in-Err
returns-in-Err g c = record {
  goes = out-of-memory nothing_left nothing_left (stand g.I.Inputs.feed c.args.self.now c.args.parts.now) c.run.new.self;
  works = tt;
  left = tt;
  rests = tt;
}
