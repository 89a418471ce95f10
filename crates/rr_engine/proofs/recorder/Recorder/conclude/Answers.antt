use Rattle.rr_engine.specs.Windows.{nothing_left}
use Rattle.rr_engine.specs.Stand.{stand}
use Rattle.rr_engine.proofs.Stopping.{conclusion-spills}
use Rattle.rr_engine.proofs.Rounding.{entered-works, conclude-owed, conclude-goes, conclude-falls, conclude-left, conclude-rests}
use Rattle.rr_engine.proofs.recorder.Recorder.conclude.Goals as goal

pub enter-requires-clause-owed : goal.enter-requires-clause-owed
enter-requires-clause-owed g c =
    conclude-owed (stand g.I.Inputs.feed c.args.self.now c.args.parts.now)
    (stand g.I.Inputs.feed c.write_out.new.self c.write_out.new.parts)
    c.args.reason c.args.code c.in-Ok.ensures.shows c.requires.due c.requires.kind

pub returns-in-Ok : goal.returns-in-Ok
returns-in-Ok g c =
    let p = stand g.I.Inputs.feed c.args.self.now c.args.parts.now in
    let q = stand g.I.Inputs.feed c.write_out.new.self c.write_out.new.parts in
    let r = stand g.I.Inputs.feed c.enter.new.self c.enter.new.parts in
    let on = c.requires.on in
    record {
      goes = conclude-goes p q _ c.args.reason c.args.code _ on.works c.in-Ok.ensures.shows
          (conclude-owed p q c.args.reason c.args.code c.in-Ok.ensures.shows c.requires.due c.requires.kind)
          c.enter.ensures;
      works = entered-works q r _ _ c.enter.ensures;
      left = conclude-left p q _ c.args.reason c.args.code _ c.in-Ok.ensures.shows
          (conclude-falls p q _ c.args.reason c.args.code _ c.in-Ok.ensures.shows c.requires.counts on.going
          c.enter.ensures)
          c.enter.ensures;
      rests = conclude-rests p q _ c.args.reason c.args.code _ c.in-Ok.ensures.shows c.requires.kind on.going
          c.requires.due on.rests c.enter.ensures;
    }

pub returns-in-Err : goal.returns-in-Err
returns-in-Err g c = record {
  goes = conclusion-spills nothing_left (stand g.I.Inputs.feed c.args.self.now c.args.parts.now)
      (stand g.I.Inputs.feed c.write_out.new.self c.write_out.new.parts)
      _ _ _ _ c.args.reason c.args.code c.or_memory.ensures
      c.in-Err.ensures.shows c.requires.on.going c.requires.due c.requires.on.rests c.finish.ensures;
  works = tt;
  left = tt;
  rests = tt;
}
