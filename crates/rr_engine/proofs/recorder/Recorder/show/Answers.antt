use Rattle.std.specs.Prelude.{Ok, Err}
use Rattle.rr_engine.specs.Input.{Entire}
use Rattle.rr_engine.specs.Windows.{Unreceived, nothing_left}
use Rattle.rr_engine.specs.Stand.{stand}
use Rattle.rr_engine.proofs.Joining.{goes-then}
use Rattle.rr_engine.proofs.Stopping.{shown, spills}
use Rattle.rr_engine.proofs.Rounding.{shown-open, shown-silent, shown-sound, shown-idle, shown-left}
use Rattle.rr_engine.proofs.recorder.Recorder.show.Goals as goal

pub listen-requires-clause-open : goal.listen-requires-clause-open
listen-requires-clause-open g c =
    shown-open (stand g.I.Inputs.feed c.args.self.now c.args.parts.now)
    (stand g.I.Inputs.feed c.write_out.new.self c.write_out.new.parts) (Ok tt) c.in-Ok.ensures.shows c.requires.open

pub listen-requires-clause-silent : goal.listen-requires-clause-silent
listen-requires-clause-silent g c =
    shown-silent (stand g.I.Inputs.feed c.args.self.now c.args.parts.now)
    (stand g.I.Inputs.feed c.write_out.new.self c.write_out.new.parts) (Ok tt) c.in-Ok.ensures.shows

pub listen-requires-clause-sound : goal.listen-requires-clause-sound
listen-requires-clause-sound g c =
    shown-sound (stand g.I.Inputs.feed c.args.self.now c.args.parts.now)
    (stand g.I.Inputs.feed c.write_out.new.self c.write_out.new.parts) (Ok tt) c.in-Ok.ensures.shows c.requires.sound

pub listen-requires-clause-idle : goal.listen-requires-clause-idle
listen-requires-clause-idle g c =
    shown-idle (stand g.I.Inputs.feed c.args.self.now c.args.parts.now)
    (stand g.I.Inputs.feed c.write_out.new.self c.write_out.new.parts) (Ok tt) c.args.idle c.in-Ok.ensures.shows
    c.requires.idle

pub returns-in-Ok : goal.returns-in-Ok
returns-in-Ok g c =
    let p = stand g.I.Inputs.feed c.args.self.now c.args.parts.now in
    let q = stand g.I.Inputs.feed c.write_out.new.self c.write_out.new.parts in
    let r = stand g.I.Inputs.feed c.listen.new.self c.listen.new.parts in
    record {
      goes = goes-then Unreceived Unreceived nothing_left p q _ _
          (shown Unreceived p q c.requires.works c.in-Ok.ensures.shows) c.listen.ensures.goes;
      works = c.listen.ensures.works;
      left = shown-left p q r _ c.in-Ok.ensures.shows c.listen.ensures.left;
      rests = c.listen.ensures.rests;
    }

pub stop-requires-clause-open : goal.stop-requires-clause-open
stop-requires-clause-open g c =
    shown-open (stand g.I.Inputs.feed c.args.self.now c.args.parts.now)
    (stand g.I.Inputs.feed c.write_out.new.self c.write_out.new.parts) (Err c.in-Err.broke) c.in-Err.ensures.shows
    c.requires.open

pub stop-requires-clause-silent : goal.stop-requires-clause-silent
stop-requires-clause-silent g c =
    shown-silent (stand g.I.Inputs.feed c.args.self.now c.args.parts.now)
    (stand g.I.Inputs.feed c.write_out.new.self c.write_out.new.parts) (Err c.in-Err.broke) c.in-Err.ensures.shows

pub returns-in-Err : goal.returns-in-Err
returns-in-Err g c = record {
  goes = spills Unreceived Entire (stand g.I.Inputs.feed c.args.self.now c.args.parts.now)
      (stand g.I.Inputs.feed c.write_out.new.self c.write_out.new.parts) _ _ _ _
      c.or_memory.ensures c.in-Err.ensures.shows (c.stop.ensures Unreceived);
  works = tt;
  left = tt;
  rests = tt;
}
