use Rattle.rr_engine.specs.Windows.{Unreceived, nothing_left}
use Rattle.rr_engine.specs.Stand.{stand}
use Rattle.rr_engine.proofs.Joining.{goes-then}
use Rattle.rr_engine.proofs.Owing.{owes_checkpoint, checkpoint-opens}
use Rattle.rr_engine.proofs.Idling.{checkpoint-idle}
use Rattle.rr_engine.proofs.Rounding.{entered-step, entered-falls, opened, unopened, opened-sound, opened-left}
use Rattle.rr_engine.proofs.recorder.Recorder.checkpoint.Goals as goal

pub enter-requires-clause-owed : goal.enter-requires-clause-owed
enter-requires-clause-owed g c = owes_checkpoint c.args.self.now.machine c.args.idle c.requires.due

pub show-requires-clause-open : goal.show-requires-clause-open
show-requires-clause-open g c =
    checkpoint-opens c.args.self.now.machine _ c.args.idle c.requires.on.going
    (entered-step (stand g.I.Inputs.feed c.args.self.now c.args.parts.now) _ _ _ c.in-Ok.ensures)

pub show-requires-clause-sound : goal.show-requires-clause-sound
show-requires-clause-sound g c =
    opened-sound (stand g.I.Inputs.feed c.args.self.now c.args.parts.now)
    (stand g.I.Inputs.feed c.enter.new.self c.enter.new.parts) _ _ c.in-Ok.ensures c.requires.on.rests.sound

pub show-requires-clause-idle : goal.show-requires-clause-idle
show-requires-clause-idle g c =
    checkpoint-idle c.args.self.now.machine _ c.args.idle
    (entered-step (stand g.I.Inputs.feed c.args.self.now c.args.parts.now) _ _ _ c.in-Ok.ensures)

pub returns-in-Ok : goal.returns-in-Ok
returns-in-Ok g c =
    let p = stand g.I.Inputs.feed c.args.self.now c.args.parts.now in
    let q = stand g.I.Inputs.feed c.enter.new.self c.enter.new.parts in
    let r = stand g.I.Inputs.feed c.show.new.self c.show.new.parts in
    record {
      goes = goes-then nothing_left Unreceived nothing_left p q _ _ (opened p q c.args.idle _ c.in-Ok.ensures)
          c.show.ensures.goes;
      works = c.show.ensures.works;
      left = opened-left p q r _ _ c.in-Ok.ensures
          (entered-falls p q _ _ tt c.requires.counts c.requires.on.going c.in-Ok.ensures) c.show.ensures.left;
      rests = c.show.ensures.rests;
    }

pub returns-in-Err : goal.returns-in-Err
returns-in-Err g c =
    let p = stand g.I.Inputs.feed c.args.self.now c.args.parts.now in
    let q = stand g.I.Inputs.feed c.enter.new.self c.enter.new.parts in
    record { goes = unopened p q c.args.idle _ c.in-Err.ensures; works = tt; left = tt; rests = tt }
