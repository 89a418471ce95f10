use Rattle.std.proofs.Common.{rules}
use Rattle.std.specs.Prelude.{Err}
use Rattle.io_workers.specs.Intake.{intake}
use Rattle.rr_engine.specs.Input.{Entire}
use Rattle.rr_engine.specs.Feed.{source_feed}
use Rattle.rr_engine.specs.Windows.{nothing_left}
use Rattle.rr_engine.specs.Stand.{stand}
use Rattle.rr_engine.proofs.Rounding.{source-left}
use Rattle.rr_engine.proofs.Joining.{recorded-none, recorded-then, goes-then}
use Rattle.rr_engine.proofs.rounds.Recorder+Pieces.run.Goals as goal

pub rounds-init : goal.rounds-init
rounds-init g c = record {
  recorded = recorded-none nothing_left (stand source_feed c.args.self.now c.args.parts.now) c.requires.works;
  works = c.requires.works;
  rests = c.requires.rests;
}

pub round-requires : goal.round-requires
round-requires g c = record {
  works = c.rounds.invariant.works;
  going = search rules;
  rests = c.rounds.invariant.rests;
}

pub rounds-preserved : goal.rounds-preserved
rounds-preserved g c = record {
  recorded = recorded-then Entire nothing_left nothing_left nothing_left _
      (stand source_feed c.rounds.self c.rounds.parts) _ c.rounds.invariant.recorded c.in-Ok.ensures.goes;
  works = c.in-Ok.ensures.works;
  rests = c.in-Ok.ensures.rests;
}

pub returns-in-Err-clause-goes : goal.returns-in-Err-clause-goes
returns-in-Err-clause-goes g c =
    goes-then nothing_left nothing_left nothing_left (stand source_feed c.args.self.now c.args.parts.now)
    (stand source_feed c.rounds.self c.rounds.parts) (stand source_feed c.round.new.self c.round.new.parts)
    (Err c.in-Err.broke) c.rounds.invariant.recorded c.in-Err.ensures.goes

pub rounds-smaller : goal.rounds-smaller
rounds-smaller g c =
    source-left c.rounds.self.machine c.round.new.self.machine
    (intake c.rounds.parts.input c.rounds.parts.input_faults c.rounds.self.inputs)
    (intake c.round.new.parts.input c.round.new.parts.input_faults c.round.new.self.inputs) c.in-Ok.ensures.left
