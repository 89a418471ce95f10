use Rattle.std.proofs.Common.{◌≡◌, false}
use Rattle.rr_engine.specs.Input.{Entire}
use Rattle.rr_engine.specs.Feed.{source_feed}
use Rattle.rr_engine.specs.Windows.{nothing_left}
use Rattle.rr_engine.specs.Stand.{stand}
use Rattle.rr_engine.specs.Recording.{Recorded}
use Rattle.rr_engine.specs.Owed.{Rests}
use Rattle.rr_engine.specs.Work.{work_left}
use Rattle.rr_engine.proofs.rounds.Recorder+Pieces.run.Given as goal

-- what was recorded so far
abbrev pub invariant-rounds : goal.invariant-rounds
invariant-rounds g l = record {
  recorded : Recorded Entire nothing_left nothing_left (stand source_feed l.fn.self l.fn.parts) (stand source_feed l.self l.parts);
  works : l.self.log.failed ≡ false;
  rests : Rests (stand source_feed l.self l.parts);
}

abbrev pub decreases-rounds : goal.decreases-rounds
decreases-rounds g l = work_left l.self.machine l.self.inputs
