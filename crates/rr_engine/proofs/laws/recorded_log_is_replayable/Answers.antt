use Rattle.rr_engine.proofs.Replayable.{replays-alike}
use Rattle.rr_engine.proofs.laws.recorded_log_is_replayable.Goals as goal

pub returns : goal.returns
returns c = replays-alike
