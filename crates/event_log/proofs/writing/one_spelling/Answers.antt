use Rattle.event_log.proofs.FrontLemmas.{same_front}
use Rattle.event_log.proofs.writing.one_spelling.Goals as goal

pub returns : goal.returns
returns c = same_front
