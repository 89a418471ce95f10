use Rattle.event_log.proofs.FrontLemmas.{front_of_texts}
use Rattle.event_log.proofs.writing.front_of_texts.Goals as goal

pub returns : goal.returns
returns c = front_of_texts
