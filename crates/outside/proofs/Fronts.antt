-- What is known of fronts that a sink has taken, for functions that write several pieces.
use Rattle.outside.proofs.ToldLemmas.{Takes-trans, TakesFront-none, TakesFront-all, TakesFront-longer, TakesFront-after, Takes-start, TakesFront-start}
use Rattle.outside.proofs.OpeningLemmas.{OpensFront-none, OpensFront-all}

-- piece after piece to one sink
pub ruleset fronts = (Takes-trans, TakesFront-none, TakesFront-all, TakesFront-longer, TakesFront-after)

-- from a sink that was just opened
pub ruleset starts = (Takes-start, TakesFront-start)

-- what was opened
pub ruleset openings = (OpensFront-none, OpensFront-all)
