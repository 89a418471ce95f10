use Rattle.command_line.proofs.NumberLemmas.{number-sound, number-complete}
use Rattle.command_line.proofs.laws.number_law.Goals as goal

pub returns-clause-sound : goal.returns-clause-sound
returns-clause-sound c = number-sound

pub returns-clause-complete : goal.returns-clause-complete
returns-clause-complete c = number-complete
