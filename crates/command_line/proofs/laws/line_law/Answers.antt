use Rattle.command_line.proofs.LawLemmas.{line_sound, line_complete}
use Rattle.command_line.proofs.laws.line_law.Goals as goal

pub returns-clause-sound : goal.returns-clause-sound
returns-clause-sound c = line_sound

pub returns-clause-complete : goal.returns-clause-complete
returns-clause-complete c = line_complete
