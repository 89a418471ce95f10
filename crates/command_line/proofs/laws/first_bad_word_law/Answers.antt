use Rattle.command_line.proofs.LawLemmas.{first_bad}
use Rattle.command_line.proofs.laws.first_bad_word_law.Goals as goal

pub returns : goal.returns
returns c = first_bad
