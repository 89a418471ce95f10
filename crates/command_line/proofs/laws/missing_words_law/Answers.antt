use Rattle.command_line.proofs.LawLemmas.{missing}
use Rattle.command_line.proofs.laws.missing_words_law.Goals as goal

pub returns : goal.returns
returns c = missing
