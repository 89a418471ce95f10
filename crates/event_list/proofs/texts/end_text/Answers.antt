use Rattle.std.proofs.Common.{rules, append_assoc}
use Rattle.event_list.proofs.texts.end_text.Goals as goal

pub returns : goal.returns
returns c = search (rules, append_assoc)
