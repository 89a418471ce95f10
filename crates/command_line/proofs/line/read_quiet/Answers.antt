use Rattle.std.proofs.Common.{map, string_bytes}
use Rattle.command_line.proofs.FirstLemmas.{quiet_line, quiet_other}
use Rattle.command_line.proofs.RangeLemmas.{quiet_range, quiet_names}
use Rattle.command_line.proofs.line.read_quiet.Goals as goal

pub returns-in-Some-clause-value : goal.returns-in-Some-clause-value
returns-in-Some-clause-value c =
    quiet_line string_bytes c.args.words.now _ c.as_str.result.now _ c.in-len1-up.len_at_least c.first-item.is c.as_str.ensures.value c.in-Some.ensures

pub returns-in-Some-clause-named : goal.returns-in-Some-clause-named
returns-in-Some-clause-named c = quiet_names string_bytes c.args.words.now _ (returns-in-Some-clause-value c)

pub returns-in-Some-clause-range : goal.returns-in-Some-clause-range
returns-in-Some-clause-range c = quiet_range (map string_bytes c.args.words.now) _ (returns-in-Some-clause-value c)

pub returns-in-None-clause-value : goal.returns-in-None-clause-value
returns-in-None-clause-value c =
    quiet_other string_bytes c.args.words.now _ c.as_str.result.now c.in-len1-up.len_at_least c.first-item.is c.as_str.ensures.value c.in-None.ensures
