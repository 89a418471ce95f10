use Rattle.std.proofs.Common.{◌∙◌, ap, map, string_bytes}
use Rattle.command_line.specs.Words.{reading}
use Rattle.command_line.proofs.LawLemmas.{no_help, no_version}
use Rattle.command_line.proofs.FirstLemmas.{command_line, options_line}
use Rattle.command_line.proofs.RangeLemmas.{line_range, line_names}
use Rattle.command_line.proofs.line.read_line.Goals as goal

pub returns-in-Some-clause-value : goal.returns-in-Some-clause-value
returns-in-Some-clause-value c =
    command_line string_bytes c.args.words.now _ c.as_str.result.now _ c.in-len1-up.len_at_least c.first-item.is c.as_str.ensures.value
    (no_help c.as_str.result.now c.in_default-as_str.not-text c.in_default-as_str.not-text-2 c.in_default-as_str.not-text-3)
    (no_version c.as_str.result.now c.in_default-as_str.not-text-4 c.in_default-as_str.not-text-5)
    c.in-Some.ensures

pub returns-in-Some-clause-named : goal.returns-in-Some-clause-named
returns-in-Some-clause-named c = line_names string_bytes c.args.words.now _ (returns-in-Some-clause-value c)

pub returns-in-Some-clause-range : goal.returns-in-Some-clause-range
returns-in-Some-clause-range c = line_range (map string_bytes c.args.words.now) _ (returns-in-Some-clause-value c)

pub returns-in-None-clause-value : goal.returns-in-None-clause-value
returns-in-None-clause-value c =
    c.read_from.ensures
    ∙ ap (λ g. reading g 0 (map string_bytes c.args.words.now)) c.none.ensures
    ∙ options_line string_bytes c.args.words.now _ c.as_str.result.now c.in-len1-up.len_at_least c.first-item.is c.as_str.ensures.value
    (no_help c.as_str.result.now c.in_default-as_str.not-text c.in_default-as_str.not-text-2 c.in_default-as_str.not-text-3)
    (no_version c.as_str.result.now c.in_default-as_str.not-text-4 c.in_default-as_str.not-text-5)
    c.in-None.ensures

pub returns-in-None-clause-named : goal.returns-in-None-clause-named
returns-in-None-clause-named c = line_names string_bytes c.args.words.now _ (returns-in-None-clause-value c)

pub returns-in-None-clause-range : goal.returns-in-None-clause-range
returns-in-None-clause-range c = line_range (map string_bytes c.args.words.now) _ (returns-in-None-clause-value c)
