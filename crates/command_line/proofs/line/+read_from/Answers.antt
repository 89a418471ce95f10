use Rattle.std.proofs.Common.{◌∙◌, sym, ap, map, string_bytes}
use Rattle.command_line.specs.Words.{key_of, with_option}
use Rattle.command_line.specs.Line.{seen_given, seen_key}
use Rattle.command_line.proofs.WordLemmas.{two_and_rest, reading-pair}
use Rattle.command_line.proofs.line.+read_from.Goals as goal

pub returns-in-Some-with : goal.returns-in-Some-with
returns-in-Some-with t c =
    let words = ap (map string_bytes) (two_and_rest _ _ _ c.in-len2-up.len_at_least c.word-item-2.is c.value-item.is) in
    let key = ap (key_of (seen_given c.args.options)) (sym c.as_str-in-len2-up.ensures.value) ∙ sym c.in-Some-key.ensures in
    let more = ap (with_option (seen_given c.args.options) (seen_key c.in-Some-key.key)) (sym c.as_str-in-Some-key.ensures.value) ∙ sym c.in-Some-with.ensures in
    c.read_from.ensures ∙ sym (reading-pair _ _ _ _ _ _ _ _ words key more)
