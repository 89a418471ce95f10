use Rattle.std.proofs.Common.{◌∙◌, sym, ap, arith, option_map, Some, None}
use Rattle.std.proofs.lemmas.Str.Pattern.{split_once_first}
use Rattle.command_line.specs.Line.{seen_settings}
use Rattle.command_line.proofs.PartLemmas.{with_parts-last, with_parts-next}
use Rattle.command_line.proofs.icount.+with_parts.Goals as goal

pub returns-in-None : goal.returns-in-None
returns-in-None t c =
    c.with_part.ensures ∙ sym (with_parts-last _ _ (split_once_first 44 _ None c.in-None.ensures.cases (omega arith)))

pub returns-in_err-with_part-in-Some : goal.returns-in_err-with_part-in-Some
returns-in_err-with_part-in-Some t c =
    let cut = split_once_first 44 _ (Some (c.in-Some.part, c.in-Some.rest)) c.in-Some.ensures.cases (omega arith) in
    let stops = sym (ap (option_map seen_settings) c.in_err-with_part-in-Some.was) ∙ c.with_part-in-Some.ensures in
    ap (option_map seen_settings) c.from_residual.ensures ∙ sym (with_parts-next (seen_settings c.args.settings) _ _ _ _ cut.0 cut.1 cut.2 stops)

pub returns-in_ok-with_part-in-Some : goal.returns-in_ok-with_part-in-Some
returns-in_ok-with_part-in-Some t c =
    let cut = split_once_first 44 _ (Some (c.in-Some.part, c.in-Some.rest)) c.in-Some.ensures.cases (omega arith) in
    let more = sym (ap (option_map seen_settings) c.in_ok-with_part-in-Some.was) ∙ c.with_part-in-Some.ensures in
    c.with_parts.ensures ∙ sym (with_parts-next (seen_settings c.args.settings) _ _ _ _ cut.0 cut.1 cut.2 more)
