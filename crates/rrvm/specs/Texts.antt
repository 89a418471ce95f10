-- The texts of what is due, and of what is found in its place.
use Rattle.std.specs.Prelude.{ℕ, true, false, List, ◌++◌, codes}
use Rattle.std.specs.Fmt.{decimal}
use Rattle.event_log.specs.declared.rule.Rule.{Rule}
use Rattle.event_log.specs.declared.rule.Rule.TheVariants as rule
use Rattle.board.specs.declared.due.Due.{Due}
use Rattle.board.specs.declared.due.Due.TheVariants as due
use Rattle.log_order.specs.declared.refusal.Found.{Found}
use Rattle.log_order.specs.declared.refusal.Found.TheVariants as found
use Rattle.log_order.specs.declared.refusal.Refusal.{Refusal}
use Rattle.event_list.specs.Texts.{checkpoint_text, end_text, event_text}

-- what is due, by the name of its event
abbrev pub due_text : Due → List ℕ
due_text due.Exception = codes "EXCEPTION"
due_text (due.End reason code) = end_text reason code
due_text due.Idle = checkpoint_text true
due_text due.Slice = checkpoint_text false
due_text due.Interrupt = codes "INTERRUPT"
due_text due.Clock = codes "CLOCK"
due_text due.Wait = codes "WAIT"
due_text due.Run = codes "RUN"
due_text due.Nothing = codes "NOTHING"

-- the word of a rule
abbrev pub rule_text : Rule → List ℕ
rule_text rule.BadField = codes "field"
rule_text rule.UnknownId = codes "id"
rule_text rule.UnknownAsync = codes "async"
rule_text rule.BadCount = codes "count"
rule_text rule.BadDevice = codes "device"
rule_text rule.BadLength = codes "length"
rule_text rule.BadStatus = codes "status"
rule_text rule.BadAdapter = codes "adapter"
rule_text rule.BadFlags = codes "flags"
rule_text rule.BadClock = codes "clock"
rule_text rule.BadKind = codes "kind"
rule_text rule.BadReason = codes "reason"
rule_text rule.BadCode = codes "code"

abbrev pub found_text : Found → List ℕ
found_text (found.Event e) = event_text e
found_text (found.Rule broken) = codes "bad " ++ rule_text broken
found_text found.Cut = codes "a cut"
found_text found.MoreBytes = codes "more bytes"

-- the line for a log's first wrong event
abbrev pub refusal_line : Refusal → List ℕ
refusal_line r =
    codes "rrvm: log refused: event " ++ decimal r.index ++ codes " at " ++ decimal r.offset
    ++ codes ": due " ++ due_text r.due ++ codes ", found " ++ found_text r.found ++ codes "\n"
