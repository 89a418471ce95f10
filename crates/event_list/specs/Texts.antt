-- The texts of events, each in a line with its number and its place in the log.
use Rattle.std.specs.Prelude.{ℕ, ◌+◌, Bool, List, [], ◌∷◌, ◌++◌, length, codes, if◌then◌else◌}
use Rattle.std.specs.Fmt.{decimal}
use Rattle.event_log.specs.declared.event.Event.{Event}
use Rattle.event_log.specs.declared.event.Event.TheVariants as event
use Rattle.event_log.specs.Spelling.{text}

abbrev pub checkpoint_text : Bool → List ℕ
checkpoint_text idle = if idle then codes "CHECKPOINT idle" else codes "CHECKPOINT slice"

abbrev pub block_text : ℕ → Bool → List ℕ
block_text id ok = codes "BLOCK " ++ decimal id ++ (if ok then codes " ok" else codes " error")

abbrev pub end_text : ℕ → ℕ → List ℕ
end_text reason code = codes "END " ++ decimal reason ++ codes " " ++ decimal code

-- an event's name and its numbers; of bytes, how many
abbrev pub event_text : Event → List ℕ
event_text (event.Instruction count) = codes "INSTRUCTION " ++ decimal count
event_text event.Interrupt = codes "INTERRUPT"
event_text event.Exception = codes "EXCEPTION"
event_text (event.CharRead bytes) = codes "CHAR_READ " ++ decimal (length bytes)
event_text (event.Block id ok) = block_text id ok
event_text (event.Net packet) = codes "NET " ++ decimal (length packet)
event_text (event.Clock value) = codes "CLOCK " ++ decimal value
event_text (event.Checkpoint idle) = checkpoint_text idle
event_text (event.End reason code) = end_text reason code

abbrev pub event_line : ℕ → ℕ → Event → List ℕ
event_line index offset e =
    decimal index ++ codes " " ++ decimal offset ++ codes " " ++ event_text e ++ codes "\n"

-- the lines of events, of which the first has this number and stands at this place
unfoldable pub lines_from : ℕ → ℕ → List Event → List ℕ
lines_from index offset [] = []
lines_from index offset (e ∷ es) =
    event_line index offset e ++ lines_from (index + 1) (offset + length (text e)) es

-- the lines of a log's events
abbrev pub event_lines : List Event → List ℕ
event_lines es = lines_from 0 98 es
