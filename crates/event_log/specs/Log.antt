-- What the calls that read events answer, by what stands at a place.
use Rattle.std.specs.Prelude.{◌≡◌, ℕ, ◌+◌, List, ◌++◌, length, take, drop, Result, Ok, Err, Some, None, nat_lt, ⊤, if◌then◌else◌}
use Rattle.std.specs.Int.{Width, from_be_bytes}
use Rattle.event_log.specs.Grammar.{Fault}
use Rattle.event_log.specs.Grammar.{Cut, Bad}
use Rattle.std.specs.declared.option.Option.{Option}
use Rattle.event_log.specs.declared.rule.Rule.{Rule}
use Rattle.event_log.specs.declared.fields.CutShort.{CutShort}
use Rattle.event_log.specs.declared.stop.Stop.{Stop}
use Rattle.event_log.specs.declared.stop.Stop.TheVariants as stop
use Rattle.event_log.specs.declared.event.Event.{Event}
use Rattle.event_log.specs.declared.event.Event.TheVariants.{Instruction, Interrupt, Exception, CharRead, Block, Net, Clock, Checkpoint, End}
use Rattle.event_log.specs.declared.parse.ParseError.{ParseError}
use Rattle.event_log.specs.declared.parse.ParseError.TheVariants as parse
use Rattle.event_log.specs.Grammar.{Stops}
use Rattle.event_log.specs.Spelling.{event, text, IsEvent}

-- an event that has bytes, for which memory is asked
abbrev pub HasBytes : Event → Type 0
HasBytes (CharRead bytes) = ⊤
HasBytes (Net bytes) = ⊤
HasBytes (Instruction n) = ⊥
HasBytes Interrupt = ⊥
HasBytes Exception = ⊥
HasBytes (Block id ok) = ⊥
HasBytes (Clock value) = ⊥
HasBytes (Checkpoint idle) = ⊥
HasBytes (End reason code) = ⊥

-- reading gave an event that has bytes
abbrev pub FindsBytes : Result (Event × List ℕ) (Fault Rule) → Type 0
FindsBytes (Ok found) = HasBytes found.0
FindsBytes (Err fault) = ⊥

-- an event that has bytes stands whole at the front
abbrev pub AsksMemory : List ℕ → Type 0
AsksMemory bytes =
    (e : Event) × (rest : List ℕ) × IsEvent e × HasBytes e × (bytes ≡ text e ++ rest)

-- what reading gave is what the answer says; memory is refused only where it is asked
abbrev pub Fails : Stop → Result (Event × List ℕ) (Fault Rule) → Type 0
Fails stop.NoMemory found = FindsBytes found
Fails stop.Cut found = found ≡ Err Cut
Fails (stop.Bad rule) found = found ≡ Err (Bad rule)

abbrev pub Gives : {X : Type 0} → (X → Event × List ℕ) → Result X Stop
    → Result (Event × List ℕ) (Fault Rule) → Type 0
Gives view (Ok x) found = found ≡ Ok (view x)
Gives view (Err e) found = Fails e found

-- a field is there, or it isn't wholly there
abbrev pub Finds : {X Y : Type 0} → (X → Y) → Result X CutShort → Option Y → Type 0
Finds view (Ok x) found = found ≡ Some (view x)
Finds view (Err e) found = found ≡ None

-- a number and the bytes after it
abbrev pub number_at : ℕ → Width → List ℕ → Option (ℕ × List ℕ)
number_at size w bytes =
    if nat_lt (length bytes) size then None
    else Some (from_be_bytes w (take size bytes), drop size bytes)

-- so many bytes and those after them
abbrev pub bytes_at : ℕ → List ℕ → Option (List ℕ × List ℕ)
bytes_at size bytes =
    if nat_lt (length bytes) size then None else Some (take size bytes, drop size bytes)

-- An event's text stands at the place, and next is the place after it.
abbrev pub Stands : List ℕ → ℕ → Event → ℕ → Type 0
Stands bytes at e next =
    IsEvent e × (drop at bytes ≡ text e ++ drop next bytes) × (next ≡ at + length (text e))

-- what may be answered at a place
abbrev pub Answers : List ℕ → ℕ → Result (Event × ℕ) ParseError → Type 0
Answers bytes at (Ok found) = Stands bytes at found.0 found.1
Answers bytes at (Err (parse.Bad offset rule)) =
    (offset ≡ at) × Stops event (drop at bytes) (Bad rule)
Answers bytes at (Err (parse.Cut offset)) = (offset ≡ at) × Stops event (drop at bytes) Cut
Answers bytes at (Err parse.NoMemory) = AsksMemory (drop at bytes)

-- this one was answered, unless memory was refused
abbrev pub Unless : Result (Event × ℕ) ParseError → Result (Event × ℕ) ParseError → Type 0
Unless wanted (Ok found) = wanted ≡ Ok found
Unless wanted (Err (parse.Bad offset rule)) = wanted ≡ Err (parse.Bad offset rule)
Unless wanted (Err (parse.Cut offset)) = wanted ≡ Err (parse.Cut offset)
Unless wanted (Err parse.NoMemory) = Unit {0}
