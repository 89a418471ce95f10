-- What gives a recording its inputs, and what one window receives of it.
use Rattle.std.specs.Prelude.{◌≡◌, ℕ, true, List, [], ◌∷◌, Some, None, is_some, Result, Ok, Err}
use Rattle.std.specs.declared.option.Option.{Option}
use Rattle.std.specs.Io.KnownBytes.{IsAtEnd}
use Rattle.outside.specs.Causes.{Rose}
use Rattle.event_log.specs.declared.event.Event.{Event}
use Rattle.event_log.specs.declared.event.Event.TheVariants as event
use Rattle.plain_hub.specs.declared.item.Item.{Item}
use Rattle.plain_hub.specs.declared.item.Item.TheVariants as item
use Rattle.plain_hub.specs.Proper.{IsPiece, IsPacket}
use Rattle.io_workers.specs.declared.read_error.ReadError.{ReadError}
use Rattle.io_workers.specs.declared.read_error.ReadError.TheVariants as error
use Rattle.io_workers.specs.Intake.{Intake, Progress, intake, Nexts}
use Rattle.rr_engine.specs.declared.inputs.Trouble.{Trouble}
use Rattle.rr_engine.specs.declared.inputs.Trouble.TheVariants as trouble_is
use Rattle.rr_engine.specs.Input.{unread}

-- the console's source and how far it was read
pub data Feed : Type 0 where
  Source : Intake → Feed

-- the feed of a source that was read so far, which has this left and failed so often
abbrev pub source_feed : Progress → Option (List ℕ) → ℕ → Feed
source_feed progress left faults = Source (intake left faults progress)

-- ---- items

-- the event of an item
abbrev pub event_of_item : Item → Event
event_of_item (item.Console bytes) = event.CharRead bytes
event_of_item (item.Packet bytes) = event.Net bytes
event_of_item (item.Done id read) = event.Block id (is_some read)

-- an item that each open window takes
abbrev pub IsInput : Item → Type 0
IsInput (item.Console bytes) = IsPiece bytes
IsInput (item.Packet bytes) = IsPacket bytes
IsInput (item.Done id read) = ⊥

-- ---- what a window receives

-- the event of the piece that a read gave
abbrev pub piece_of : Result (Option (List ℕ)) ReadError → List Event
piece_of (Ok (Some piece)) = event.CharRead piece ∷ []
piece_of (Ok None) = []
piece_of (Err why) = []

-- why a read gave none
abbrev pub trouble_of : Result (Option (List ℕ)) ReadError → Option Trouble
trouble_of (Ok read) = None
trouble_of (Err error.Failed) = Some trouble_is.ConsoleRead
trouble_of (Err error.NoMemory) = Some trouble_is.NoMemory

-- A feed gave these events, and then trouble, if there was any: of a source, what one read gave.
abbrev pub Receives : Feed → Feed → List Event → Option Trouble → Type 0
Receives (Source i) (Source j) events trouble =
    (read : Result (Option (List ℕ)) ReadError) × Nexts i j read
    × (events ≡ piece_of read) × (trouble ≡ trouble_of read)

-- nothing more will come
abbrev pub IsOver : Feed → Type 0
IsOver (Source i) = i.progress.ended ≡ true

-- where the end of a source was answered, nothing is left of it
abbrev pub IsSound : Feed → Type 0
IsSound (Source i) = i.progress.ended ≡ true → IsAtEnd (unread i)

-- no source failed
abbrev pub Unfailed : Feed → Feed → Type 0
Unfailed (Source i) (Source j) = j.faults ≡ i.faults

-- a source failed
abbrev pub Failed : Feed → Feed → Type 0
Failed (Source i) (Source j) = Rose i.faults j.faults
