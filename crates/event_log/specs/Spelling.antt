-- The format of an event, and the spelling of each.
use Rattle.std.specs.Prelude.{◌≡◌, ℕ, ◌<◌, ◌≤◌, ◌^◌, true, ◌&&◌, List, [], ◌∷◌, ◌++◌, length, nat_le, ◌==◌, if◌then◌else◌}
use Rattle.std.specs.List.{flat_map}
use Rattle.std.specs.Int.{w32, w64, to_be_bytes}
use Rattle.event_log.specs.declared.rule.Rule.{Rule}
use Rattle.event_log.specs.declared.rule.Rule.TheVariants.{UnknownId, UnknownAsync, BadCount, BadDevice, BadLength, BadStatus, BadAdapter, BadFlags, BadClock, BadKind, BadReason, BadCode}
use Rattle.event_log.specs.declared.event.Event.{Event}
use Rattle.event_log.specs.declared.event.Event.TheVariants.{Instruction, Interrupt, Exception, CharRead, Block, Net, Clock, Checkpoint, End}
use Rattle.event_log.specs.Grammar.{Format, done}
use Rattle.event_log.specs.Fields.{u8, u32, u64, plain}

-- so many turns
unfoldable pub instruction : Format Rule Event
instruction = u32 (λ n. nat_le 1 n) BadCount (λ n. done (Instruction n))

-- bytes of the console
unfoldable pub char_read : Format Rule Event
char_read =
    u8 (λ n. n == 0) BadDevice (λ device.
    u32 (λ n. nat_le 1 n && nat_le n 256) BadLength (λ count.
    plain count BadLength (λ bytes. done (CharRead bytes))))

-- the end of a request to the disk
unfoldable pub block : Format Rule Event
block =
    u64 (λ n. true) UnknownId (λ id.
    u8 (λ n. nat_le n 1) BadStatus (λ status. done (Block id (status == 0))))

-- a packet
unfoldable pub net : Format Rule Event
net =
    u8 (λ n. n == 0) BadAdapter (λ adapter.
    u32 (λ n. n == 0) BadFlags (λ flags.
    u32 (λ n. nat_le 14 n && nat_le n 1514) BadLength (λ count.
    plain count BadLength (λ bytes. done (Net bytes)))))

-- what came from outside
unfoldable pub from_outside : Format Rule Event
from_outside =
    u8 (λ n. nat_le n 2) UnknownAsync (λ kind.
    if kind == 0 then char_read else if kind == 1 then block else net)

-- what the host's clock gave
unfoldable pub clock : Format Rule Event
clock =
    u8 (λ n. n == 0) BadClock (λ id.
    u64 (λ n. true) UnknownId (λ value. done (Clock value)))

-- a slice is over, or the hart is idle
unfoldable pub checkpoint : Format Rule Event
checkpoint = u8 (λ n. nat_le n 1) BadKind (λ kind. done (Checkpoint (kind == 1)))

-- the end, where only reason 0 has a code
unfoldable pub end : Format Rule Event
end =
    u8 (λ n. nat_le n 3) BadReason (λ reason.
    u32 (λ code. if reason == 0 then true else code == 0) BadCode (λ code.
    done (End reason code)))

-- what follows the first byte
unfoldable pub by_id : ℕ → Format Rule Event
by_id id =
    if id == 0 then instruction
    else if id == 1 then done Interrupt
    else if id == 2 then done Exception
    else if id == 3 then from_outside
    else if id == 4 then clock
    else if id == 5 then checkpoint
    else end

-- an event
unfoldable pub event : Format Rule Event
event = u8 (λ n. nat_le n 6) UnknownId by_id

-- how many bytes there are, and the bytes
abbrev pub counted : List ℕ → List ℕ
counted bytes = to_be_bytes w32 (length bytes) ++ bytes

-- the spelling of an event
abbrev pub text : Event → List ℕ
text (Instruction n) = 0 ∷ to_be_bytes w32 n
text Interrupt = 1 ∷ []
text Exception = 2 ∷ []
text (CharRead bytes) = 3 ∷ 0 ∷ 0 ∷ counted bytes
text (Block id ok) = 3 ∷ 1 ∷ to_be_bytes w64 id ++ (if ok then 0 else 1) ∷ []
text (Net bytes) = 3 ∷ 2 ∷ 0 ∷ to_be_bytes w32 0 ++ counted bytes
text (Clock value) = 4 ∷ 0 ∷ to_be_bytes w64 value
text (Checkpoint idle) = 5 ∷ (if idle then 1 else 0) ∷ []
text (End reason code) = 6 ∷ reason ∷ to_be_bytes w32 code

-- the spelling of events, one after the other
abbrev pub texts : List Event → List ℕ
texts es = flat_map text es

-- what has a spelling
abbrev pub IsEvent : Event → Type 0
IsEvent (Instruction n) = (1 ≤ n) × (n < 2 ^ 32)
IsEvent Interrupt = Unit {0}
IsEvent Exception = Unit {0}
IsEvent (CharRead bytes) = (1 ≤ length bytes) × (length bytes ≤ 256)
IsEvent (Block id ok) = id < 2 ^ 64
IsEvent (Net bytes) = (14 ≤ length bytes) × (length bytes ≤ 1514)
IsEvent (Clock value) = value < 2 ^ 64
IsEvent (Checkpoint idle) = Unit {0}
IsEvent (End reason code) = (reason ≤ 3) × (code < 2 ^ 32) × ((1 ≤ reason) → code ≡ 0)
