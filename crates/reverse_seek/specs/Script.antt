-- The accepted part of a log, and the state that it starts from.
use Rattle.std.specs.Prelude.{◌≡◌, ◌≤◌, ℕ, zero, suc, ◌+◌, ◌-◌, ◌^◌, List, [], ◌∷◌, ◌++◌, length, take, drop, Some, None, Result, Ok, Err, option_map}
use Rattle.std.specs.declared.option.Option.{Option}
use Rattle.std.specs.List.{AllByRecursion}
use Rattle.event_log.specs.declared.event.Event.{Event}
use Rattle.event_log.specs.declared.rule.Rule.{Rule}
use Rattle.event_log.specs.Grammar.{Fault, read}
use Rattle.event_log.specs.Spelling.{event, texts, IsEvent}
use Rattle.board.specs.State.{State}
use Rattle.board.specs.Runs.{run}
use Rattle.log_order.specs.Order.{Accepted, IsFirstWrong, IsWhole}
use Rattle.log_order.specs.declared.refusal.Refusal.{Refusal}
use Rattle.reverse_seek.specs.declared.script.Part.{Part}

-- the accepted part of a log
pub record Script : Type 0 where
  -- the state before the first event
  pub start : State
  -- the events of the accepted part
  pub events : List Event
  -- the whole log, and where the accepted part ends in it
  pub log : List ℕ
  pub end : ℕ
  -- the last count of the accepted part
  pub last : ℕ

-- the place of the first event, after the header
abbrev pub first_place : ℕ
first_place = 98

-- the event that was read, and those after it
abbrev pub then_spelled :
    Result (Event × List ℕ) (Fault Rule) → (List ℕ → List Event) → List Event
then_spelled (Ok found) next = found.0 ∷ next found.1
then_spelled (Err fault) next = []

-- the events that bytes spell one after another, at most k
unfoldable pub spelled : ℕ → List ℕ → List Event
spelled zero bytes = []
spelled (suc k) bytes = then_spelled (read event bytes) (λ rest. spelled k rest)

-- the events between the header and a place
unfoldable pub events_to : ℕ → List ℕ → List Event
events_to end log =
    spelled (end - first_place) (take (end - first_place) (drop first_place log))

-- what holds of each script: the log has its events' texts from the header on, in its ranges, and
-- they lead from a start without turns to the last count
pub record IsScript (s : Script) : Type 0 where
  pub within : s.end ≤ length s.log
  pub header : first_place ≤ s.end
  pub parts : drop first_place s.log ≡ texts s.events ++ drop s.end s.log
  pub place : first_place + length (texts s.events) ≡ s.end
  pub each : AllByRecursion IsEvent s.events
  pub begins : s.start.devices.time.count ≡ 0
  pub bounded : s.last ≤ 2 ^ 40
  pub last : option_map (λ g. g.devices.time.count) (run s.start s.events) ≡ Some s.last

-- the events are the accepted part of the bytes: the bytes are accepted whole, or the refusal is of
-- their first wrong place
abbrev pub IsVerdict : List ℕ → State → List Event → Option Refusal → Type 0
IsVerdict bytes g es None = (last : State) × (w : IsWhole bytes g last) × (w.events ≡ es)
IsVerdict bytes g es (Some r) =
    (mid : State) × (last : State) × (w : IsFirstWrong bytes first_place g r mid last)
    × (w.events ≡ es)

-- the accepted part of a log from a state on
pub record IsPart (log : List ℕ) (g : State) (part : Part) : Type 0 where
  pub events : List Event
  pub mid : State
  pub accepted : Accepted (drop first_place log) g events (drop part.end log) mid
  pub place : part.end ≡ first_place + length (texts events)
  pub within : part.end ≤ length log
  pub last : mid.devices.time.count ≡ part.last
  pub bounded : part.last ≤ 2 ^ 40
  pub verdict : IsVerdict (drop first_place log) g events part.refusal

-- a script has the accepted part of the log from that state on, and the refusal is of what comes
-- after it
pub record Reads (g : State) (log : List ℕ) (s : Script) (refusal : Option Refusal) : Type 0 where
  pub start : s.start ≡ g
  pub whole : s.log ≡ log
  pub script : IsScript s
  pub verdict : IsVerdict (drop first_place log) g s.events refusal
