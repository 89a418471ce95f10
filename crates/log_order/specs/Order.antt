-- A log, event by event, up to its first wrong event.
use Rattle.std.specs.Prelude.{◌≡◌, ◌≢◌, ℕ, ◌+◌, List, [], ◌++◌, length, Some, None, IsSome, IsNone}
use Rattle.std.specs.List.{AllByRecursion}
use Rattle.event_log.specs.declared.event.Event.{Event}
use Rattle.event_log.specs.declared.event.Event.TheVariants as event_is
use Rattle.event_log.specs.Grammar.{Stops, Cut, Bad}
use Rattle.event_log.specs.Spelling.{event, text, texts, IsEvent}
use Rattle.board.specs.State.{State}
use Rattle.board.specs.Due.{due}
use Rattle.board.specs.Runs.{after, step, run, due_at}
use Rattle.board.specs.declared.due.Due.{Due}
use Rattle.log_order.specs.declared.refusal.Refusal.{Refusal}
use Rattle.log_order.specs.declared.refusal.Found.{Found}
use Rattle.log_order.specs.declared.refusal.Found.TheVariants as found

-- the bytes begin with the spellings of these events, which the machine accepts from g on
pub record Accepted (bytes : List ℕ) (g : State) (events : List Event) (rest : List ℕ)
    (last : State) : Type 0 where
  pub parts : bytes ≡ texts events ++ rest
  pub are : AllByRecursion IsEvent events
  pub runs : run g events ≡ Some last

-- the machine after a refused event: after as many turns of it as run
abbrev pub stands : State → Event → State
stands g (event_is.Instruction n) = after n g
stands g e = g

-- What is wrong at the front of the rest, where the accepted part led to g, what is due there, and
-- where the machine then stands: more bytes, once the run has ended; no whole event, or a broken
-- rule; an event that isn't accepted.
abbrev pub IsWrong : State → List ℕ → Found → Due → State → Type 0
IsWrong g rest found.MoreBytes d h = IsSome g.control.ended × (rest ≢ []) × (d ≡ due g) × (h ≡ g)
IsWrong g rest found.Cut d h = IsNone g.control.ended × Stops event rest Cut × (d ≡ due g) × (h ≡ g)
IsWrong g rest (found.Rule rule) d h =
    IsNone g.control.ended × Stops event rest (Bad rule) × (d ≡ due g) × (h ≡ g)
IsWrong g rest (found.Event e) d h =
    IsNone g.control.ended × IsEvent e × ((more : List ℕ) × (rest ≡ text e ++ more))
    × (step g e ≡ None) × (d ≡ due_at g e) × (h ≡ stands g e)

-- The bytes, whose first has this offset, aren't accepted from g on, and this is the first wrong
-- place: the accepted part leads to mid, and the machine then stands at last.
pub record IsFirstWrong (bytes : List ℕ) (at : ℕ) (g : State) (r : Refusal) (mid last : State)
    : Type 0 where
  pub events : List Event
  pub rest : List ℕ
  pub accepted : Accepted bytes g events rest mid
  pub index : r.index ≡ length events
  pub offset : r.offset ≡ at + length (texts events)
  pub wrong : IsWrong mid rest r.found r.due last

-- the bytes are the spellings of events that the machine accepts from g on, and after which the run
-- has ended
pub record IsWhole (bytes : List ℕ) (g last : State) : Type 0 where
  pub events : List Event
  pub accepted : Accepted bytes g events [] last
  pub ended : IsSome last.control.ended
