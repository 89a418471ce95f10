-- A run in single turns.
use Rattle.std.specs.Prelude.{◌≡◌, ◌<◌, ℕ, zero, suc, List, [], ◌∷◌, ◌++◌, Option, Some, None}
use Rattle.std.specs.List.{AllByRecursion}
use Rattle.event_log.specs.declared.event.Event.{Event}
use Rattle.event_log.specs.declared.event.Event.TheVariants as event
use Rattle.board.specs.State.{State}
use Rattle.board.specs.Turn.{turn}
use Rattle.board.specs.Runs.{step}

-- the states before each of so many turns
abbrev pub before_turns : ℕ → State → List State
before_turns zero g = []
before_turns (suc k) g = g ∷ before_turns k (turn g)

-- the state before an event, and of an INSTRUCTION those before each of its turns
abbrev pub before_event : State → Event → List State
before_event g (event.Instruction n) = before_turns n g
before_event g e = g ∷ []

-- the states that follow an event that is accepted
abbrev pub then_states : Option State → (State → List State) → List State
then_states None next = []
then_states (Some h) next = next h

-- all states of a run, from its first to its last
abbrev pub states_of : State → List Event → List State
states_of g [] = g ∷ []
states_of g (e ∷ es) = before_event g e ++ then_states (step g e) (λ h. states_of h es)

-- of these states the last with that count of turns: those behind it have a greater one
pub record IsLastAt (states : List State) (n : ℕ) (g : State) : Type 0 where
  pub front : List State
  pub behind : List State
  pub place : states ≡ front ++ g ∷ behind
  pub count : g.devices.time.count ≡ n
  pub above : AllByRecursion (λ h. n < h.devices.time.count) behind
