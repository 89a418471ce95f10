-- Whole runs: turns while Run is due, and events one after another.
use Rattle.std.specs.Prelude.{ℕ, zero, suc, ◌+◌, ◌==◌, ◌-◌, nat_le, Bool, true, false, not, ◌&&◌, List, [], ◌∷◌, Option, Some, None, if◌then◌else◌}
use Rattle.event_log.specs.declared.event.Event.{Event}
use Rattle.event_log.specs.declared.event.Event.TheVariants as event
use Rattle.board.specs.declared.due.Due.{Due}
use Rattle.board.specs.declared.due.Due.TheVariants as due_is
use Rattle.board.specs.State.{State}
use Rattle.board.specs.Turn.{turn}
use Rattle.board.specs.Due.{due}
use Rattle.board.specs.Accept.{accept}

abbrev pub is_run : Due → Bool
is_run due_is.Run = true
is_run other = false

-- the state after as many turns as run with Run due before each, at most n
unfoldable pub after : ℕ → State → State
after zero g = g
after (suc n) g = if is_run (due g) then after n (turn g) else g

-- how many these are
unfoldable pub ran : ℕ → State → ℕ
ran zero g = zero
ran (suc n) g = if is_run (due g) then suc (ran n (turn g)) else zero

-- one event; INSTRUCTION n where n turns run and another thing is due then
unfoldable pub step : State → Event → Option State
step g (event.Instruction n) =
    if ran n g == n && not (is_run (due (after n g))) then Some (after n g) else None
step g e = accept g e

-- what is due where the event is refused
unfoldable pub due_at : State → Event → Due
due_at g (event.Instruction n) = due (after n g)
due_at g e = due g

abbrev pub then_run : Option State → (State → Option State) → Option State
then_run None next = None
then_run (Some g) next = next g

-- events one after another
unfoldable pub run : State → List Event → Option State
run g [] = Some g
run g (e ∷ es) = then_run (step g e) (λ h. run h es)

-- the turns of an event
abbrev pub turns_of : Event → ℕ
turns_of (event.Instruction n) = n
turns_of e = 0

-- the turns of events
abbrev pub turns : List Event → ℕ
turns [] = 0
turns (e ∷ es) = turns_of e + turns es

-- where an event is refused the state stays
abbrev pub or_here : State → Option State → (State → State) → State
or_here g None next = g
or_here g (Some h) next = next h

-- the state at a count of turns from here: after the longest front of the events whose turns are at
-- most that many, and then the turns that are left of the next event
unfoldable pub state_at : State → List Event → ℕ → State
state_at g [] left = after left g
state_at g (e ∷ es) left =
    if nat_le (turns_of e) left
    then or_here g (step g e) (λ h. state_at h es (left - turns_of e))
    else after left g
