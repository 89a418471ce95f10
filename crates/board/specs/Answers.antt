-- What the calls answer.
use Rattle.std.specs.Prelude.{◌≡◌, ◌≤◌, ◌<◌, IsSome, ℕ, List, ◌+◌, ◌^◌, true, false, Bool, Option, Result, Ok, Err}
use Rattle.board.specs.declared.control.Control.{Control}
use Rattle.board.specs.declared.running.Turned.{Turned}
use Rattle.board.specs.declared.running.Turned.TheVariants as turned
use Rattle.board.specs.declared.due.Due.{Due}
use Rattle.board.specs.declared.due.Due.TheVariants as due_is
use Rattle.std.specs.declared.alloc.AllocError.{AllocError}
use Rattle.rv_exec.specs.declared.done.Done.TheVariants.{Retired}
use Rattle.rv_exec.specs.declared.hart.Hart.{Hart}
use Rattle.rv_exec.specs.Rows.{Outcome}
use Rattle.system_bus.specs.Memory.{ram_load}
use Rattle.system_bus.specs.Time.{Time}
use Rattle.board.specs.State.{State}
use Rattle.board.specs.Turn.{turn, turn_closed, wants_memory, turn_wants_memory}
use Rattle.board.specs.Due.{due, due_closed}
use Rattle.board.specs.Runs.{is_run, after, ran}
use Rattle.board.specs.declared.turning.Stepped.{Stepped}
use Rattle.board.specs.declared.turning.Stepped.TheVariants as stepped

-- a turn was made and counted, or memory was refused and all is as before
abbrev pub Turns : State → Turned → State → ℕ → ℕ → Type 0
Turns g turned.Done after steps steps' = (after ≡ turn g) × (steps' ≡ steps + 1)
Turns g turned.NoMemory after steps steps' =
    (after ≡ g) × (steps' ≡ steps) × (turn_wants_memory g ≡ true)

-- the byte of RAM at an address
abbrev pub peeked : List ℕ → ℕ → Option ℕ
peeked ram at = ram_load ram at 1

-- a step of a state whose window is closed
abbrev pub StepsTo : State → Stepped → State → Type 0
StepsTo g stepped.Turned after = (due_closed g ≡ due_is.Run) × (after ≡ turn_closed g)
StepsTo g stepped.Stopped after = (is_run (due_closed g) ≡ false) × (after ≡ g)
StepsTo g stepped.NoMemory after = (after ≡ g) × (wants_memory g.hart g.devices ≡ true)

-- the same of a state whose window may be open
abbrev pub Advances : State → Stepped → State → Type 0
Advances g stepped.Turned after = (due g ≡ due_is.Run) × (after ≡ turn g)
Advances g stepped.Stopped after = (is_run (due g) ≡ false) × (after ≡ g)
Advances g stepped.NoMemory after = (after ≡ g) × (turn_wants_memory g ≡ true)

-- as many turns as run with a turn due before each, at most so many; or fewer, where memory was
-- refused
abbrev pub RunsTo : State → ℕ → Result ℕ AllocError → State → ℕ → ℕ → Type 0
RunsTo g limit (Ok n) g' steps steps' =
    (g' ≡ after limit g) × (n ≡ ran limit g) × (steps' ≡ steps + n)
RunsTo g limit (Err e) g' steps steps' =
    (n : ℕ) × (n < limit) × (g' ≡ after n g) × (n ≡ ran n g) × (steps' ≡ steps + n)
    × (turn_wants_memory g' ≡ true)

-- want of memory changed nothing, where the turn else retires
abbrev pub Refused : {B : Type 0} → Outcome B → Hart → B → Hart → B → Type 0
Refused o h s h' s' = (o.done ≡ Retired false) × (h' ≡ h) × (s' ≡ s)
