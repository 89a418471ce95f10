-- Turns in a row that are counted together: none of them reads or writes a count.
use Rattle.std.specs.Prelude.{◌<◌, ℕ, zero, suc, ◌≡◌, ◌≤◌, ◌+◌, Bool, true, false, List, None, is_some}
use Rattle.rv_csr.specs.Table.{ticked_times}
use Rattle.rv_csr.specs.Traps as interrupts
use Rattle.rv_exec.specs.declared.hart.Hart.{Hart}
use Rattle.plain_turns.specs.Turns.{PlainTurns}
use Rattle.system_bus.specs.Access.{inputs}
use Rattle.system_bus.specs.Lines.{levels}
use Rattle.system_bus.specs.Time.{later_by}
use Rattle.board.specs.State.{State}
use Rattle.board.specs.Due.{due_by, has_in_flight, interrupt_of}
use Rattle.board.specs.Runs.{is_run, after, ran}
use Rattle.system_bus.specs.declared.devices.Devices.{Devices}
use Rattle.board.specs.declared.control.Window.TheVariants.{Shut}

-- the levels are set after each turn
abbrev pub levels_after : ℕ → Devices → Devices
levels_after zero d = d
levels_after (suc n) d = levels d

-- after so many turns that change nothing but RAM, no interrupt is due
abbrev pub IsQuiet : State → ℕ → Type 0
IsQuiet g n =
    (ram : List ℕ)
    → interrupts.due g.hart.csrs g.hart.mode
    (inputs (levels_after n (record g.devices { ram = ram; time = later_by n g.devices.time })))
    ≡ None

-- no mark is set, no window is open, and so many turns lie before the next count or interrupt
pub record HasRoom (g : State) (room : ℕ) : Type 0 where
  pub ended : g.control.ended ≡ None
  pub trapped : g.control.trapped ≡ false
  pub idle : g.control.idle ≡ false
  pub window : g.control.window ≡ Shut
  pub code : g.devices.finisher ≡ None
  pub quiet : (n : ℕ) → n < room → IsQuiet g n
  pub count : g.devices.time.count + room ≤ g.control.budget
  pub since : g.control.since + room ≤ g.control.slice

-- the state from which n plain turns were made, with all of them counted, and with what they left of
-- the hart and RAM
abbrev pub counted_up : ℕ → State → Hart → List ℕ → State
counted_up n g h ram = record {
  hart = record h { csrs = ticked_times n g.hart.csrs };
  devices = levels_after n (record g.devices { ram = ram; time = later_by n g.devices.time });
  control = record g.control { since = g.control.since + n };
}

-- the same with none of them counted
abbrev pub uncounted : State → Hart → List ℕ → State
uncounted g h ram = record {
  hart = record h { csrs = g.hart.csrs };
  devices = record g.devices { ram = ram };
  control = g.control;
}

-- so many plain turns were made, at most as many as there is room for, and none was counted
pub record MakesUncounted (g : State) (room made : ℕ) (g' : State) : Type 0 where
  pub within : made ≤ room
  pub turns : PlainTurns g.hart g.devices.ram made g'.hart g'.devices.ram
  pub rest : g' ≡ uncounted g g'.hart g'.devices.ram

-- in a state whose window is closed a turn is due, unless it needs the host's clock
abbrev pub is_clear : State → Bool
is_clear g =
    is_run
    (due_by g.control g.devices.time.count g.devices.finisher (has_in_flight g.devices)
    (is_some (interrupt_of g)) false)

-- the same, and no window is open
pub record IsFree (g : State) : Type 0 where
  pub window : g.control.window ≡ Shut
  pub clear : is_clear g ≡ true

-- all of these turns were made
abbrev pub SprintsTo : State → ℕ → ℕ → State → ℕ → ℕ → Type 0
SprintsTo g limit made g' steps steps' =
    (made ≤ limit) × (g' ≡ after made g) × (ran made g ≡ made) × (steps' ≡ steps + made)
