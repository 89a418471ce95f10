-- What is due next (this machine's own): an event of the log, or a turn.
use Rattle.std.specs.Prelude.{ℕ, ◌==◌, Bool, true, false, Option, Some, None, is_some, if◌then◌else◌}
use Rattle.rv_csr.specs.Traps as interrupts
use Rattle.rv_exec.specs.Rows.{is_need_clock}
use Rattle.system_bus.specs.Access.{inputs}
use Rattle.board.specs.State.{State}
use Rattle.board.specs.Close.{close}
use Rattle.board.specs.Turn.{attempt}
use Rattle.system_bus.specs.declared.devices.Devices.{Devices}
use Rattle.board.specs.declared.control.Control.{Control}
use Rattle.board.specs.declared.control.Window.{Window}
use Rattle.board.specs.declared.control.Window.TheVariants.{Idle}
use Rattle.board.specs.declared.due.Due.{Due}
use Rattle.board.specs.declared.due.Due.TheVariants as due_is

-- an idle window stands
abbrev pub is_idle_window : Window → Bool
is_idle_window (Idle used) = true
is_idle_window window = false

-- a block request is in flight: there is no block device yet
abbrev pub has_in_flight : Devices → Bool
has_in_flight d = false

-- the interrupt that is taken before the next instruction [Privileged ISA, mip and mie]
abbrev pub interrupt_of : State → Option ℕ
interrupt_of g = interrupts.due g.hart.csrs g.hart.mode (inputs g.devices)

-- the guest ended with a code, or another thing is due
abbrev pub ended_by : Option ℕ → Due → Due
ended_by None other = other
ended_by (Some code) other = due_is.End 0 code

-- the first row that holds, where the window is closed
abbrev pub due_by : Control → ℕ → Option ℕ → Bool → Bool → Bool → Due
due_by c count code in_flight interrupt clock =
    if is_some c.ended then due_is.Nothing
    else if c.trapped then due_is.Exception
    else ended_by code (
    if count == c.budget then due_is.End 2 0
    else if is_idle_window c.window then (if in_flight then due_is.Wait else due_is.End 1 0)
    else if c.idle then due_is.Idle
    else if c.since == c.slice then due_is.Slice
    else if interrupt then due_is.Interrupt
    else if clock then due_is.Clock
    else due_is.Run)

-- the next turn reads the host's clock and has no value in hand
unfoldable pub needs_clock : State → Bool
needs_clock g = is_need_clock (attempt g.hart g.devices).done

-- what is due in a state whose window is closed
unfoldable pub due_closed : State → Due
due_closed g =
    due_by g.control g.devices.time.count g.devices.finisher (has_in_flight g.devices)
    (is_some (interrupt_of g)) (needs_clock g)

-- what is due
unfoldable pub due : State → Due
due g = due_closed (close g)
