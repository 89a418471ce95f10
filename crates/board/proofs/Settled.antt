-- After a turn the levels are the devices' lines.
use Rattle.std.proofs.Common.{◌≡◌, true, false, ap}
use Rattle.std.specs.Prelude.{is_some}
use Rattle.rv_exec.specs.declared.done.Done.{Done}
use Rattle.rv_exec.specs.declared.done.Done.TheVariants.{Retired, Trap, NeedClock, NoMemory}
use Rattle.rv_exec.specs.declared.hart.Hart.{Hart}
use Rattle.rv_exec.specs.Rows.{is_need_clock}
use Rattle.uart16550.specs.Line.{level}
use Rattle.system_bus.specs.declared.devices.Devices.{Devices}
use Rattle.system_bus.specs.Lines.{levels, uart_source}
use Rattle.system_bus.specs.Time.{later}
use Rattle.board.specs.State.{State}
use Rattle.board.specs.Close.{close}
use Rattle.board.specs.Turn.{attempt, settle, turn_closed, turn}
use Rattle.board.specs.Due.{has_in_flight, interrupt_of, needs_clock, due_closed, due}
use Rattle.board.specs.Runs.{is_run}
use Rattle.board.proofs.Counting.{attempt-fed, may_run}
use Rattle.system_bus.proofs.Levels.{level_twice}
use Rattle.board.proofs.Unrefused.{is_refusal}

pub levels_again : (d : Devices) → levels (levels d) ≡ levels d
unfolding levels
levels_again d = ap (λ z. record d { plic = z }) (level_twice d.plic uart_source (level d.uart))

settle-settled : (g : State) (done : Done) (h : Hart) (d : Devices) → is_need_clock done ≡ false → is_refusal done ≡ false
    → levels (settle g done h d).devices ≡ (settle g done h d).devices
settle-settled g (Retired idle) h d c m = levels_again (record d { time = later d.time })
settle-settled g (Trap cause value) h d c m = levels_again (record d { time = later d.time })
settle-settled g NeedClock h d c m = absurd cc
settle-settled g NoMemory h d c m = absurd cc

closed-settled : (g : State) → is_run (due_closed g) ≡ true → levels (turn_closed g).devices ≡ (turn_closed g).devices
unfolding due_closed needs_clock turn_closed
closed-settled g e =
    let o = attempt g.hart g.devices in
    let may = may_run g.control g.devices.time.count g.devices.finisher (has_in_flight g.devices) (is_some (interrupt_of g)) (is_need_clock o.done) e in
    settle-settled g o.done o.hart o.bus may.clock (attempt-fed g.hart g.devices)

pub turn-settled : (g : State) → is_run (due g) ≡ true → levels (turn g).devices ≡ (turn g).devices
unfolding due turn
turn-settled g e = closed-settled (close g) e
