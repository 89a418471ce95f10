-- Closing a window (this machine's own): an idle hart goes on, or the time to its deadline passes.
use Rattle.std.specs.Prelude.{ℕ, ◌≡◌, Bool, true, false, Option, Some, None, if◌then◌else◌}
use Rattle.rv_csr.specs.Control.{has_bit}
use Rattle.rv_csr.specs.Traps.{is_wanted}
use Rattle.rv_exec.specs.declared.hart.Hart.{Hart}
use Rattle.clint_rtc.specs.Clint as clint
use Rattle.system_bus.specs.Time.{Time, nanoseconds, skipped}
use Rattle.system_bus.specs.Access.{inputs}
use Rattle.board.specs.State.{State}
use Rattle.system_bus.specs.declared.devices.Devices.{Devices}
use Rattle.board.specs.declared.control.Control.{Control}
use Rattle.board.specs.declared.control.Window.{Window}
use Rattle.board.specs.declared.control.Window.TheVariants.{Shut, Slice, Idle}

-- some interrupt is pending and enabled [Privileged ISA, WFI: whatever MIE says]
abbrev pub wakes : Hart → Devices → Bool
wakes h d = is_wanted h.csrs (inputs d)

-- the nanosecond at which the timer wakes the hart: MTIE is set, and mtimecmp ahead and near
abbrev pub deadline : Hart → Devices → Option ℕ
deadline h d = if has_bit h.csrs.mie 7 then clint.deadline d.clint (nanoseconds d.time) else None

-- the window is shut
abbrev pub shut : State → State
shut g = record g { control = record g.control { window = Shut } }

-- the window is shut, and the hart goes on
abbrev pub awake : State → State
awake g = record g { control = record g.control { window = Shut; idle = false } }

abbrev pub warped : State → ℕ → State
warped g at = record g { devices = record g.devices { time = skipped g.devices.time at } }

-- without a wake: at the deadline the hart goes on; after an event the window is shut; else it
-- stands
abbrev pub rests : Bool → State → Option ℕ → State
rests used g (Some at) = awake (warped g at)
rests true g None = shut g
rests false g None = g

abbrev pub close_window : Window → State → State
close_window Shut g = g
close_window (Slice used) g = shut g
close_window (Idle used) g =
    if wakes g.hart g.devices then awake g else rests used g (deadline g.hart g.devices)

-- the state with its window closed, by the first case that applies
unfoldable pub close : State → State
close g = close_window g.control.window g

-- what closing leaves as it is
pub record Keeps (c : Control) (t : Time) (c' : Control) (t' : Time) : Type 0 where
  pub count : t'.count ≡ t.count
  pub since : c'.since ≡ c.since
  pub slice : c'.slice ≡ c.slice
  pub budget : c'.budget ≡ c.budget
  pub ended : c'.ended ≡ c.ended
