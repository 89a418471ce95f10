-- What laws of whole runs say.
use Rattle.std.specs.Prelude.{ℕ, ◌≡◌, ◌≤◌, ◌+◌, Bool, true, false, Some}
use Rattle.system_bus.specs.Lines.{levels}
use Rattle.system_bus.specs.Time.{nanoseconds}
use Rattle.board.specs.State.{State}
use Rattle.board.specs.Close.{wakes, deadline}
use Rattle.board.specs.declared.control.Window.TheVariants.{Idle}

-- the nanoseconds that the clock shows
abbrev pub clock_of : State → ℕ
clock_of g = nanoseconds g.devices.time

-- the clock of the second state shows no less than that of the first
abbrev pub NoLater : State → State → Type 0
NoLater g h = clock_of g ≤ clock_of h

-- so many turns lie between the states
abbrev pub IsLaterBy : ℕ → State → State → Type 0
IsLaterBy n g h = h.devices.time.count ≡ g.devices.time.count + n

-- an idle window stands, no interrupt wakes the hart, and the timer will at this nanosecond
pub record IdlesUntil (g : State) (at : ℕ) : Type 0 where
  pub used : Bool
  pub window : g.control.window ≡ Idle used
  pub sleeps : wakes g.hart g.devices ≡ false
  pub deadline : deadline g.hart g.devices ≡ Some at

-- the hart goes on at this nanosecond, woken by the timer
pub record ResumesAt (g : State) (at : ℕ) : Type 0 where
  pub clock : clock_of g ≡ at
  pub goes_on : g.control.idle ≡ false
  pub woken : wakes g.hart g.devices ≡ true

-- the level of each device's source at the PLIC is its line: setting the levels again changes nothing
abbrev pub ShowsLines : State → Type 0
ShowsLines g = levels g.devices ≡ g.devices
