-- What was taken of the machine before.
use Rattle.std.specs.Prelude.{List, ℕ, ◌++◌, [], Option, Some, None}
use Rattle.uart16550.specs.Line.{Line}
use Rattle.board.specs.State.{State}
use Rattle.system_bus.specs.declared.devices.Devices.{Devices}

-- what the machine gave away: console bytes
pub record Taken : Type 0 where
  pub out : List ℕ

-- console bytes alone
abbrev pub out_alone : List ℕ → Taken
out_alone bytes = record { out = bytes }

-- one after the other
abbrev pub joined : Taken → Taken → Taken
joined a b = record { out = a.out ++ b.out }

abbrev pub line_with : Taken → Line → Line
line_with t l = record l { out = t.out ++ l.out }

abbrev pub devices_with : Taken → Devices → Devices
devices_with t d = record d { uart = line_with t d.uart }

-- the state in which this stands before what wasn't taken
abbrev pub with_taken : Taken → State → State
with_taken t g = record g { devices = devices_with t g.devices }

abbrev pub map_taken : Taken → Option State → Option State
map_taken t None = None
map_taken t (Some g) = Some (with_taken t g)

-- the console bytes were taken
abbrev pub without_out : State → State
without_out g =
    record g { devices = record g.devices { uart = record g.devices.uart { out = [] } } }
