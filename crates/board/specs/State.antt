-- The state of the machine, one record.
use Rattle.rv_exec.specs.declared.hart.Hart.{Hart}
use Rattle.system_bus.specs.declared.devices.Devices.{Devices}
use Rattle.board.specs.declared.control.Control.{Control}

-- what instructions change, what the bus reaches, and what the machine counts and waits for
pub record State : Type 0 where
  pub hart : Hart
  pub devices : Devices
  pub control : Control
