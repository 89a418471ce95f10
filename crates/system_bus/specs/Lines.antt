-- The interrupt lines of the devices, as the PLIC sees them.
use Rattle.std.specs.Prelude.{ℕ}
use Rattle.plic_gate.specs.Gateway.{with_level}
use Rattle.uart16550.specs.Line.{level}
use Rattle.system_bus.specs.declared.devices.Devices.{Devices}

-- the UART's source at the PLIC
abbrev pub uart_source : ℕ
uart_source = 10

-- the level of a device's source is its interrupt line
unfoldable pub levels : Devices → Devices
levels d = record d { plic = with_level d.plic uart_source (level d.uart) }
