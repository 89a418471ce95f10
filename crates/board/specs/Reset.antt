-- The state from which a run starts.
use Rattle.std.specs.Prelude.{◌≤◌, ◌^◌, false, None, replicate}
use Rattle.rv_csr.specs.declared.mode.Mode.TheVariants.{M}
use Rattle.rv_csr.specs.Control as control
use Rattle.ram_pages.specs.Memory.{zeros}
use Rattle.clint_rtc.specs.Clint as clint
use Rattle.clint_rtc.specs.Rtc.{nothing_latched}
use Rattle.plic_gate.specs.Gateway as plic
use Rattle.uart16550.specs.Line as uart
use Rattle.elf_load.specs.declared.pieces.Loaded.{Loaded}
use Rattle.event_log.specs.declared.header.Header.{Header}
use Rattle.board.specs.Firmware.{filled}
use Rattle.board.specs.State.{State}
use Rattle.board.specs.declared.config.Config.{Config}
use Rattle.board.specs.declared.control.Window.TheVariants as window

-- all is 0, the mode is M, and the firmware lies in RAM, at whose entry the hart begins
unfoldable pub reset : Config → Loaded → State
reset config firmware = record {
  hart = record {
    pc = firmware.entry;
    x = replicate 32 0;
    mode = M;
    csrs = control.reset;
    reservation = None;
  };
  devices = record {
    ram = filled (zeros config.ram_mib) firmware.pieces;
    uart = uart.reset;
    clint = clint.reset;
    plic = plic.reset;
    rtc = nothing_latched;
    finisher = None;
    time = record { count = 0; warp = 0; shift = config.shift };
  };
  control = record {
    since = 0;
    trapped = false;
    idle = false;
    window = window.Shut;
    ended = None;
    slice = config.slice;
    budget = config.budget;
  };
}

-- what a log's header says of the machine
abbrev pub config_of : Header → Config
config_of h = record {
  shift = h.shift;
  ram_mib = h.ram_mib;
  slice = h.slice;
  budget = h.budget;
  disk_len = h.disk_len;
}

-- the state from which the run of a header and a firmware starts
abbrev pub start_of : Header → Loaded → State
start_of h firmware = reset (config_of h) firmware

-- what a run can be configured with
pub record IsConfig (config : Config) : Type 0 where
  pub shift : config.shift ≤ 10
  pub some_ram : 1 ≤ config.ram_mib
  pub ram : config.ram_mib ≤ 64
  pub some_turns : 1 ≤ config.slice
  pub slice : config.slice ≤ 65536
  pub budget : config.budget ≤ 2 ^ 40
