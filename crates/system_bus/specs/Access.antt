-- What the devices answer to the hart, and what an access leaves of them.
use Rattle.std.specs.Prelude.{ℕ, ◌≡◌, Bool, true, false, ◌||◌, ◌==◌, Option, Some, None, is_some, Result, Ok, Err, if◌then◌else◌}
use Rattle.rv_csr.specs.declared.inputs.Inputs.{Inputs}
use Rattle.rv_exec.specs.Answers.{Answers}
use Rattle.rv_exec.specs.declared.bus.BusError.{BusError}
use Rattle.rv_exec.specs.declared.bus.BusError.TheVariants.{Fault, NeedClock, NoMemory}
use Rattle.clint_rtc.specs.Clint.{mtime, is_due}
use Rattle.clint_rtc.specs.ClintMap as clint_map
use Rattle.clint_rtc.specs.Rtc as host_clock
use Rattle.clint_rtc.specs.Rtc.{Latch}
use Rattle.clint_rtc.specs.Finisher as finisher
use Rattle.plic_gate.specs.Claim.{stands}
use Rattle.plic_gate.specs.Map as plic_map
use Rattle.uart16550.specs.Map as uart_map
use Rattle.system_bus.specs.Time.{nanoseconds}
use Rattle.system_bus.specs.Memory.{lies_in, ram_load, ram_store}
use Rattle.system_bus.specs.MemoryMap.{register_at}
use Rattle.system_bus.specs.declared.memory_map.Region.{Region}
use Rattle.system_bus.specs.declared.memory_map.Region.TheVariants as region_is
use Rattle.system_bus.specs.declared.memory_map.Register.{Register}
use Rattle.system_bus.specs.declared.devices.Devices.{Devices}

-- the word that a read of the host's clock gives, or that a value of the clock is needed
abbrev pub clock_word : Option (ℕ × Latch) → Result ℕ BusError
clock_word None = Err NeedClock
clock_word (Some read) = Ok read.0

-- what is latched after such a read
abbrev pub clock_after : Latch → Option (ℕ × Latch) → Latch
clock_after latch None = latch
clock_after latch (Some read) = read.1

-- what a read at an offset of a region answers
abbrev pub region_read : Devices → Region → ℕ → Result ℕ BusError
region_read d region_is.Finisher off = Ok 0
region_read d region_is.Rtc off = clock_word (host_clock.read d.rtc off)
region_read d region_is.Clint off = Ok (clint_map.read d.clint (nanoseconds d.time) off)
region_read d region_is.Plic off = Ok (plic_map.read d.plic off).0
region_read d region_is.Uart off = Ok (uart_map.read d.uart off).0

-- the devices after a read that was answered
abbrev pub region_after_read : Devices → Region → ℕ → Devices
region_after_read d region_is.Rtc off =
    record d { rtc = clock_after d.rtc (host_clock.read d.rtc off) }
region_after_read d region_is.Plic off = record d { plic = (plic_map.read d.plic off).1 }
region_after_read d region_is.Uart off = record d { uart = (uart_map.read d.uart off).1 }
region_after_read d region off = d

-- the devices after a write at an offset of a region: the host's clock ignores it
abbrev pub region_written : Devices → Region → ℕ → ℕ → Devices
region_written d region_is.Finisher off value =
    record d { finisher = finisher.written d.finisher off value }
region_written d region_is.Rtc off value = d
region_written d region_is.Clint off value =
    record d { clint = clint_map.written d.clint off value }
region_written d region_is.Plic off value = record d { plic = plic_map.written d.plic off value }
region_written d region_is.Uart off value = record d { uart = uart_map.written d.uart off value }

-- the same where the map has a register; else a read faults
abbrev pub register_read : Devices → Option Register → Result ℕ BusError
register_read d None = Err Fault
register_read d (Some register) = region_read d register.region register.offset

abbrev pub register_after_read : Devices → Option Register → Devices
register_after_read d None = d
register_after_read d (Some register) = region_after_read d register.region register.offset

abbrev pub register_written : Devices → Option Register → ℕ → Devices
register_written d None value = d
register_written d (Some register) value =
    region_written d register.region register.offset value

-- what a write to a register may answer and leave
abbrev pub RegisterTakes : Devices → Option Register → ℕ → Result Unit BusError → Devices → Type 0
RegisterTakes d r value (Ok done) d' = (is_some r ≡ true) × (d' ≡ register_written d r value)
RegisterTakes d r value (Err Fault) d' = (is_some r ≡ false) × (d' ≡ d)
RegisterTakes d r value (Err NoMemory) d' = (is_some r ≡ true) × (d' ≡ d)
RegisterTakes d r value (Err NeedClock) d' = ⊥

-- RAM answers, or else a device
abbrev pub or_device : Option ℕ → Result ℕ BusError → Result ℕ BusError
or_device None device = device
or_device (Some value) device = Ok value

-- what a load of so many bytes answers
unfoldable pub load : Devices → ℕ → ℕ → Result ℕ BusError
load d at size = or_device (ram_load d.ram at size) (register_read d (register_at at size))

-- the devices after a load that was answered
unfoldable pub loaded : Devices → ℕ → ℕ → Devices
loaded d at size =
    if lies_in d.ram at size then d else register_after_read d (register_at at size)

-- RAM or a device takes a store
unfoldable pub can_store : Devices → ℕ → ℕ → Bool
can_store d at size = lies_in d.ram at size || is_some (register_at at size)

-- the register takes the console's output: the UART's at offset 0
abbrev pub region_takes_output : Region → ℕ → Bool
region_takes_output region_is.Uart off = off == 0
region_takes_output region off = false

abbrev pub takes_output : Option Register → Bool
takes_output None = false
takes_output (Some register) = region_takes_output register.region register.offset

-- RAM may want memory for a store, since its pages may be shared, and so may the console's output
unfoldable pub may_want : Devices → ℕ → ℕ → Bool
may_want d at size = lies_in d.ram at size || takes_output (register_at at size)

-- the devices after a store
unfoldable pub stored : Devices → ℕ → ℕ → ℕ → Devices
stored d at size value =
    if lies_in d.ram at size
    then record d { ram = ram_store d.ram at size value }
    else register_written d (register_at at size) value

-- the lines of the three interrupts, and the time [Privileged ISA, mip, time]
unfoldable pub inputs : Devices → Inputs
inputs d = record {
  msip = d.clint.msip;
  mtip = is_due d.clint (nanoseconds d.time);
  meip = stands d.plic;
  time = mtime (nanoseconds d.time);
}

-- the devices as the hart sees them
abbrev pub answers : Answers Devices
answers = record {
  load = load;
  loaded = loaded;
  can_store = can_store;
  stored = stored;
  may_want = may_want;
  is_ram = λ d at. lies_in d.ram at 4;
  inputs = inputs;
}
