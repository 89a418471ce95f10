-- What a turn does: one attempt at the instruction at pc.
use Rattle.std.specs.Prelude.{ℕ, ◌+◌, Bool, true, false, ◌||◌, Option, Some, None}
use Rattle.rv_decode.specs.declared.ins.Ins.{Ins}
use Rattle.rv_decode.specs.Fields.{decoded}
use Rattle.rv_csr.specs.declared.mode.Mode.TheVariants.{M}
use Rattle.rv_csr.specs.Table.{ticked}
use Rattle.rv_csr.specs.Traps.{trapped, base}
use Rattle.rv_exec.specs.declared.done.Done.{Done}
use Rattle.rv_exec.specs.declared.done.Done.TheVariants.{Retired, Trap, NeedClock, NoMemory}
use Rattle.rv_exec.specs.declared.hart.Hart.{Hart}
use Rattle.rv_exec.specs.Rows.{Outcome, meaning, traps, beside, store_of}
use Rattle.rv_exec.specs.Rows as exec
use Rattle.system_bus.specs.Time.{later}
use Rattle.system_bus.specs.Memory.{ram_load}
use Rattle.system_bus.specs.Access.{answers}
use Rattle.system_bus.specs.Lines.{levels}
use Rattle.board.specs.State.{State}
use Rattle.board.specs.Close.{close}
use Rattle.system_bus.specs.declared.devices.Devices.{Devices}
use Rattle.board.specs.declared.control.Control.{Control}

-- a word that means no instruction is illegal, cause 2 [Privileged ISA, mcause]
abbrev pub run_word : Hart → Devices → ℕ → Option Ins → Outcome Devices
run_word h d word None = beside d (traps h 2 word)
run_word h d word (Some ins) = meaning answers h d ins word

-- a fetch outside RAM is an access fault, cause 1 [Privileged ISA, mcause]
abbrev pub fetched : Hart → Devices → Option ℕ → Outcome Devices
fetched h d None = beside d (traps h 1 h.pc)
fetched h d (Some word) = run_word h d word (decoded word)

-- the attempt at the instruction at pc
unfoldable pub attempt : Hart → Devices → Outcome Devices
attempt h d = fetched h d (ram_load d.ram h.pc 4)

-- a trap is entered in the same turn [Privileged ISA, mtvec]
abbrev pub entered : Hart → ℕ → ℕ → Hart
entered h cause value =
    record h { pc = base h.csrs; mode = M; csrs = trapped h.csrs h.mode h.pc cause value }

-- mcycle counts the turn, and minstret where it retired
abbrev pub counted : Hart → Bool → Hart
counted h retired = record h { csrs = ticked h.csrs retired }

-- the devices after one more turn
abbrev pub more : Devices → Devices
more d = levels (record d { time = later d.time })

abbrev pub turned : Control → Control
turned c = record c { since = c.since + 1 }

-- what an attempt that came to this makes of the state
abbrev pub settle : State → Done → Hart → Devices → State
settle g (Retired idle) h d = record {
  hart = counted h true;
  devices = more d;
  control = record (turned g.control) { idle = idle || g.control.idle };
}
settle g (Trap cause value) h d = record {
  hart = counted (entered h cause value) false;
  devices = more d;
  control = record (turned g.control) { trapped = true };
}
settle g NeedClock h d = g
settle g NoMemory h d = g

abbrev pub settled : State → Outcome Devices → State
settled g o = settle g o.done o.hart o.bus

-- a turn of a state whose window is closed
unfoldable pub turn_closed : State → State
turn_closed g = settled g (attempt g.hart g.devices)

-- a turn closes an open window first
unfoldable pub turn : State → State
turn g = turn_closed (close g)

-- a word may want memory where it stores to RAM or to the console's output
abbrev pub word_wants_memory : Hart → Devices → Option Ins → Bool
word_wants_memory h d None = false
word_wants_memory h d (Some ins) = exec.wants_memory answers d (store_of h ins ins.op)

abbrev pub fetched_wants_memory : Hart → Devices → Option ℕ → Bool
fetched_wants_memory h d None = false
fetched_wants_memory h d (Some word) = word_wants_memory h d (decoded word)

-- the instruction at pc may want memory
unfoldable pub wants_memory : Hart → Devices → Bool
wants_memory h d = fetched_wants_memory h d (ram_load d.ram h.pc 4)

-- the same of the next turn
unfoldable pub turn_wants_memory : State → Bool
turn_wants_memory g = wants_memory (close g).hart (close g).devices
