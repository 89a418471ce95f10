-- Events other than INSTRUCTION: which are accepted, and what each does (this machine's own).
use Rattle.std.specs.Prelude.{ℕ, ◌+◌, ◌^◌, ◌==◌, ◌&&◌, Bool, true, false, ◌≡◌, IsSome, Option, Some, None, is_none, Result, Ok, Err, List, if◌then◌else◌}
use Rattle.rv_csr.specs.declared.mode.Mode.TheVariants.{M}
use Rattle.rv_csr.specs.Traps.{trapped, interrupt_pc}
use Rattle.rv_exec.specs.declared.hart.Hart.{Hart}
use Rattle.uart16550.specs.Line as uart
use Rattle.event_log.specs.declared.event.Event.{Event}
use Rattle.event_log.specs.declared.event.Event.TheVariants as event
use Rattle.system_bus.specs.Lines.{levels}
use Rattle.board.specs.State.{State}
use Rattle.board.specs.Close.{close}
use Rattle.board.specs.Due.{due, interrupt_of}
use Rattle.board.specs.declared.control.Control.{Control}
use Rattle.board.specs.declared.control.Window.{Window}
use Rattle.board.specs.declared.control.Window.TheVariants as window
use Rattle.board.specs.declared.due.Due.{Due}
use Rattle.board.specs.declared.due.Due.TheVariants as due_is
use Rattle.board.specs.declared.accepting.AcceptError.{AcceptError}
use Rattle.board.specs.declared.accepting.AcceptError.TheVariants as error

abbrev pub is_open : Window → Bool
is_open window.Shut = false
is_open w = true

-- a window is open in a run that hasn't ended
abbrev pub takes_input : Control → Bool
takes_input c = is_none c.ended && is_open c.window

-- the window had an event
abbrev pub used : Window → Window
used window.Shut = window.Shut
used (window.Slice u) = window.Slice true
used (window.Idle u) = window.Idle true

abbrev pub with_used_window : State → State
with_used_window g = record g { control = record g.control { window = used g.control.window } }

-- the run ends
abbrev pub ended : State → ℕ → ℕ → State
ended g reason code = record g {
  control = record g.control { ended = Some (record { reason = reason; code = code }) };
}

-- an interrupt is entered before the instruction at pc [Privileged ISA, mcause, mtvec]
abbrev pub interrupted : Hart → ℕ → Hart
interrupted h which = record h {
  pc = interrupt_pc h.csrs which;
  mode = M;
  csrs = trapped h.csrs h.mode h.pc (2 ^ 31 + which) 0;
}

abbrev pub takes_interrupt : State → Option ℕ → Option State
takes_interrupt g None = None
takes_interrupt g (Some which) = Some (record g { hart = interrupted g.hart which })

-- the turns since the last checkpoint begin anew, and a window opens
abbrev pub checkpoint : State → Window → State
checkpoint g w = record g { control = record g.control { since = 0; window = w } }

-- a value of the host's clock comes in hand
abbrev pub clocked : State → ℕ → State
clocked g value =
    record g { devices = record g.devices { rtc = record g.devices.rtc { in_hand = Some value } } }

-- console bytes come
abbrev pub received : State → List ℕ → State
received g bytes =
    record g { devices = record g.devices { uart = uart.received g.devices.uart bytes } }

-- a packet comes: no device takes it, and it removes the reservation
abbrev pub delivered : State → List ℕ → State
delivered g packet = record g { hart = record g.hart { reservation = None } }

-- an event of a window, where one is open
abbrev pub in_window : State → State → Option State
in_window g after = if takes_input g.control then Some after else None

-- the event that is due, in the state whose window is closed
abbrev pub takes : Due → Event → State → Option State
takes due_is.Exception event.Exception g =
    Some (record g { control = record g.control { trapped = false } })
takes due_is.Interrupt event.Interrupt g = takes_interrupt g (interrupt_of g)
takes due_is.Idle (event.Checkpoint true) g = Some (checkpoint g (window.Idle false))
takes due_is.Slice (event.Checkpoint false) g = Some (checkpoint g (window.Slice false))
takes due_is.Clock (event.Clock value) g = Some (clocked g value)
takes (due_is.End r c) (event.End reason code) g =
    if r == reason && c == code then Some (ended g reason code) else None
takes due e g = None

-- an end that is due, or END 3, which stops the run in a window and closes none
abbrev pub takes_end : State → ℕ → ℕ → Option State
takes_end g reason code =
    if reason == 3 then in_window g (ended g reason code)
    else takes (due g) (event.End reason code) (close g)

-- the events of a window, and those that are due. No block request is in flight
unfoldable pub taken : State → Event → Option State
taken g (event.CharRead bytes) = in_window g (with_used_window (received g bytes))
taken g (event.Net packet) = in_window g (with_used_window (delivered g packet))
taken g (event.Block id ok) = None
taken g (event.End reason code) = takes_end g reason code
taken g e = takes (due g) e (close g)

-- after an event the levels are the devices' lines
abbrev pub with_levels : Option State → Option State
with_levels None = None
with_levels (Some g) = Some (record g { devices = levels g.devices })

-- the state after an event, or none where it is refused
unfoldable pub accept : State → Event → Option State
accept g e = with_levels (taken g e)

-- console bytes alone need memory
abbrev pub takes_memory : Event → Bool
takes_memory (event.CharRead bytes) = true
takes_memory e = false

-- an event was taken, or refused with what is due; want of memory comes after each refusal
abbrev pub Answers : Option State → State → Event → Result Unit AcceptError → State → Type 0
Answers given g e (Ok done) after = given ≡ Some after
Answers given g e (Err (error.Wrong d)) after = (given ≡ None) × (d ≡ due g) × (after ≡ g)
Answers given g e (Err error.NoMemory) after =
    IsSome given × (takes_memory e ≡ true) × (after ≡ g)

-- what `accept` answers
abbrev pub Accepts : State → Event → Result Unit AcceptError → State → Type 0
Accepts g e answer after = Answers (accept g e) g e answer after

-- the same before the levels are set
abbrev pub Takes : State → Event → Result Unit AcceptError → State → Type 0
Takes g e answer after = Answers (taken g e) g e answer after

-- the same of the event that is due
abbrev pub TakesDue : State → Event → Result Unit AcceptError → State → Type 0
TakesDue g e (Ok done) after = takes (due g) e (close g) ≡ Some after
TakesDue g e (Err (error.Wrong d)) after =
    (takes (due g) e (close g) ≡ None) × (d ≡ due g) × (after ≡ g)
TakesDue g e (Err error.NoMemory) after = ⊥

-- a window takes an event, or this is due instead
abbrev pub AsksWindow : State → Result Unit AcceptError → Type 0
AsksWindow g (Ok done) = takes_input g.control ≡ true
AsksWindow g (Err (error.Wrong d)) = (takes_input g.control ≡ false) × (d ≡ due g)
AsksWindow g (Err error.NoMemory) = ⊥
