-- What is due is accepted.
use Rattle.std.proofs.Common.{◌≡◌, ℕ, ◌<◌, ◌^◌, Bool, true, false, List, refl, sym, arith, subst}
use Rattle.std.specs.Prelude.{Some, None, is_some, if◌then◌else◌}
use Rattle.std.specs.declared.option.Option.{Option}
use Rattle.event_log.specs.declared.event.Event.{Event}
use Rattle.event_log.specs.declared.event.Event.TheVariants as event
use Rattle.event_log.specs.Spelling.{IsEvent}
use Rattle.board.specs.declared.control.Control.{Control}
use Rattle.board.specs.declared.due.Due.TheVariants as due_is
use Rattle.board.specs.State.{State}
use Rattle.system_bus.specs.Lines.{levels}
use Rattle.board.specs.Close.{close}
use Rattle.board.specs.Due.{due, due_by, due_closed, has_in_flight, interrupt_of, needs_clock}
use Rattle.board.specs.Accept.{takes_input}
use Rattle.board.specs.Runs.{step}
use Rattle.board.specs.Effect.{Effect, levelled, IsNoTurn}
use Rattle.board.specs.Effect as by
use Rattle.board.specs.Bounds.{IsDue}
use Rattle.board.proofs.UartHeld.{close_uart}
use Rattle.board.proofs.Counting.{close-keeps}
use Rattle.board.proofs.Effects.{effect_steps, effect_of}
use Rattle.rr_engine.specs.Owed.{IsOwed, IsOwn}

-- an event that has an effect is accepted
owed : (g k : State) (e : Event) → IsEvent e → Effect g e k → IsOwed g e
owed g k e is f = record { spelled = is; after = levelled k; steps = effect_steps e g k f }

pub owes_exception : (g : State) → due g ≡ due_is.Exception → IsOwed g event.Exception
owes_exception g d = owed g _ event.Exception tt (by.exception d)

-- where an interrupt is due, one is to be taken
interrupt_some : (c : Control) (n : ℕ) (code : Option ℕ) (f i k : Bool) → due_by c n code f i k ≡ due_is.Interrupt → i ≡ true
interrupt_some c n code f true k d = refl
interrupt_some c n code f false k d = grind arith

some_number : (o : Option ℕ) → is_some o ≡ true → (n : ℕ) × (o ≡ Some n)
some_number None e = absurd cc
some_number (Some n) e = (n, refl)

pub owes_interrupt : (g : State) → due g ≡ due_is.Interrupt → IsOwed g event.Interrupt
unfolding due due_closed
owes_interrupt g d =
    let h = close g in
    let i = interrupt_some h.control h.devices.time.count h.devices.finisher (has_in_flight h.devices)
    (is_some (interrupt_of h)) (needs_clock h) d in
    let n = some_number (interrupt_of h) i in
    owed g _ event.Interrupt tt (by.interrupt n.0 d n.1)

pub owes_checkpoint : (g : State) (idle : Bool) → due g ≡ (if idle then due_is.Idle else due_is.Slice) → IsOwed g (event.Checkpoint idle)
owes_checkpoint g true d = owed g _ (event.Checkpoint true) tt (by.idle d)
owes_checkpoint g false d = owed g _ (event.Checkpoint false) tt (by.slice d)

pub owes_clock : (g : State) (value : ℕ) → value < 2 ^ 64 → due g ≡ due_is.Clock → IsOwed g (event.Clock value)
owes_clock g value fits d = owed g _ (event.Clock value) fits (by.clock value d)

-- an END that is due
pub owes_end : (g : State) (reason code : ℕ) → due g ≡ due_is.End reason code
    → IsDue g.control false (due_is.End reason code) → IsOwed g (event.End reason code)
owes_end g reason code d kind =
    owed g _ (event.End reason code) (omega (arith, kind.0), kind.1, kind.2) (by.end reason code d)

-- END 3 in an open window
pub owes_stop : (g : State) → takes_input g.control ≡ true → IsOwed g (event.End 3 0)
owes_stop g window = owed g _ (event.End 3 0) (omega arith, omega arith, λ h. refl) (by.stop 0 window)

-- a piece of the input in an open window
pub owes_piece : (g : State) (bytes : List ℕ) → takes_input g.control ≡ true → IsEvent (event.CharRead bytes)
    → IsOwed g (event.CharRead bytes)
owes_piece g bytes window is = owed g _ (event.CharRead bytes) is (by.char_read bytes window)

pub owes_packet : (g : State) (packet : List ℕ) → takes_input g.control ≡ true → IsEvent (event.Net packet)
    → IsOwed g (event.Net packet)
owes_packet g packet window is = owed g _ (event.Net packet) is (by.net packet window)

pub own-still : (e : Event) → IsOwn e → IsNoTurn e
own-still (event.Instruction n) own = absurd own
own-still e own = tt

-- ---- what a checkpoint and an END leave

opens-by : (g k : State) (idle : Bool) → g.control.ended ≡ None → Effect g (event.Checkpoint idle) k → takes_input k.control ≡ true
opens-by g k idle going (by.idle d) = rw ((close-keeps g).ended, going) refl
opens-by g k idle going (by.slice d) = rw ((close-keeps g).ended, going) refl

-- a checkpoint opens a window
pub checkpoint-opens : (g h : State) (idle : Bool) → g.control.ended ≡ None → step g (event.Checkpoint idle) ≡ Some h → takes_input h.control ≡ true
checkpoint-opens g h idle going s =
    let f = effect_of (event.Checkpoint idle) g h tt s in
    subst (λ (z : State). takes_input z.control ≡ true) (sym f.levels) (opens-by g f.before idle going f.effect)

-- END ends the run, and gives no console bytes
pub record EndsSilently (g : State) (reason code : ℕ) (h : State) : Type 0 where
  pub ended : h.control.ended ≡ Some (record { reason = reason; code = code })
  pub uart : h.devices.uart ≡ g.devices.uart

ends-by : (g k : State) (reason code : ℕ) → Effect g (event.End reason code) k → EndsSilently g reason code k
ends-by g k reason code (by.end r c d) = record { ended = refl; uart = close_uart g }
ends-by g k reason code (by.stop c opened) = record { ended = refl; uart = refl }

pub end-silent : (g h : State) (reason code : ℕ) → step g (event.End reason code) ≡ Some h → EndsSilently g reason code h
unfolding levels
end-silent g h reason code s =
    let f = effect_of (event.End reason code) g h tt s in
    let by = ends-by g f.before reason code f.effect in
    subst (EndsSilently g reason code) (sym f.levels) (record { ended = by.ended; uart = by.uart })
