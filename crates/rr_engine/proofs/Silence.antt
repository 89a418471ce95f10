-- Events without input and without a turn give no console bytes.
use Rattle.std.proofs.Common.{◌≡◌, sym, subst}
use Rattle.std.specs.Prelude.{Some}
use Rattle.event_log.specs.declared.event.Event.{Event}
use Rattle.board.specs.State.{State}
use Rattle.system_bus.specs.Lines.{levels}
use Rattle.board.specs.Runs.{step}
use Rattle.board.specs.Effect.{Effect, levelled}
use Rattle.board.specs.Effect as by
use Rattle.board.proofs.Effects.{effect_of}
use Rattle.board.proofs.UartHeld.{close_uart}
use Rattle.rr_engine.proofs.Owing.{own-still}
use Rattle.rr_engine.proofs.Idling.{IsInner, inner-own}

abbrev LeavesUart : State → State → Type 0
LeavesUart g h = h.devices.uart ≡ g.devices.uart

effect-uart : (e : Event) (g k : State) → IsInner e → Effect g e k → LeavesUart g k
effect-uart e g k i (by.exception d) = close_uart g
effect-uart e g k i (by.interrupt which d is) = close_uart g
effect-uart e g k i (by.clock value d) = close_uart g
effect-uart e g k i f = absurd i

pub inner-uart : (e : Event) (g h : State) → IsInner e → step g e ≡ Some h → LeavesUart g h
unfolding levels
inner-uart e g h i s =
    let f = effect_of e g h (own-still e (inner-own e i)) s in
    let by : LeavesUart g (levelled f.before) = effect-uart e g f.before i f.effect in
    subst (LeavesUart g) (sym f.levels) by
