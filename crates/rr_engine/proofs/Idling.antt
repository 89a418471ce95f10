-- What events and turns leave of the window and of the end.
use Rattle.std.proofs.Common.{◌≡◌, ℕ, zero, suc, ◌+◌, ◌≤◌, Bool, true, false, List, refl, sym, ap, ◌∙◌, subst, inl, inr, arith}
use Rattle.std.specs.Prelude.{◌&&◌, ◌⊎◌, Some, None, is_none}
use Rattle.std.specs.declared.option.Option.{Option}
use Rattle.std.proofs.lemmas.Bool.{cases_Bool}
use Rattle.rv_exec.specs.declared.done.Done.{Done}
use Rattle.rv_exec.specs.declared.done.Done.TheVariants as done
use Rattle.rv_exec.specs.declared.hart.Hart.{Hart}
use Rattle.event_log.specs.declared.event.Event.{Event}
use Rattle.event_log.specs.declared.event.Event.TheVariants as event
use Rattle.board.specs.declared.control.Control.{Control}
use Rattle.board.specs.declared.control.Ending.{Ending}
use Rattle.board.specs.declared.control.Window.{Window}
use Rattle.board.specs.declared.control.Window.TheVariants as window
use Rattle.system_bus.specs.declared.devices.Devices.{Devices}
use Rattle.board.specs.declared.due.Due.TheVariants as due_is
use Rattle.board.specs.State.{State}
use Rattle.board.specs.Close.{wakes, deadline, rests, close_window, close}
use Rattle.board.specs.Due.{is_idle_window, due}
use Rattle.board.specs.Accept.{takes_input, is_open, used, received, delivered, with_used_window}
use Rattle.board.specs.Effect.{Effect, levelled}
use Rattle.board.specs.Effect as by
use Rattle.system_bus.specs.Lines.{levels}
use Rattle.board.specs.Turn.{attempt, settle, turn, turn_closed}
use Rattle.board.specs.Runs.{is_run, after, step}
use Rattle.board.proofs.Counting.{close-keeps}
use Rattle.board.proofs.Effects.{effect_of}
use Rattle.rr_engine.specs.Owed.{IsOwn}
use Rattle.rr_engine.specs.Work.{is_restless, work}
use Rattle.rr_engine.proofs.Owing.{own-still, end-silent}
use Rattle.rr_engine.proofs.Entering.{IsPlain}
use Rattle.rr_engine.proofs.Falling.{means-at}
use Rattle.rr_engine.proofs.Running.{bit-most}

-- ---- closing a window

rests-from : (u : Bool) (g : State) (at : Option ℕ) → (rests u g at).control.window ≡ window.Idle false
    → g.control.window ≡ window.Idle false
rests-from u g (Some at) e = absurd cc
rests-from true g None e = absurd cc
rests-from false g None e = e

window-from : (w : Window) (g : State) → (close_window w g).control.window ≡ window.Idle false
    → g.control.window ≡ window.Idle false
window-from window.Shut g = λ e. e
window-from (window.Slice u) g = λ e. absurd cc
window-from (window.Idle u) g =
    elim (cases_Bool (wakes g.hart g.devices)) [
      | inl wakes_ ↦ rw wakes_ (λ e. absurd cc)
      | inr rests_ ↦ rw rests_ (rests-from u g (deadline g.hart g.devices))
    ]

-- an idle window without an event stands only where it stood
pub close-from : (g : State) → (close g).control.window ≡ window.Idle false → g.control.window ≡ window.Idle false
unfolding close
close-from g e = window-from g.control.window g e

rests-idle : (u : Bool) (g : State) (at : Option ℕ) → g.control.window ≡ window.Idle u
    → is_idle_window (rests u g at).control.window ≡ true → g.control.window ≡ window.Idle false
rests-idle u g (Some at) is e = absurd cc
rests-idle true g None is e = absurd cc
rests-idle false g None is e = is

window-idle : (w : Window) (g : State) → g.control.window ≡ w → is_idle_window (close_window w g).control.window ≡ true
    → g.control.window ≡ window.Idle false
window-idle window.Shut g is = λ e. absurd (not-idle (sym (ap is_idle_window is) ∙ e))
  where
    not-idle : false ≡ true → ⊥
    not-idle e = cc
window-idle (window.Slice u) g is = λ e. absurd cc
window-idle (window.Idle u) g is =
    elim (cases_Bool (wakes g.hart g.devices)) [
      | inl wakes_ ↦ rw wakes_ (λ e. absurd cc)
      | inr rests_ ↦ rw rests_ (rests-idle u g (deadline g.hart g.devices) is)
    ]

-- an end for want of a wake is due in an idle window without an event
pub wakeless : (g : State) (reason code : ℕ) → due g ≡ due_is.End reason code → reason ≡ 1
    → g.control.window ≡ window.Idle false
unfolding close
wakeless g reason code d one =
    window-idle g.control.window g refl (means-at g (due_is.End reason code) d one)

-- ---- events

-- what an event without input leaves of the control of the state in which it was taken
abbrev pub Leaves : Control → Event → Control → Type 0
Leaves c (event.Checkpoint true) c' = (c'.window ≡ window.Idle false) × (c'.ended ≡ c.ended)
Leaves c (event.Checkpoint false) c' = (c'.window ≡ window.Slice false) × (c'.ended ≡ c.ended)
Leaves c (event.End reason code) c' =
    (c'.window ≡ c.window) × (c'.ended ≡ Some (record { reason = reason; code = code }))
Leaves c other c' = (c'.window ≡ c.window) × (c'.ended ≡ c.ended)

-- the control of the state in which an event was taken: its window is closed, but for END 3
abbrev pub From : State → Event → Control → Type 0
From g e c = Leaves (close g).control e c ⊎ Leaves g.control e c

effect-leaves : (e : Event) (g k : State) → IsOwn e → Effect g e k → From g e k.control
effect-leaves e g k own (by.stop code opened) = inr (refl, refl)
effect-leaves e g k own (by.char_read bytes opened) = absurd own
effect-leaves e g k own (by.net packet opened) = absurd own
effect-leaves e g k own f = inl (refl, refl)

step-leaves : (e : Event) (g h : State) → IsOwn e → step g e ≡ Some h → From g e h.control
step-leaves e g h own s =
    let f = effect_of e g h (own-still e own) s in
    subst (λ (z : State). From g e z.control) (sym f.levels) (effect-leaves e g f.before own f.effect)

-- an event that neither opens a window nor ends the run
abbrev pub IsInner : Event → Type 0
IsInner event.Interrupt = Unit {0}
IsInner event.Exception = Unit {0}
IsInner (event.Clock value) = Unit {0}
IsInner other = ⊥

pub inner-own : (e : Event) → IsInner e → IsOwn e
inner-own event.Interrupt i = tt
inner-own event.Exception i = tt
inner-own (event.Clock value) i = tt
inner-own e i = absurd i

pub inner-plain : (e : Event) → IsInner e → IsPlain e
inner-plain event.Interrupt i = tt
inner-plain event.Exception i = tt
inner-plain (event.Clock value) i = tt
inner-plain e i = absurd i

inner-leaves : (e : Event) (c c' : Control) → IsInner e → Leaves c e c' → (c'.window ≡ c.window) × (c'.ended ≡ c.ended)
inner-leaves event.Interrupt c c' i l = l
inner-leaves event.Exception c c' i l = l
inner-leaves (event.Clock value) c c' i l = l
inner-leaves e c c' i l = absurd i

-- such an event leaves an idle window where it stood, and ends nothing
pub inner-idle : (e : Event) (g h : State) → IsInner e → step g e ≡ Some h → h.control.window ≡ window.Idle false
    → g.control.window ≡ window.Idle false
inner-idle e g h i s w =
    elim (step-leaves e g h (inner-own e i) s) [
      | inl l ↦ close-from g (sym (inner-leaves e (close g).control h.control i l).0 ∙ w)
      | inr l ↦ sym (inner-leaves e g.control h.control i l).0 ∙ w
    ]

pub inner-going : (e : Event) (g h : State) → IsInner e → step g e ≡ Some h → g.control.ended ≡ None
    → h.control.ended ≡ None
inner-going e g h i s going =
    elim (step-leaves e g h (inner-own e i) s) [
      | inl l ↦ (inner-leaves e (close g).control h.control i l).1 ∙ (close-keeps g).ended ∙ going
      | inr l ↦ (inner-leaves e g.control h.control i l).1 ∙ going
    ]

-- so does END, and it ends by its reason
pub end-idle : (g h : State) (reason code : ℕ) → step g (event.End reason code) ≡ Some h
    → h.control.window ≡ window.Idle false → g.control.window ≡ window.Idle false
end-idle g h reason code s w =
    elim (step-leaves (event.End reason code) g h tt s) [
      | inl l ↦ close-from g (sym l.0 ∙ w)
      | inr l ↦ sym l.0 ∙ w
    ]

pub end-ended : (g h : State) (reason code : ℕ) → step g (event.End reason code) ≡ Some h
    → h.control.ended ≡ Some (record { reason = reason; code = code })
end-ended g h reason code s = (end-silent g h reason code s).ended

-- a checkpoint that isn't an idle one opens no idle window
pub checkpoint-idle : (g h : State) (idle : Bool) → step g (event.Checkpoint idle) ≡ Some h
    → h.control.window ≡ window.Idle false → idle ≡ true
checkpoint-idle g h true s w = refl
checkpoint-idle g h false s w =
    elim (step-leaves (event.Checkpoint false) g h tt s) [
      | inl l ↦ absurd (not-slice (sym l.0 ∙ w))
      | inr l ↦ absurd (not-slice (sym l.0 ∙ w))
    ]
  where
    not-slice : window.Slice false ≡ window.Idle false → ⊥
    not-slice e = cc

-- ---- turns

settle-window : (g : State) (d : Done) (h : Hart) (b : Devices) → (settle g d h b).control.window ≡ g.control.window
settle-window g (done.Retired idle) h b = refl
settle-window g (done.Trap cause value) h b = refl
settle-window g done.NeedClock h b = refl
settle-window g done.NoMemory h b = refl

turn-closed : (g : State) → (turn g).control.window ≡ window.Idle false
    → (close g).control.window ≡ window.Idle false
unfolding turn turn_closed
turn-closed g w =
    let k = close g in
    let o = attempt k.hart k.devices in
    sym (settle-window k o.done o.hart o.bus) ∙ w

turn-idle : (g : State) → (turn g).control.window ≡ window.Idle false → g.control.window ≡ window.Idle false
turn-idle g w = close-from g (turn-closed g w)

pub after-idle : (n : ℕ) (g : State) → (after n g).control.window ≡ window.Idle false → g.control.window ≡ window.Idle false
unfolding after
after-idle zero g = λ w. w
after-idle (suc n) g =
    elim (cases_Bool (is_run (due g))) [
      | inl on ↦ rw on (λ w. turn-idle g (after-idle n (turn g) w))
      | inr off ↦ rw off (λ w. w)
    ]

-- a turn that is due is made in no idle window
turn-shut : (g : State) → due g ≡ due_is.Run → (turn g).control.window ≡ window.Idle false → ⊥
turn-shut g d w = not-both (sym (means-at g due_is.Run d) ∙ ap is_idle_window (turn-closed g w))
  where
    not-both : false ≡ true → ⊥
    not-both e = cc

pub after-shut : (n : ℕ) (g : State) → 1 ≤ n → due g ≡ due_is.Run
    → (after n g).control.window ≡ window.Idle false → ⊥
unfolding after
after-shut zero g some d = absurd (omega (arith, some))
after-shut (suc n) g some d =
    rw (ap is_run d) (λ w. turn-shut g d (after-idle n (turn g) w))

-- ---- an input

-- an input marks the window, which stays open, and gives no console bytes; it may wake an idle hart
pub record Typed (g h : State) : Type 0 where
  pub used : h.control.window ≡ window.Idle false → ⊥
  pub going : h.control.ended ≡ None
  pub opens : takes_input h.control ≡ true
  pub silent : h.devices.uart.out ≡ g.devices.uart.out
  pub work : work h ≤ work g + 2

used-window : (w : Window) → is_open w ≡ true → used w ≡ window.Idle false → ⊥
used-window window.Shut o e = absurd cc
used-window (window.Slice u) o e = cc
used-window (window.Idle u) o e = cc

used-open : (w : Window) → is_open w ≡ true → is_open (used w) ≡ true
used-open window.Shut o = o
used-open (window.Slice u) o = refl
used-open (window.Idle u) o = refl

pub open-parts : (o : Option Ending) (w : Window) → (is_none o && is_open w) ≡ true → (o ≡ None) × (is_open w ≡ true)
open-parts None w e = (refl, e)
open-parts (Some ending) w e = absurd cc

parts-open : (o : Option Ending) (w : Window) → o ≡ None → is_open w ≡ true → (is_none o && is_open w) ≡ true
parts-open None w n e = e
parts-open (Some ending) w n e = absurd cc

typed-marks : (g : State) (bytes : List ℕ) → takes_input g.control ≡ true
    → Typed g (levelled (with_used_window (received g bytes)))
unfolding work levels
typed-marks g bytes opens =
    let parts = open-parts g.control.ended g.control.window opens in
    record {
      used = λ e. used-window g.control.window parts.1 e;
      going = parts.0;
      opens = parts-open g.control.ended (used g.control.window) parts.0 (used-open g.control.window parts.1);
      silent = refl;
      work = omega (arith, bit-most (g.control.idle && is_restless (used g.control.window)));
    }

packet-marks : (g : State) (packet : List ℕ) → takes_input g.control ≡ true
    → Typed g (levelled (with_used_window (delivered g packet)))
unfolding work levels
packet-marks g packet opens =
    let parts = open-parts g.control.ended g.control.window opens in
    record {
      used = λ e. used-window g.control.window parts.1 e;
      going = parts.0;
      opens = parts-open g.control.ended (used g.control.window) parts.0 (used-open g.control.window parts.1);
      silent = refl;
      work = omega (arith, bit-most (g.control.idle && is_restless (used g.control.window)));
    }

-- an event from outside
abbrev IsInput : Event → Type 0
IsInput (event.CharRead bytes) = Unit {0}
IsInput (event.Net packet) = Unit {0}
IsInput other = ⊥

input-marks : (e : Event) (g k : State) → IsInput e → Effect g e k → Typed g (levelled k)
input-marks e g k i (by.char_read bytes opened) = typed-marks g bytes opened
input-marks e g k i (by.net packet opened) = packet-marks g packet opened
input-marks e g k i f = absurd i

pub types : (g h : State) (bytes : List ℕ) → step g (event.CharRead bytes) ≡ Some h → Typed g h
types g h bytes s =
    let f = effect_of (event.CharRead bytes) g h tt s in
    subst (Typed g) (sym f.levels) (input-marks (event.CharRead bytes) g f.before tt f.effect)

pub delivers : (g h : State) (packet : List ℕ) → step g (event.Net packet) ≡ Some h → Typed g h
delivers g h packet s =
    let f = effect_of (event.Net packet) g h tt s in
    subst (Typed g) (sym f.levels) (input-marks (event.Net packet) g f.before tt f.effect)
