-- An event is accepted exactly where it stands for the turns that run, or has an effect.
use Rattle.std.proofs.Common.{◌≡◌, ℕ, ◌≤◌, Bool, true, false, refl, sym, ap, ◌∙◌, subst, arith}
use Rattle.std.proofs.lemmas.Bool.{eq-eqb, ne_eqb}
use Rattle.std.specs.Prelude.{◌==◌, ◌&&◌, not, Option, Some, None, is_some, if◌then◌else◌}
use Rattle.event_log.specs.declared.event.Event.{Event}
use Rattle.event_log.specs.declared.event.Event.TheVariants as event
use Rattle.board.specs.declared.control.Control.{Control}
use Rattle.board.specs.declared.due.Due.{Due}
use Rattle.board.specs.declared.due.Due.TheVariants as due_is
use Rattle.board.specs.State.{State}
use Rattle.board.specs.Close.{close}
use Rattle.board.specs.Due.{due, due_by, due_closed, ended_by, is_idle_window, has_in_flight, interrupt_of, needs_clock}
use Rattle.board.specs.Accept.{accept, taken, takes, takes_interrupt, takes_input, takes_end, in_window, ended, with_levels}
use Rattle.board.specs.Runs.{is_run, after, ran, step}
use Rattle.board.specs.Effect.{Effect, exception, interrupt, idle, slice, clock, end, stop, char_read, net, IsEffect, levelled, IsStep, turns, taking, IsNoTurn}

abbrev some : State → Option State
some g = Some g

pub some_is : (x h : State) → some x ≡ some h → x ≡ h
some_is x h e = cc

-- ---- what was accepted has an effect

interrupt-effect : (g k : State) (o : Option ℕ) → due g ≡ due_is.Interrupt → interrupt_of (close g) ≡ o
    → takes_interrupt (close g) o ≡ Some k → Effect g event.Interrupt k
interrupt-effect g k None d i t = absurd cc
interrupt-effect g k (Some which) d i t = subst (Effect g event.Interrupt) (some_is _ k t) (interrupt which d i)

end-effect : (g k : State) (r c reason code : ℕ) (b : Bool) → (r == reason && c == code) ≡ b → due g ≡ due_is.End r c
    → (if b then some (ended (close g) reason code) else None) ≡ Some k → Effect g (event.End reason code) k
end-effect g k r c reason code true same d t =
    let is : due_is.End r c ≡ due_is.End reason code = grind arith in
    subst (Effect g (event.End reason code)) (some_is _ k t) (end reason code (d ∙ is))
end-effect g k r c reason code false same d t = absurd cc

takes-effect : (g : State) (d : Due) (e : Event) (k : State) → due g ≡ d → takes d e (close g) ≡ Some k → Effect g e k
takes-effect g due_is.Exception event.Exception k d t = subst (Effect g event.Exception) (some_is _ k t) (exception d)
takes-effect g due_is.Interrupt event.Interrupt k d t = interrupt-effect g k (interrupt_of (close g)) d refl t
takes-effect g due_is.Idle (event.Checkpoint true) k d t = subst (Effect g (event.Checkpoint true)) (some_is _ k t) (idle d)
takes-effect g due_is.Slice (event.Checkpoint false) k d t = subst (Effect g (event.Checkpoint false)) (some_is _ k t) (slice d)
takes-effect g due_is.Clock (event.Clock value) k d t = subst (Effect g (event.Clock value)) (some_is _ k t) (clock value d)
takes-effect g (due_is.End r c) (event.End reason code) k d t = end-effect g k r c reason code (r == reason && c == code) refl d t
takes-effect g other e k d t = absurd cc

due-effect : (g k : State) (e : Event) → takes (due g) e (close g) ≡ Some k → Effect g e k
due-effect g k e t = takes-effect g (due g) e k refl t

window-effect : (g k l : State) (e : Event) (b : Bool) → (b ≡ true → Effect g e l) → (if b then some l else None) ≡ Some k → Effect g e k
window-effect g k l e true all t = subst (Effect g e) (some_is l k t) (all refl)
window-effect g k l e false all t = absurd cc

stop-effect : (g k : State) (reason code : ℕ) (b : Bool) → (reason == 3) ≡ b
    → (if b then in_window g (ended g reason code) else takes (due g) (event.End reason code) (close g)) ≡ Some k
    → Effect g (event.End reason code) k
stop-effect g k reason code true is t =
    let three : 3 ≡ reason = grind arith in
    window-effect g k (ended g reason code) (event.End reason code) (takes_input g.control)
    (λ opened. subst (λ r. Effect g (event.End r code) (ended g r code)) three (stop code opened)) t
stop-effect g k reason code false is t = due-effect g k (event.End reason code) t

taken-effect : (e : Event) (g k : State) → taken g e ≡ Some k → Effect g e k
unfolding taken
taken-effect (event.CharRead bytes) g k t = window-effect g k _ (event.CharRead bytes) (takes_input g.control) (char_read bytes) t
taken-effect (event.Net packet) g k t = window-effect g k _ (event.Net packet) (takes_input g.control) (net packet) t
taken-effect (event.Block id ok) g k t = absurd cc
taken-effect (event.End reason code) g k t = stop-effect g k reason code (reason == 3) refl t
taken-effect e g k t = due-effect g k e t

leveled-effect : (g h : State) (e : Event) (o : Option State) → taken g e ≡ o → with_levels o ≡ Some h → IsEffect g e h
leveled-effect g h e None t a = absurd cc
leveled-effect g h e (Some k) t a = record { before = k; effect = taken-effect e g k t; levels = sym (some_is (levelled k) h a) }

accept-effect : (e : Event) (g h : State) → accept g e ≡ Some h → IsEffect g e h
unfolding accept
accept-effect e g h a = leveled-effect g h e (taken g e) refl a

all-turns : (g h : State) (n : ℕ) (b : Bool) → (ran n g == n && not (is_run (due (after n g)))) ≡ b
    → (if b then some (after n g) else None) ≡ Some h → IsStep g (event.Instruction n) h
all-turns g h n true all s =
    let made : ran n g ≡ n = grind arith in
    let other : is_run (due (after n g)) ≡ false = grind arith in
    subst (IsStep g (event.Instruction n)) (some_is (after n g) h s) (turns n made other)
all-turns g h n false all s = absurd cc

pub step_of : (e : Event) (g h : State) → step g e ≡ Some h → IsStep g e h
unfolding step
step_of (event.Instruction n) g h s = all-turns g h n (ran n g == n && not (is_run (due (after n g)))) refl s
step_of e g h s = taking (accept-effect e g h s)

pub effect_of : (e : Event) (g h : State) → IsNoTurn e → step g e ≡ Some h → IsEffect g e h
unfolding step
effect_of (event.Instruction n) g h still s = absurd still
effect_of e g h still s = accept-effect e g h s

-- ---- what has an effect is accepted

if-low : (P : Due → Type 0) (b : Bool) (x y : Due) → P x → P y → P (if b then x else y)
if-low P true x y p q = p
if-low P false x y p q = q

abbrev IsLow : Due → Type 0
IsLow (due_is.End reason code) = reason ≤ 2
IsLow other = Unit {0}

code-low : (code : Option ℕ) (y : Due) → IsLow y → IsLow (ended_by code y)
code-low None y p = p
code-low (Some n) y p = omega arith

low : (c : Control) (n : ℕ) (code : Option ℕ) (f i k : Bool) → IsLow (due_by c n code f i k)
low c n code f i k =
    if-low IsLow (is_some c.ended) _ _ tt (if-low IsLow c.trapped _ _ tt (code-low code _
    (if-low IsLow (n == c.budget) _ _ (omega arith) (if-low IsLow (is_idle_window c.window) _ _
    (if-low IsLow f _ _ tt (omega arith)) (if-low IsLow c.idle _ _ tt (if-low IsLow (c.since == c.slice) _ _ tt
    (if-low IsLow i _ _ tt (if-low IsLow k _ _ tt tt))))))))

-- an END that is due has no reason above 2
end-low : (g : State) (reason code : ℕ) → due g ≡ due_is.End reason code → reason ≤ 2
unfolding due due_closed
end-low g reason code d =
    let h = close g in
    subst IsLow d (low h.control h.devices.time.count h.devices.finisher (has_in_flight h.devices) (is_some (interrupt_of h)) (needs_clock h))

now : (g : State) (e : Event) (d : Due) → due g ≡ d → takes (due g) e (close g) ≡ takes d e (close g)
now g e d is = ap (λ (z : Due). takes z e (close g)) is

same-end : (g : State) (reason code : ℕ) → takes (due_is.End reason code) (event.End reason code) g ≡ some (ended g reason code)
same-end g reason code = rw (eq-eqb reason reason refl) (rw (eq-eqb code code refl) refl)

taken-by : (e : Event) (g k : State) → Effect g e k → taken g e ≡ Some k
unfolding taken
taken-by e g k (exception d) = now g event.Exception due_is.Exception d
taken-by e g k (interrupt which d i) =
    now g event.Interrupt due_is.Interrupt d ∙ ap (takes_interrupt (close g)) i
taken-by e g k (idle d) = now g (event.Checkpoint true) due_is.Idle d
taken-by e g k (slice d) = now g (event.Checkpoint false) due_is.Slice d
taken-by e g k (clock value d) = now g (event.Clock value) due_is.Clock d
taken-by e g k (end reason code d) =
    let below = end-low g reason code d in
    let other : (reason == 3) ≡ false = ne_eqb reason 3 (λ e. omega (arith, e, below)) in
    rw other (now g (event.End reason code) (due_is.End reason code) d ∙ same-end (close g) reason code)
taken-by e g k (stop code opened) = rw opened refl
taken-by e g k (char_read bytes opened) = rw opened refl
taken-by e g k (net packet opened) = rw opened refl

effect-accepted : (e : Event) (g k : State) → Effect g e k → accept g e ≡ Some (levelled k)
unfolding accept
effect-accepted e g k f = ap with_levels (taken-by e g k f)

pub effect_steps : (e : Event) (g k : State) → Effect g e k → step g e ≡ Some (levelled k)
unfolding step
effect_steps e g k (exception d) = effect-accepted event.Exception g k (exception d)
effect_steps e g k f = effect-accepted e g k f
