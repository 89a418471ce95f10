-- The clock never falls, and the count rises by exactly the turns.
use Rattle.std.proofs.Common.{◌≡◌, ℕ, zero, suc, ◌<◌, ◌≤◌, ◌+◌, ◌-◌, ◌*◌, ◌/◌, Bool, true, false, List, [], ◌∷◌, refl, ap, ◌∙◌, subst, inl, inr, arith}
use Rattle.std.proofs.lemmas.Bool.{cases_Bool}
use Rattle.std.specs.Prelude.{◌==◌, ◌&&◌, not, nat_le, IfSome, IsSome, Option, Some, None, if◌then◌else◌}
use Rattle.rv_csr.specs.Control.{has_bit}
use Rattle.rv_exec.specs.declared.done.Done.{Done}
use Rattle.rv_exec.specs.declared.done.Done.TheVariants.{Retired, Trap, NeedClock, NoMemory}
use Rattle.rv_exec.specs.declared.hart.Hart.{Hart}
use Rattle.event_log.specs.declared.event.Event.{Event}
use Rattle.event_log.specs.declared.event.Event.TheVariants as event
use Rattle.system_bus.specs.declared.devices.Devices.{Devices}
use Rattle.board.specs.declared.control.Window.{Window}
use Rattle.board.specs.declared.control.Window.TheVariants as window
use Rattle.board.specs.declared.due.Due.{Due}
use Rattle.board.specs.declared.due.Due.TheVariants as due_is
use Rattle.system_bus.specs.Time.{Time, nanoseconds, later}
use Rattle.system_bus.specs.Access.{inputs}
use Rattle.system_bus.specs.Lines.{levels}
use Rattle.board.specs.State.{State}
use Rattle.board.specs.Close.{wakes, deadline, awake, warped, rests, close_window, close}
use Rattle.system_bus.specs.Time.{skipped}
use Rattle.board.specs.Turn.{attempt, settle, turn_closed, turn}
use Rattle.board.specs.Due.{due, interrupt_of}
use Rattle.board.specs.Accept.{takes, takes_interrupt, in_window, takes_input, with_levels, taken, accept}
use Rattle.board.specs.Runs.{is_run, after, ran, step, then_run, run, turns_of, turns, or_here, state_at}
use Rattle.board.specs.Laws.{NoLater, IsLaterBy, IdlesUntil, ResumesAt}
use Rattle.system_bus.proofs.Levels.{levels_time}
use Rattle.board.proofs.TimeHeld.{attempt_time}
use Rattle.board.proofs.Counting.{close-keeps, after-counts}

-- ---- closing

-- the deadline is ahead
deadline-ahead : (h : Hart) (d : Devices) (at : ℕ) → deadline h d ≡ Some at → nanoseconds d.time ≤ at
deadline-ahead h d at e = grind arith

-- a clock that skips to a nanosecond ahead shows that
pub skipped-shows : (t : Time) (at : ℕ) → nanoseconds t ≤ at → nanoseconds (skipped t at) ≡ at
skipped-shows t at ahead = omega arith

before-same : (g h : State) → h.devices.time ≡ g.devices.time → NoLater g h
before-same g h e = let c = ap nanoseconds e in omega arith

stays : (g : State) → NoLater g g
stays g = omega arith

pub if-state : (P : State → Type 0) (b : Bool) (x y : State) → P x → P y → P (if b then x else y)
if-state P true x y p q = p
if-state P false x y p q = q

rests-before : (used : Bool) (g : State) (o : Option ℕ) → ((at : ℕ) → o ≡ Some at → nanoseconds g.devices.time ≤ at) → NoLater g (rests used g o)
rests-before used g (Some at) ahead = let s = skipped-shows g.devices.time at (ahead at refl) in let a = ahead at refl in omega (arith, s, a)
rests-before true g None ahead = stays g
rests-before false g None ahead = stays g

window-before : (w : Window) (g : State) → NoLater g (close_window w g)
window-before window.Shut g = stays g
window-before (window.Slice used) g = stays g
window-before (window.Idle used) g =
    if-state (NoLater g) (wakes g.hart g.devices) _ _ (stays g)
    (rests-before used g (deadline g.hart g.devices) (deadline-ahead g.hart g.devices))

pub close-before : (g : State) → NoLater g (close g)
unfolding close
close-before g = window-before g.control.window g

-- ---- a turn

later-shows : (t : Time) → nanoseconds t ≤ nanoseconds (later t)
later-shows t = grind arith

settled-later : (g : State) (d : Devices) → d.time ≡ g.devices.time
    → nanoseconds g.devices.time ≤ nanoseconds (levels (record d { time = later d.time })).time
settled-later g d e =
    let s = later-shows g.devices.time in rw (levels_time (record d { time = later d.time }), e) s

settle-before : (g : State) (done : Done) (h : Hart) (d : Devices) → d.time ≡ g.devices.time → NoLater g (settle g done h d)
settle-before g (Retired idle) h d e = settled-later g d e
settle-before g (Trap cause value) h d e = settled-later g d e
settle-before g NeedClock h d e = stays g
settle-before g NoMemory h d e = stays g

closed-before : (g : State) → NoLater g (turn_closed g)
unfolding turn_closed
closed-before g = let o = attempt g.hart g.devices in settle-before g o.done o.hart o.bus (attempt_time g.hart g.devices)

pub turn-before : (g : State) → NoLater g (turn g)
unfolding turn
turn-before g = let a = close-before g in let b = closed-before (close g) in omega (arith, a, b)

pub after-before : (n : ℕ) (g : State) → NoLater g (after n g)
unfolding after
after-before zero g = stays g
after-before (suc n) g =
    if-state (NoLater g) (is_run (due g)) _ _
    (let a = turn-before g in let b = after-before n (turn g) in omega (arith, a, b))
    (stays g)

-- ---- an event

-- the clock of the second is that of the first
abbrev SameTime : State → State → Type 0
SameTime g h = h.devices.time ≡ g.devices.time

pub if-some : (P : State → Type 0) (b : Bool) (h : State) → (b ≡ true → P h) → IfSome (if b then Some h else None) P
if-some P true h p = p refl
if-some P false h p = tt

interrupts-time : (g : State) (o : Option ℕ) → IfSome (takes_interrupt g o) (SameTime g)
interrupts-time g None = tt
interrupts-time g (Some which) = refl

takes-time : (d : Due) (e : Event) (g : State) → IfSome (takes d e g) (SameTime g)
takes-time due_is.Exception event.Exception g = refl
takes-time due_is.Interrupt event.Interrupt g = interrupts-time g (interrupt_of g)
takes-time due_is.Idle (event.Checkpoint true) g = refl
takes-time due_is.Slice (event.Checkpoint false) g = refl
takes-time due_is.Clock (event.Clock value) g = refl
takes-time (due_is.End r c) (event.End reason code) g = if-some (SameTime g) (r == reason && c == code) _ (λ e. refl)
takes-time d e g = tt

-- the state, or that with its window closed, has the clock of the second
pub data FromTime (g h : State) : Type 0 where
  opened : h.devices.time ≡ g.devices.time → FromTime g h
  closing : h.devices.time ≡ (close g).devices.time → FromTime g h

map-some : (P Q : State → Type 0) → ((h : State) → P h → Q h) → (o : Option State) → IfSome o P → IfSome o Q
map-some P Q f None p = tt
map-some P Q f (Some h) p = f h p

due-time : (e : Event) (g : State) → IfSome (takes (due g) e (close g)) (FromTime g)
due-time e g = map-some (SameTime (close g)) (FromTime g) (λ h t. closing t) _ (takes-time (due g) e (close g))

window-time : (g h : State) → h.devices.time ≡ g.devices.time → IfSome (in_window g h) (FromTime g)
window-time g h t = if-some (FromTime g) (takes_input g.control) h (λ e. opened t)

if-option : (P : State → Type 0) (b : Bool) (x y : Option State) → IfSome x P → IfSome y P → IfSome (if b then x else y) P
if-option P true x y p q = p
if-option P false x y p q = q

taken-time : (e : Event) (g : State) → IfSome (taken g e) (FromTime g)
unfolding taken
taken-time (event.CharRead bytes) g = window-time g _ refl
taken-time (event.Net packet) g = window-time g _ refl
taken-time (event.Block id ok) g = tt
taken-time (event.End reason code) g = if-option (FromTime g) (reason == 3) _ _ (window-time g _ refl) (due-time (event.End reason code) g)
taken-time e g = due-time e g

leveled-time : (g h : State) → FromTime g h → FromTime g (record h { devices = levels h.devices })
leveled-time g h (opened t) = opened (levels_time h.devices ∙ t)
leveled-time g h (closing t) = closing (levels_time h.devices ∙ t)

levels-time : (g : State) (o : Option State) → IfSome o (FromTime g) → IfSome (with_levels o) (FromTime g)
levels-time g None p = tt
levels-time g (Some h) p = leveled-time g h p

pub accept-time : (e : Event) (g : State) → IfSome (accept g e) (FromTime g)
unfolding accept
accept-time e g = levels-time g (taken g e) (taken-time e g)

from-before : (g h : State) → FromTime g h → NoLater g h
from-before g h (opened t) = before-same g h t
from-before g h (closing t) = let a = close-before g in let c = ap nanoseconds t in omega (arith, a, c)

from-count : (g h : State) → FromTime g h → h.devices.time.count ≡ g.devices.time.count + 0
from-count g h (opened t) = let c = ap (λ z. z.count) t in omega (arith, c)
from-count g h (closing t) = let c = ap (λ z. z.count) t in let k = (close-keeps g).count in omega (arith, c, k)

-- ---- runs

pub step-before : (e : Event) (g : State) → IfSome (step g e) (NoLater g)
unfolding step
step-before (event.Instruction n) g = if-some (NoLater g) (ran n g == n && not (is_run (due (after n g)))) _ (λ e. after-before n g)
step-before e g = map-some (FromTime g) (NoLater g) (from-before g) _ (accept-time e g)

all-ran : (n : ℕ) (g : State) → (ran n g == n && not (is_run (due (after n g)))) ≡ true → ran n g ≡ n
all-ran n g e = grind arith

after-turns : (n : ℕ) (g : State) → (ran n g == n && not (is_run (due (after n g)))) ≡ true → IsLaterBy n g (after n g)
after-turns n g e = let r = all-ran n g e in let c = (after-counts n g).count in omega (arith, r, c)

pub step-counts : (e : Event) (g : State) → IfSome (step g e) (IsLaterBy (turns_of e) g)
unfolding step
step-counts (event.Instruction n) g = if-some (IsLaterBy n g) (ran n g == n && not (is_run (due (after n g)))) _ (after-turns n g)
step-counts e g = map-some (FromTime g) (IsLaterBy 0 g) (from-count g) _ (accept-time e g)

then-some : (P Q : State → Type 0) (R : State → State → Type 0) → ((h k : State) → P h → R h k → Q k) → (o : Option State) (next : State → Option State)
    → IfSome o P → ((h : State) → IfSome (next h) (R h)) → IfSome (then_run o next) Q
then-some P Q R f None next p q = tt
then-some P Q R f (Some h) next p q = map-some (R h) Q (λ k r. f h k p r) (next h) (q h)

pub run-before : (es : List Event) (g : State) → IfSome (run g es) (NoLater g)
unfolding run
run-before [] g = stays g
run-before (e ∷ es) g =
    then-some (NoLater g) (NoLater g) NoLater (λ h k a b. omega (arith, a, b)) (step g e) (λ h. run h es) (step-before e g) (λ h. run-before es h)

pub run-counts : (es : List Event) (g : State) → IfSome (run g es) (IsLaterBy (turns es) g)
unfolding run
run-counts [] g = omega arith
run-counts (e ∷ es) g =
    then-some (IsLaterBy (turns_of e) g) (IsLaterBy (turns (e ∷ es)) g) (λ h k. IsLaterBy (turns es) h k) (λ h k a b. omega (arith, a, b)) (step g e) (λ h. run h es) (step-counts e g) (λ h. run-counts es h)

-- ---- the state at a count

if-both : (b : Bool) (x y x' y' : State) → NoLater x x' → NoLater y y' → NoLater (if b then x else y) (if b then x' else y')
if-both true x y x' y' p q = p
if-both false x y x' y' p q = q

after-steps : (n m : ℕ) (g : State) → n ≤ m → NoLater (after n g) (after m g)
unfolding after
after-steps zero m g w = after-before m g
after-steps (suc n) zero g w = absurd (omega arith)
after-steps (suc n) (suc m) g w = if-both (is_run (due g)) _ _ _ _ (after-steps n m (turn g) (omega arith)) (stays g)

here-before : (g : State) (o : Option State) (next : State → State) → IfSome o (NoLater g) → ((h : State) → NoLater h (next h)) → NoLater g (or_here g o next)
here-before g None next p q = stays g
here-before g (Some h) next p q = let a = q h in omega (arith, p, a)

at-before : (es : List Event) (g : State) (n : ℕ) → NoLater g (state_at g es n)
unfolding state_at
at-before [] g n = after-before n g
at-before (e ∷ es) g n =
    if-state (NoLater g) (nat_le (turns_of e) n) _ _
    (here-before g (step g e) (λ h. state_at h es (n - turns_of e)) (step-before e g) (λ h. at-before es h (n - turns_of e)))
    (after-before n g)

is-some : (b : Bool) (x h : State) → (if b then Some x else None) ≡ Some h → x ≡ h
is-some true x h e = cc
is-some false x h e = absurd cc

-- an event of more turns than n
event-late : (e : Event) (g h : State) (n : ℕ) → n < turns_of e → step g e ≡ Some h → NoLater (after n g) h
unfolding step
event-late (event.Instruction k) g h n w is =
    subst (λ z. NoLater (after n g) z) (is-some (ran k g == k && not (is_run (due (after k g)))) (after k g) h is) (after-steps n k g (omega arith))
event-late e g h n w is = absurd (omega arith)

here-late : (e : Event) (g : State) (n : ℕ) (o : Option State) (next : State → State) (rest : State → Option State)
    → n < turns_of e → step g e ≡ o → IsSome (then_run o rest) → ((h : State) → NoLater h (next h)) → NoLater (after n g) (or_here g o next)
here-late e g n None next rest w is some grows = absurd cc
here-late e g n (Some h) next rest w is some grows = let a = event-late e g h n w is in let b = grows h in omega (arith, a, b)

here-steps : (g : State) (o : Option State) (f f' : State → State) (rest : State → Option State) → IsSome (then_run o rest)
    → ((h : State) → IsSome (rest h) → NoLater (f h) (f' h)) → NoLater (or_here g o f) (or_here g o f')
here-steps g None f f' rest some q = absurd cc
here-steps g (Some h) f f' rest some q = q h some

pub at-steps : (es : List Event) (g : State) (n m : ℕ) → n ≤ m → IsSome (run g es) → NoLater (state_at g es n) (state_at g es m)
unfolding state_at run
at-steps [] g n m w some = after-steps n m g w
at-steps (e ∷ es) g n m w some =
    let k = turns_of e in
    elim (cases_Bool (nat_le k n)) [
      | inl past ↦
          let too : nat_le k m ≡ true = grind arith in
          rw past (rw too (here-steps g (step g e) _ _ (λ h. run h es) some (λ h ok. at-steps es h (n - k) (m - k) (omega arith) ok)))
      | inr here ↦
          let less : n < k = grind arith in
          rw here (elim (cases_Bool (nat_le k m)) [
            | inl past ↦ rw past (here-late e g n (step g e) _ (λ h. run h es) less refl some (λ h. at-before es h (m - k)))
            | inr too ↦ rw too (after-steps n m g w)
          ])
    ]

-- ---- the deadline

deadline-is : (h : Hart) (d : Devices) (at : ℕ) → deadline h d ≡ Some at → (has_bit h.csrs.mie 7 ≡ true) × (at ≡ d.clint.mtimecmp * 100)
deadline-is h d at e = grind arith

close-at : (g : State) (used b : Bool) (o : Option ℕ) (at : ℕ) → b ≡ false → o ≡ Some at → (if b then awake g else rests used g o) ≡ awake (warped g at)
close-at g used b o at e f = rw e (rw f refl)

woken : (h : Hart) (d : Devices) (at : ℕ) → deadline h d ≡ Some at → wakes h (record d { time = skipped d.time at }) ≡ true
unfolding inputs
woken h d at e =
    let is = deadline-is h d at e in
    let shows = skipped-shows d.time at (deadline-ahead h d at e) in
    let due : nat_le d.clint.mtimecmp (nanoseconds (skipped d.time at) / 100) ≡ true = rw shows (grind arith) in
    rw (is.0, due) (grind arith)

pub resumes : (g : State) (at : ℕ) → IdlesUntil g at → ResumesAt (close g) at
unfolding close
resumes g at i =
    let shut : close_window g.control.window g ≡ awake (warped g at) =
    ap (λ w. close_window w g) i.window ∙ close-at g i.used (wakes g.hart g.devices) (deadline g.hart g.devices) at i.sleeps i.deadline in
    rw shut (record {
      clock = skipped-shows g.devices.time at (deadline-ahead g.hart g.devices at i.deadline);
      goes_on = refl;
      woken = woken g.hart g.devices at i.deadline;
    })
