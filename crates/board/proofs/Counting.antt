-- What turns count, and that they end: each raises the count and the turns since the last
-- checkpoint by one, and no slice and no budget is passed.
use Rattle.std.proofs.Common.{◌≡◌, ℕ, zero, suc, ◌≤◌, ◌+◌, ◌-◌, ◌^◌, ◌⊎◌, inl, inr, Bool, true, false, refl, ap, ◌∙◌, arith}
use Rattle.std.proofs.lemmas.Bool.{cases_Bool, eqb-false}
use Rattle.std.specs.Prelude.{◌==◌, Option, Some, None, is_some, Result, if◌then◌else◌}
use Rattle.rv_decode.specs.declared.ins.Ins.{Ins}
use Rattle.rv_decode.specs.Fields.{decoded}
use Rattle.rv_exec.specs.declared.bus.BusError.{BusError}
use Rattle.rv_exec.specs.declared.done.Done.{Done}
use Rattle.rv_exec.specs.declared.done.Done.TheVariants.{Retired, Trap, NeedClock, NoMemory}
use Rattle.rv_exec.specs.declared.hart.Hart.{Hart}
use Rattle.rv_exec.specs.Rows.{is_need_clock}
use Rattle.clint_rtc.specs.Rtc.{Latch}
use Rattle.clint_rtc.specs.Rtc as host_clock
use Rattle.system_bus.specs.declared.devices.Devices.{Devices}
use Rattle.system_bus.specs.declared.memory_map.Region.{Region}
use Rattle.system_bus.specs.declared.memory_map.Region.TheVariants as region_is
use Rattle.system_bus.specs.declared.memory_map.Register.{Register}
use Rattle.board.specs.declared.control.Control.{Control}
use Rattle.board.specs.declared.control.Window.{Window}
use Rattle.board.specs.declared.control.Window.TheVariants as window
use Rattle.board.specs.declared.due.Due.{Due}
use Rattle.board.specs.declared.due.Due.TheVariants as due_is
use Rattle.system_bus.specs.Time.{later}
use Rattle.system_bus.specs.Memory.{ram_load}
use Rattle.system_bus.specs.MemoryMap.{register_at}
use Rattle.system_bus.specs.Access.{answers, or_device, clock_word, region_read, register_read, load}
use Rattle.board.specs.State.{State}
use Rattle.board.specs.Close.{wakes, deadline, rests, close_window, close, Keeps}
use Rattle.board.specs.Turn.{run_word, fetched, attempt, settle, turn_closed, turn}
use Rattle.board.specs.Due.{is_idle_window, ended_by, has_in_flight, due_by, interrupt_of, needs_clock, due_closed, due}
use Rattle.board.specs.Runs.{is_run, after, ran}
use Rattle.board.specs.Bounds.{Counts}
use Rattle.system_bus.proofs.Levels.{levels_time}
use Rattle.board.proofs.TimeHeld.{attempt_time}
use Rattle.board.proofs.Unrefused.{is_refusal, is_memory_error, Fed, meaning-fed}

-- ---- no attempt of the machine meets want of memory in its meaning

word-fed : (read : Option (ℕ × Latch)) → is_memory_error (clock_word read) ≡ false
word-fed None = refl
word-fed (Some read) = refl

region-fed : (d : Devices) (r : Region) (off : ℕ) → is_memory_error (region_read d r off) ≡ false
region-fed d region_is.Finisher off = refl
region-fed d region_is.Rtc off = word-fed (host_clock.read d.rtc off)
region-fed d region_is.Clint off = refl
region-fed d region_is.Plic off = refl
region-fed d region_is.Uart off = refl

register-fed : (d : Devices) (r : Option Register) → is_memory_error (register_read d r) ≡ false
register-fed d None = refl
register-fed d (Some r) = region-fed d r.region r.offset

or-fed : (o : Option ℕ) (device : Result ℕ BusError) → is_memory_error device ≡ false → is_memory_error (or_device o device) ≡ false
or-fed None device e = e
or-fed (Some value) device e = refl

load-fed : (d : Devices) (at size : ℕ) → is_memory_error (load d at size) ≡ false
unfolding load
load-fed d at size = or-fed (ram_load d.ram at size) _ (register-fed d (register_at at size))

word-run-fed : (h : Hart) (d : Devices) (w : ℕ) (i : Option Ins) → Fed (run_word h d w i)
word-run-fed h d w None = refl
word-run-fed h d w (Some i) = meaning-fed answers load-fed h d i w

fetched-fed : (h : Hart) (d : Devices) (w : Option ℕ) → Fed (fetched h d w)
fetched-fed h d None = refl
fetched-fed h d (Some w) = word-run-fed h d w (decoded w)

pub attempt-fed : (h : Hart) (d : Devices) → Fed (attempt h d)
unfolding attempt
attempt-fed h d = fetched-fed h d (ram_load d.ram h.pc 4)

-- ---- closing a window leaves the counts

if-state : (P : State → Type 0) (b : Bool) (x y : State) → P x → P y → P (if b then x else y)
if-state P true x y p q = p
if-state P false x y p q = q

abbrev KeepsState : State → State → Type 0
KeepsState g h = Keeps g.control g.devices.time h.control h.devices.time

rests-keep : (used : Bool) (g : State) (at : Option ℕ) → KeepsState g (rests used g at)
rests-keep used g (Some at) = record { count = refl; since = refl; slice = refl; budget = refl; ended = refl }
rests-keep true g None = record { count = refl; since = refl; slice = refl; budget = refl; ended = refl }
rests-keep false g None = record { count = refl; since = refl; slice = refl; budget = refl; ended = refl }

window-keeps : (w : Window) (g : State) → KeepsState g (close_window w g)
window-keeps window.Shut g = record { count = refl; since = refl; slice = refl; budget = refl; ended = refl }
window-keeps (window.Slice used) g = record { count = refl; since = refl; slice = refl; budget = refl; ended = refl }
window-keeps (window.Idle used) g =
    if-state (KeepsState g) (wakes g.hart g.devices) _ _
    (record { count = refl; since = refl; slice = refl; budget = refl; ended = refl })
    (rests-keep used g (deadline g.hart g.devices))

pub close-keeps : (g : State) → KeepsState g (close g)
unfolding close
close-keeps g = window-keeps g.control.window g

-- ---- where a turn is due

unless : (b : Bool) (x y : Due) → is_run x ≡ false → is_run (if b then x else y) ≡ true → (b ≡ false) × (is_run y ≡ true)
unless true x y h e = absurd cc
unless false x y h e = (refl, e)

-- the guest didn't end
unless_ended : (code : Option ℕ) (y : Due) → is_run (ended_by code y) ≡ true → (is_some code ≡ false) × (is_run y ≡ true)
unless_ended None y e = (refl, e)
unless_ended (Some code) y e = absurd cc

-- what holds where a turn is due, by the rows of the table that come before it
pub record MayRun (c : Control) (n : ℕ) (finished : Option ℕ) (i k : Bool) : Type 0 where
  pub going : is_some c.ended ≡ false
  pub trapped : c.trapped ≡ false
  pub code : is_some finished ≡ false
  pub count : (n == c.budget) ≡ false
  pub window : is_idle_window c.window ≡ false
  pub idle : c.idle ≡ false
  pub since : (c.since == c.slice) ≡ false
  pub interrupt : i ≡ false
  pub clock : k ≡ false

pub may_run : (c : Control) (count : ℕ) (code : Option ℕ) (f i k : Bool) → is_run (due_by c count code f i k) ≡ true → MayRun c count code i k
may_run c count code f i k e =
    let a = unless (is_some c.ended) due_is.Nothing _ refl e in
    let b = unless c.trapped due_is.Exception _ refl a.1 in
    let d = unless_ended code _ b.1 in
    let m = unless (count == c.budget) (due_is.End 2 0) _ refl d.1 in
    let w = unless (is_idle_window c.window) (if f then due_is.Wait else due_is.End 1 0) _ (stands f) m.1 in
    let h = unless c.idle due_is.Idle _ refl w.1 in
    let s = unless (c.since == c.slice) due_is.Slice _ refl h.1 in
    let j = unless i due_is.Interrupt _ refl s.1 in
    let l = unless k due_is.Clock due_is.Run refl j.1 in
    record { going = a.0; trapped = b.0; code = d.0; count = m.0; window = w.0; idle = h.0; since = s.0; interrupt = j.0; clock = l.0 }
  where
    stands : (f : Bool) → is_run (if f then due_is.Wait else due_is.End 1 0) ≡ false
    stands true = refl
    stands false = refl

-- ---- what a turn counts

-- so many turns later: what they count, and what they leave as it is
pub record Later (g h : State) (n : ℕ) : Type 0 where
  pub count : h.devices.time.count ≡ g.devices.time.count + n
  pub since : h.control.since ≡ g.control.since + n
  pub slice : h.control.slice ≡ g.control.slice
  pub budget : h.control.budget ≡ g.control.budget
  pub ended : h.control.ended ≡ g.control.ended

settle-counts : (g : State) (done : Done) (h : Hart) (d : Devices) → is_need_clock done ≡ false → is_refusal done ≡ false
    → d.time ≡ g.devices.time → Later g (settle g done h d) 1
settle-counts g (Retired idle) h d c m t =
    record { count = ap (λ z. z.count) (levels_time (record d { time = later d.time })) ∙ ap (λ z. z.count + 1) t; since = refl; slice = refl; budget = refl; ended = refl }
settle-counts g (Trap cause value) h d c m t =
    record { count = ap (λ z. z.count) (levels_time (record d { time = later d.time })) ∙ ap (λ z. z.count + 1) t; since = refl; slice = refl; budget = refl; ended = refl }
settle-counts g NeedClock h d c m t = absurd cc
settle-counts g NoMemory h d c m t = absurd cc

closed-counts : (g : State) → is_run (due_closed g) ≡ true → Later g (turn_closed g) 1
unfolding due_closed needs_clock turn_closed
closed-counts g e =
    let o = attempt g.hart g.devices in
    let may = may_run g.control g.devices.time.count g.devices.finisher (has_in_flight g.devices) (is_some (interrupt_of g)) (is_need_clock o.done) e in
    settle-counts g o.done o.hart o.bus may.clock (attempt-fed g.hart g.devices) (attempt_time g.hart g.devices)

pub turn-counts : (g : State) → is_run (due g) ≡ true → Later g (turn g) 1
unfolding due turn
turn-counts g e =
    let k = close-keeps g in
    let c = closed-counts (close g) e in
    record {
      count = c.count ∙ ap (λ z. z + 1) k.count;
      since = c.since ∙ ap (λ z. z + 1) k.since;
      slice = c.slice ∙ k.slice;
      budget = c.budget ∙ k.budget;
      ended = c.ended ∙ k.ended;
    }

same_test : (a b c d : ℕ) → a ≡ c → b ≡ d → (a == b) ≡ false → (c == d) ≡ false
same_test a b c d p q e = rw (← p, ← q) e

-- where a turn is due, neither the slice nor the budget is used up
pub turn-within : (g : State) → is_run (due g) ≡ true
    → ((g.control.since == g.control.slice) ≡ false) × ((g.devices.time.count == g.control.budget) ≡ false)
unfolding due due_closed
turn-within g e =
    let h = close g in
    let k = close-keeps g in
    let may = may_run h.control h.devices.time.count h.devices.finisher (has_in_flight h.devices) (is_some (interrupt_of h)) (needs_clock h) e in
    (same_test _ _ _ _ k.since k.slice may.since, same_test _ _ _ _ k.count k.budget may.count)

pub after-counts : (n : ℕ) (g : State) → Later g (after n g) (ran n g)
unfolding after ran
after-counts zero g = record { count = omega arith; since = omega arith; slice = refl; budget = refl; ended = refl }
after-counts (suc n) g =
    elim (cases_Bool (is_run (due g))) [
      | inl on ↦
          let p = turn-counts g on in
          let q = after-counts n (turn g) in
          rw on (record {
            count = omega (arith, q.count, p.count);
            since = omega (arith, q.since, p.since);
            slice = q.slice ∙ p.slice;
            budget = q.budget ∙ p.budget;
            ended = q.ended ∙ p.ended;
          })
      | inr off ↦ rw off (record { count = omega arith; since = omega arith; slice = refl; budget = refl; ended = refl })
    ]

-- neither the slice nor the budget is passed
pub after-within : (n : ℕ) (g : State) → g.control.since ≤ g.control.slice → g.devices.time.count ≤ g.control.budget
    → (g.control.since + ran n g ≤ g.control.slice) × (g.devices.time.count + ran n g ≤ g.control.budget)
unfolding ran
after-within zero g s b = (omega arith, omega arith)
after-within (suc n) g s b =
    elim (cases_Bool (is_run (due g))) [
      | inl on ↦
          let p = turn-counts g on in
          let w = turn-within g on in
          let not_slice = eqb-false g.control.since g.control.slice w.0 in
          let not_budget = eqb-false g.devices.time.count g.control.budget w.1 in
          let below : g.control.since + 1 ≤ g.control.slice = omega (arith, not_slice) in
          let less : g.devices.time.count + 1 ≤ g.control.budget = omega (arith, not_budget) in
          let q = after-within n (turn g) (omega (arith, p.since, p.slice)) (omega (arith, p.count, p.budget)) in
          rw on (omega (arith, q.0, p.since, p.slice), omega (arith, q.1, p.count, p.budget))
      | inr off ↦ rw off (omega arith, omega arith)
    ]

-- all of n turns were made, or another thing is due
pub stopped : (n : ℕ) (g : State) → (is_run (due (after n g)) ≡ false) ⊎ (ran n g ≡ n)
unfolding after ran
stopped zero g = inr refl
stopped (suc n) g =
    elim (cases_Bool (is_run (due g))) [
      | inl on ↦ rw on (elim (stopped n (turn g)) [ inl s ↦ inl s | inr all ↦ inr (ap suc all) ])
      | inr off ↦ rw off (inl off)
    ]

-- with room for more turns than a slice has, another thing is due in the end
pub over : (g : State) → Counts g.control g.devices.time → is_run (due (after (2 ^ 32 - 1) g)) ≡ false
over g counts =
    elim (stopped (2 ^ 32 - 1) g) [
      | inl s ↦ s
      | inr all ↦ absurd (omega (arith, all, (after-within (2 ^ 32 - 1) g counts.since counts.count).0, counts.slice))
    ]

-- ---- nothing waits while nothing is in flight

no-wait-by : (c : Control) (count : ℕ) (code : Option ℕ) (i k : Bool) → due_by c count code false i k ≡ due_is.Wait → ⊥
no-wait-by c count code i k e = grind arith

pub no-wait : (g : State) → due g ≡ due_is.Wait → ⊥
unfolding due due_closed
no-wait g e =
    let h = close g in
    no-wait-by h.control h.devices.time.count h.devices.finisher (is_some (interrupt_of h)) (needs_clock h) e
