-- Console bytes that were taken before play no part.
use Rattle.std.proofs.Common.{◌≡◌, ℕ, zero, suc, ◌-◌, Bool, true, false, cond, List, [], ◌∷◌, refl, ap, ◌∙◌, append_assoc, arith}
use Rattle.std.specs.Prelude.{◌==◌, ◌&&◌, not, nat_le, is_some, Option, Some, None, Ok}
use Rattle.rv_decode.specs.declared.ins.Ins.{Ins}
use Rattle.rv_decode.specs.Fields.{decoded}
use Rattle.rv_exec.specs.declared.done.Done.{Done}
use Rattle.rv_exec.specs.declared.done.Done.TheVariants.{Retired, Trap, NeedClock, NoMemory}
use Rattle.rv_exec.specs.declared.hart.Hart.{Hart}
use Rattle.rv_exec.specs.Rows.{is_need_clock}
use Rattle.rv_exec.proofs.Natural.{Commutes, outcome_map, meaning-natural}
use Rattle.event_log.specs.declared.event.Event.{Event}
use Rattle.event_log.specs.declared.event.Event.TheVariants as event
use Rattle.system_bus.specs.declared.memory_map.Region.{Region}
use Rattle.system_bus.specs.declared.memory_map.Region.TheVariants as region_is
use Rattle.system_bus.specs.declared.memory_map.Register.{Register}
use Rattle.system_bus.specs.declared.devices.Devices.{Devices}
use Rattle.board.specs.declared.due.Due.{Due}
use Rattle.board.specs.declared.due.Due.TheVariants as due_is
use Rattle.board.specs.declared.control.Window.{Window}
use Rattle.board.specs.declared.control.Window.TheVariants as window
use Rattle.uart16550.specs.Line.{Line, cause, dlab}
use Rattle.uart16550.specs.Map as uart_map
use Rattle.system_bus.specs.Lines.{levels}
use Rattle.system_bus.specs.Memory.{lies_in, ram_load}
use Rattle.system_bus.specs.Time.{later}
use Rattle.system_bus.specs.MemoryMap.{register_at}
use Rattle.system_bus.specs.Access.{answers, or_device, load, loaded, can_store, stored, region_read, region_after_read, region_written, register_read, register_after_read, register_written, inputs}
use Rattle.board.specs.State.{State}
use Rattle.board.specs.Close.{wakes, deadline, awake, rests, close_window, close}
use Rattle.board.specs.Turn.{run_word, fetched, attempt, settle, settled, turn_closed, turn}
use Rattle.board.specs.Due.{interrupt_of, needs_clock, due_by, due_closed, due}
use Rattle.board.specs.Accept.{takes, takes_interrupt, takes_end, in_window, with_levels, taken, accept, takes_input, ended}
use Rattle.board.specs.Runs.{is_run, after, ran, step, then_run, run, turns_of, or_here, state_at}
use Rattle.board.specs.Taken.{Taken, line_with, devices_with, with_taken, map_taken}

choice : {A B : Type 0} (f : A → B) (b : Bool) (x y : A) → f (cond b x y) ≡ cond b (f x) (f y)
choice f true x y = refl
choice f false x y = refl

-- a choice on both sides of a function
both : {A B : Type 0} (f : A → B) (b : Bool) (x y : A) (x' y' : B) → x' ≡ f x → y' ≡ f y → cond b x' y' ≡ f (cond b x y)
both f true x y x' y' p q = p
both f false x y x' y' p q = q

module _ (front : Taken) where
  -- ---- the devices

  -- a read shows the same
  shown-with : (l : Line) (off : ℕ) (b : Bool) → (uart_map.read_of (line_with front l) (uart_map.register_at off b)).0 ≡ (uart_map.read_of l (uart_map.register_at off b)).0
  shown-with l off true = grind arith
  shown-with l off false = grind arith

  after-with-latch : (l : Line) (off : ℕ) (b : Bool) → (uart_map.read_of (line_with front l) (uart_map.register_at off b)).1 ≡ line_with front (uart_map.read_of l (uart_map.register_at off b)).1
  after-with-latch l off true = grind arith
  after-with-latch l off false = grind arith

  written-with-latch : (l : Line) (off byte : ℕ) (b : Bool) → uart_map.written_of (line_with front l) byte (uart_map.register_at off b) ≡ line_with front (uart_map.written_of l byte (uart_map.register_at off b))
  written-with-latch l off byte true = grind arith
  written-with-latch l off byte false = grind (arith, append_assoc)

  uart-word-with : (l : Line) (off : ℕ) → (uart_map.read (line_with front l) off).0 ≡ (uart_map.read l off).0
  uart-word-with l off = shown-with l off (dlab l)

  uart-read-with : (l : Line) (off : ℕ) → (uart_map.read (line_with front l) off).1 ≡ line_with front (uart_map.read l off).1
  uart-read-with l off = after-with-latch l off (dlab l)

  uart-written-with : (l : Line) (off byte : ℕ) → uart_map.written (line_with front l) off byte ≡ line_with front (uart_map.written l off byte)
  uart-written-with l off byte = written-with-latch l off byte (dlab l)

  region-read-with : (d : Devices) (r : Region) (off : ℕ) → region_read (devices_with front d) r off ≡ region_read d r off
  region-read-with d region_is.Finisher off = refl
  region-read-with d region_is.Rtc off = refl
  region-read-with d region_is.Clint off = refl
  region-read-with d region_is.Plic off = refl
  region-read-with d region_is.Uart off = ap Ok (uart-word-with d.uart off)

  register-read-with : (d : Devices) (r : Option Register) → register_read (devices_with front d) r ≡ register_read d r
  register-read-with d None = refl
  register-read-with d (Some r) = region-read-with d r.region r.offset

  load-with : (d : Devices) (at size : ℕ) → load (devices_with front d) at size ≡ load d at size
  unfolding load
  load-with d at size = ap (or_device (ram_load d.ram at size)) (register-read-with d (register_at at size))

  region-after-with : (d : Devices) (r : Region) (off : ℕ) → region_after_read (devices_with front d) r off ≡ devices_with front (region_after_read d r off)
  region-after-with d region_is.Finisher off = refl
  region-after-with d region_is.Rtc off = refl
  region-after-with d region_is.Clint off = refl
  region-after-with d region_is.Plic off = refl
  region-after-with d region_is.Uart off = ap (λ z. record d { uart = z }) (uart-read-with d.uart off)

  after-read-with : (d : Devices) (r : Option Register) → register_after_read (devices_with front d) r ≡ devices_with front (register_after_read d r)
  after-read-with d None = refl
  after-read-with d (Some r) = region-after-with d r.region r.offset

  loaded-with : (d : Devices) (at size : ℕ) → loaded (devices_with front d) at size ≡ devices_with front (loaded d at size)
  unfolding loaded
  loaded-with d at size = both (devices_with front) (lies_in d.ram at size) _ _ _ _ refl (after-read-with d (register_at at size))

  can-store-with : (d : Devices) (at size : ℕ) → can_store (devices_with front d) at size ≡ can_store d at size
  unfolding can_store
  can-store-with d at size = refl

  region-written-with : (d : Devices) (r : Region) (off value : ℕ) → region_written (devices_with front d) r off value ≡ devices_with front (region_written d r off value)
  region-written-with d region_is.Finisher off value = refl
  region-written-with d region_is.Rtc off value = refl
  region-written-with d region_is.Clint off value = refl
  region-written-with d region_is.Plic off value = refl
  region-written-with d region_is.Uart off value = ap (λ z. record d { uart = z }) (uart-written-with d.uart off value)

  after-write-with : (d : Devices) (r : Option Register) (value : ℕ) → register_written (devices_with front d) r value ≡ devices_with front (register_written d r value)
  after-write-with d None value = refl
  after-write-with d (Some r) value = region-written-with d r.region r.offset value

  stored-with : (d : Devices) (at size value : ℕ) → stored (devices_with front d) at size value ≡ devices_with front (stored d at size value)
  unfolding stored
  stored-with d at size value = both (devices_with front) (lies_in d.ram at size) _ _ _ _ refl (after-write-with d (register_at at size) value)

  levels-with : (d : Devices) → levels (devices_with front d) ≡ devices_with front (levels d)
  unfolding levels
  levels-with d = refl

  inputs-with : (d : Devices) → inputs (devices_with front d) ≡ inputs d
  unfolding inputs
  inputs-with d = refl

  pub devices-commute : Commutes answers (devices_with front)
  devices-commute = record { load = load-with; loaded = loaded-with; can_store = can-store-with; stored = stored-with; is_ram = λ d at. refl; inputs = inputs-with }

  -- ---- an attempt and a turn

  word-with : (h : Hart) (d : Devices) (w : ℕ) (i : Option Ins) → run_word h (devices_with front d) w i ≡ outcome_map (devices_with front) (run_word h d w i)
  word-with h d w None = refl
  word-with h d w (Some i) = meaning-natural answers (devices_with front) devices-commute h d i w

  fetched-with : (h : Hart) (d : Devices) (w : Option ℕ) → fetched h (devices_with front d) w ≡ outcome_map (devices_with front) (fetched h d w)
  fetched-with h d None = refl
  fetched-with h d (Some w) = word-with h d w (decoded w)

  pub attempt-with : (h : Hart) (d : Devices) → attempt h (devices_with front d) ≡ outcome_map (devices_with front) (attempt h d)
  unfolding attempt
  attempt-with h d = fetched-with h d (ram_load d.ram h.pc 4)

  settle-with : (g : State) (done : Done) (h : Hart) (d : Devices) → settle (with_taken front g) done h (devices_with front d) ≡ with_taken front (settle g done h d)
  settle-with g (Retired idle) h d = ap (λ z. record (settle g (Retired idle) h d) { devices = z }) (levels-with (record d { time = later d.time }))
  settle-with g (Trap cause value) h d = ap (λ z. record (settle g (Trap cause value) h d) { devices = z }) (levels-with (record d { time = later d.time }))
  settle-with g NeedClock h d = refl
  settle-with g NoMemory h d = refl

  turn-closed-with : (g : State) → turn_closed (with_taken front g) ≡ with_taken front (turn_closed g)
  unfolding turn_closed
  turn-closed-with g =
      let o = attempt g.hart g.devices in
      ap (λ z. settled (with_taken front g) z) (attempt-with g.hart g.devices) ∙ settle-with g o.done o.hart o.bus

  -- ---- closing

  wakes-with : (h : Hart) (d : Devices) → wakes h (devices_with front d) ≡ wakes h d
  unfolding inputs
  wakes-with h d = refl

  rests-with : (used : Bool) (g : State) (at : Option ℕ) → rests used (with_taken front g) at ≡ with_taken front (rests used g at)
  rests-with used g (Some at) = refl
  rests-with true g None = refl
  rests-with false g None = refl

  window-with : (w : Window) (g : State) → close_window w (with_taken front g) ≡ with_taken front (close_window w g)
  window-with window.Shut g = refl
  window-with (window.Slice used) g = refl
  window-with (window.Idle used) g =
      ap (λ z. cond z (awake (with_taken front g)) (rests used (with_taken front g) (deadline g.hart g.devices))) (wakes-with g.hart g.devices)
      ∙ both (with_taken front) (wakes g.hart g.devices) _ _ _ _ refl (rests-with used g (deadline g.hart g.devices))

  pub close-with : (g : State) → close (with_taken front g) ≡ with_taken front (close g)
  unfolding close
  close-with g = window-with g.control.window g

  pub turn-with : (g : State) → turn (with_taken front g) ≡ with_taken front (turn g)
  unfolding turn
  turn-with g = ap turn_closed (close-with g) ∙ turn-closed-with (close g)

  -- ---- what is due

  interrupt-with : (g : State) → interrupt_of (with_taken front g) ≡ interrupt_of g
  unfolding inputs
  interrupt-with g = refl

  clock-with : (g : State) → needs_clock (with_taken front g) ≡ needs_clock g
  unfolding needs_clock
  clock-with g = ap (λ o. is_need_clock o.done) (attempt-with g.hart g.devices)

  due-closed-with : (g : State) → due_closed (with_taken front g) ≡ due_closed g
  unfolding due_closed
  due-closed-with g =
      ap (λ z. due_by g.control g.devices.time.count g.devices.finisher false (is_some z) (needs_clock (with_taken front g))) (interrupt-with g)
      ∙ ap (λ z. due_by g.control g.devices.time.count g.devices.finisher false (is_some (interrupt_of g)) z) (clock-with g)

  pub due-with : (g : State) → due (with_taken front g) ≡ due g
  unfolding due
  due-with g = ap due_closed (close-with g) ∙ due-closed-with (close g)

  -- ---- events

  interrupts-with : (g : State) (o : Option ℕ) → takes_interrupt (with_taken front g) o ≡ map_taken front (takes_interrupt g o)
  interrupts-with g None = refl
  interrupts-with g (Some which) = refl

  takes-with : (d : Due) (e : Event) (g : State) → takes d e (with_taken front g) ≡ map_taken front (takes d e g)
  takes-with due_is.Exception event.Exception g = refl
  takes-with due_is.Interrupt event.Interrupt g = ap (takes_interrupt (with_taken front g)) (interrupt-with g) ∙ interrupts-with g (interrupt_of g)
  takes-with due_is.Idle (event.Checkpoint true) g = refl
  takes-with due_is.Slice (event.Checkpoint false) g = refl
  takes-with due_is.Clock (event.Clock value) g = refl
  takes-with (due_is.End r c) (event.End reason code) g = both (map_taken front) (r == reason && c == code) _ _ _ _ refl refl
  takes-with d e g = refl

  now-takes-with : (e : Event) (g : State) → takes (due (with_taken front g)) e (close (with_taken front g)) ≡ map_taken front (takes (due g) e (close g))
  now-takes-with e g =
      ap (λ z. takes z e (close (with_taken front g))) (due-with g) ∙ ap (takes (due g) e) (close-with g) ∙ takes-with (due g) e (close g)

  window-event-with : (g h : State) → in_window (with_taken front g) (with_taken front h) ≡ map_taken front (in_window g h)
  window-event-with g h = both (map_taken front) (takes_input g.control) _ _ _ _ refl refl

  end-with : (g : State) (reason code : ℕ) → takes_end (with_taken front g) reason code ≡ map_taken front (takes_end g reason code)
  end-with g reason code =
      both (map_taken front) (reason == 3) _ _ _ _ (window-event-with g (ended g reason code)) (now-takes-with (event.End reason code) g)

  taken-with : (e : Event) (g : State) → taken (with_taken front g) e ≡ map_taken front (taken g e)
  unfolding taken
  taken-with (event.CharRead bytes) g = both (map_taken front) (takes_input g.control) _ _ _ _ refl refl
  taken-with (event.Net packet) g = both (map_taken front) (takes_input g.control) _ _ _ _ refl refl
  taken-with (event.Block id ok) g = refl
  taken-with (event.End reason code) g = end-with g reason code
  taken-with e g = now-takes-with e g

  levels-map-with : (o : Option State) → with_levels (map_taken front o) ≡ map_taken front (with_levels o)
  levels-map-with None = refl
  levels-map-with (Some g) = ap (λ z. Some (record g { devices = z })) (levels-with g.devices)

  pub accept-with : (e : Event) (g : State) → accept (with_taken front g) e ≡ map_taken front (accept g e)
  unfolding accept
  accept-with e g = ap with_levels (taken-with e g) ∙ levels-map-with (taken g e)

  -- ---- runs

  pub after-with : (n : ℕ) (g : State) → after n (with_taken front g) ≡ with_taken front (after n g)
  unfolding after
  after-with zero g = refl
  after-with (suc n) g =
      ap (λ z. cond (is_run z) (after n (turn (with_taken front g))) (with_taken front g)) (due-with g)
      ∙ both (with_taken front) (is_run (due g)) _ _ _ _ (ap (after n) (turn-with g) ∙ after-with n (turn g)) refl

  pub ran-with : (n : ℕ) (g : State) → ran n (with_taken front g) ≡ ran n g
  unfolding ran
  ran-with zero g = refl
  ran-with (suc n) g =
      ap (λ z. cond (is_run z) (suc (ran n (turn (with_taken front g)))) zero) (due-with g)
      ∙ ap (λ z. cond (is_run (due g)) (suc z) zero) (ap (ran n) (turn-with g) ∙ ran-with n (turn g))

  pub step-with : (e : Event) (g : State) → step (with_taken front g) e ≡ map_taken front (step g e)
  unfolding step
  step-with (event.Instruction n) g =
      ap (λ z. cond (z == n && not (is_run (due (after n (with_taken front g))))) (Some (after n (with_taken front g))) None) (ran-with n g)
      ∙ ap (λ z. cond (ran n g == n && not (is_run (due z))) (Some z) None) (after-with n g)
      ∙ ap (λ z. cond (ran n g == n && not (is_run z)) (Some (with_taken front (after n g))) None) (due-with (after n g))
      ∙ both (map_taken front) (ran n g == n && not (is_run (due (after n g)))) _ _ _ _ refl refl
  step-with e g = accept-with e g

  then-with : (next : State → Option State) → ((g : State) → next (with_taken front g) ≡ map_taken front (next g)) → (o : Option State) → then_run (map_taken front o) next ≡ map_taken front (then_run o next)
  then-with next h None = refl
  then-with next h (Some g) = h g

  pub run-with : (es : List Event) (g : State) → run (with_taken front g) es ≡ map_taken front (run g es)
  unfolding run
  run-with [] g = refl
  run-with (e ∷ es) g = ap (λ z. then_run z (λ h. run h es)) (step-with e g) ∙ then-with (λ h. run h es) (λ h. run-with es h) (step g e)

  here-with : (next : State → State) → ((g : State) → next (with_taken front g) ≡ with_taken front (next g)) → (g : State) (o : Option State) → or_here (with_taken front g) (map_taken front o) next ≡ with_taken front (or_here g o next)
  here-with next h g None = refl
  here-with next h g (Some k) = h k

  pub state-at-with : (es : List Event) (g : State) (n : ℕ) → state_at (with_taken front g) es n ≡ with_taken front (state_at g es n)
  unfolding state_at
  state-at-with [] g n = after-with n g
  state-at-with (e ∷ es) g n =
      both (with_taken front) (nat_le (turns_of e) n) _ _ _ _
      (ap (λ z. or_here (with_taken front g) z (λ h. state_at h es (n - turns_of e))) (step-with e g)
      ∙ here-with (λ h. state_at h es (n - turns_of e)) (λ h. state-at-with es h (n - turns_of e)) g (step g e))
      (after-with n g)
