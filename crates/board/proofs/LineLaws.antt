-- The levels at the PLIC are the devices' lines.
use Rattle.std.proofs.Common.{◌≡◌, ℕ, zero, suc, ◌-◌, Bool, true, false, List, [], ◌∷◌, refl, ap}
use Rattle.std.specs.Prelude.{◌==◌, ◌&&◌, not, nat_le, IfSome, Option, Some, None}
use Rattle.rv_exec.specs.declared.done.Done.{Done}
use Rattle.rv_exec.specs.declared.done.Done.TheVariants.{Retired, Trap, NeedClock, NoMemory}
use Rattle.rv_exec.specs.declared.hart.Hart.{Hart}
use Rattle.event_log.specs.declared.event.Event.{Event}
use Rattle.event_log.specs.declared.event.Event.TheVariants as event
use Rattle.elf_load.specs.declared.pieces.Loaded.{Loaded}
use Rattle.system_bus.specs.declared.devices.Devices.{Devices}
use Rattle.system_bus.specs.Lines.{levels}
use Rattle.system_bus.specs.Time.{Time, later}
use Rattle.board.specs.declared.config.Config.{Config}
use Rattle.board.specs.declared.control.Window.{Window}
use Rattle.board.specs.declared.control.Window.TheVariants as window
use Rattle.board.specs.State.{State}
use Rattle.board.specs.Reset.{reset}
use Rattle.board.specs.Close.{wakes, deadline, rests, close_window, close}
use Rattle.board.specs.Turn.{attempt, settle, turn_closed, turn}
use Rattle.board.specs.Due.{due}
use Rattle.board.specs.Accept.{with_levels, taken, accept}
use Rattle.board.specs.Runs.{is_run, after, ran, step, then_run, run, turns_of, or_here, state_at}
use Rattle.board.specs.Laws.{ShowsLines}
use Rattle.board.proofs.ClockLaws.{if-state, if-some}
use Rattle.board.proofs.Settled.{levels_again}

pub reset-shows : (config : Config) (firmware : Loaded) → ShowsLines (reset config firmware)
unfolding reset levels
reset-shows config firmware = refl

-- ---- closing and turns

timed : (d : Devices) (t : Time) → levels d ≡ d → levels (record d { time = t }) ≡ record d { time = t }
unfolding levels
timed d t e = ap (λ (z : Devices). record z { time = t }) e

rests-shows : (used : Bool) (g : State) (o : Option ℕ) → ShowsLines g → ShowsLines (rests used g o)
rests-shows used g (Some at) e = timed g.devices _ e
rests-shows true g None e = e
rests-shows false g None e = e

window-shows : (w : Window) (g : State) → ShowsLines g → ShowsLines (close_window w g)
window-shows window.Shut g e = e
window-shows (window.Slice used) g e = e
window-shows (window.Idle used) g e =
    if-state ShowsLines (wakes g.hart g.devices) _ _ e (rests-shows used g (deadline g.hart g.devices) e)

close-shows : (g : State) → ShowsLines g → ShowsLines (close g)
unfolding close
close-shows g e = window-shows g.control.window g e

settle-shows : (g : State) (done : Done) (h : Hart) (d : Devices) → ShowsLines g → ShowsLines (settle g done h d)
settle-shows g (Retired idle) h d e = levels_again (record d { time = later d.time })
settle-shows g (Trap cause value) h d e = levels_again (record d { time = later d.time })
settle-shows g NeedClock h d e = e
settle-shows g NoMemory h d e = e

closed-shows : (g : State) → ShowsLines g → ShowsLines (turn_closed g)
unfolding turn_closed
closed-shows g e = let o = attempt g.hart g.devices in settle-shows g o.done o.hart o.bus e

pub turn-shows : (g : State) → ShowsLines g → ShowsLines (turn g)
unfolding turn
turn-shows g e = closed-shows (close g) (close-shows g e)

after-shows : (n : ℕ) (g : State) → ShowsLines g → ShowsLines (after n g)
unfolding after
after-shows zero g e = e
after-shows (suc n) g e = if-state ShowsLines (is_run (due g)) _ _ (after-shows n (turn g) (turn-shows g e)) e

-- ---- events

with-levels-shows : (o : Option State) → IfSome (with_levels o) ShowsLines
with-levels-shows None = tt
with-levels-shows (Some h) = levels_again h.devices

accept-shows : (e : Event) (g : State) → IfSome (accept g e) ShowsLines
unfolding accept
accept-shows e g = with-levels-shows (taken g e)

step-shows : (e : Event) (g : State) → ShowsLines g → IfSome (step g e) ShowsLines
unfolding step
step-shows (event.Instruction n) g s = if-some ShowsLines (ran n g == n && not (is_run (due (after n g)))) _ (λ e. after-shows n g s)
step-shows e g s = accept-shows e g

next-shows : (o : Option State) (next : State → Option State) → IfSome o ShowsLines → ((h : State) → ShowsLines h → IfSome (next h) ShowsLines)
    → IfSome (then_run o next) ShowsLines
next-shows None next p q = tt
next-shows (Some h) next p q = q h p

pub run-shows : (es : List Event) (g : State) → ShowsLines g → IfSome (run g es) ShowsLines
unfolding run
run-shows [] g s = s
run-shows (e ∷ es) g s = next-shows (step g e) (λ h. run h es) (step-shows e g s) (λ h. run-shows es h)

here-shows : (g : State) (o : Option State) (next : State → State) → ShowsLines g → IfSome o ShowsLines → ((h : State) → ShowsLines h → ShowsLines (next h))
    → ShowsLines (or_here g o next)
here-shows g None next s p q = s
here-shows g (Some h) next s p q = q h p

pub at-shows : (es : List Event) (g : State) (n : ℕ) → ShowsLines g → ShowsLines (state_at g es n)
unfolding state_at
at-shows [] g n s = after-shows n g s
at-shows (e ∷ es) g n s =
    if-state ShowsLines (nat_le (turns_of e) n) _ _
    (here-shows g (step g e) (λ h. state_at h es (n - turns_of e)) s (step-shows e g s) (λ h. at-shows es h (n - turns_of e)))
    (after-shows n g s)
