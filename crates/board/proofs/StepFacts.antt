-- A step of a state whose window is closed, from what its attempt came to.
use Rattle.std.proofs.Common.{◌≡◌, ◌≢◌, true, false, refl, sym, ap, ◌∙◌}
use Rattle.std.specs.Prelude.{is_some}
use Rattle.rv_exec.specs.declared.done.Done.{Done}
use Rattle.rv_exec.specs.declared.done.Done.TheVariants.{Retired, Trap, NeedClock, NoMemory}
use Rattle.rv_exec.specs.declared.hart.Hart.{Hart}
use Rattle.rv_exec.specs.Rows.{Outcome, Reaches, is_need_clock}
use Rattle.system_bus.specs.declared.devices.Devices.{Devices}
use Rattle.board.specs.declared.due.Due.TheVariants as due_is
use Rattle.board.specs.State.{State}
use Rattle.board.specs.Turn.{attempt, settle, settled, turn_closed}
use Rattle.board.specs.Due.{due_closed, interrupt_of, needs_clock}
use Rattle.board.specs.Runs.{is_run}
use Rattle.board.specs.Sprint.{is_clear}
use Rattle.board.proofs.DueFacts.{needing, is_run_run}

pub stops : (g : State) → (attempt g.hart g.devices).done ≡ NeedClock → is_run (due_closed g) ≡ false
unfolding due_closed needs_clock
stops g e = rw e (needing g.control g.devices.time.count g.devices.finisher false (is_some (interrupt_of g)))

no-clock : (done : Done) → done ≢ NeedClock → is_need_clock done ≡ false
no-clock (Retired idle) n = refl
no-clock (Trap cause value) n = refl
no-clock NeedClock n = absurd (n refl)
no-clock NoMemory n = refl

pub turns : (g : State) (done : Done) → done ≢ NeedClock → (attempt g.hart g.devices).done ≡ done → is_clear g ≡ true → due_closed g ≡ due_is.Run
unfolding due_closed needs_clock
turns g done n e c = rw e (rw (no-clock done n) (is_run_run _ c))

settle-same : (g : State) (done : Done) (h : Hart) (d : Devices) → done ≢ NeedClock → done ≢ NoMemory
    → settle (record { hart = h; devices = d; control = g.control }) done h d ≡ settle g done h d
settle-same g (Retired idle) h d n m = refl
settle-same g (Trap cause value) h d n m = refl
settle-same g NeedClock h d n m = absurd (n refl)
settle-same g NoMemory h d n m = absurd (m refl)

settled-reached : (g : State) (o : Outcome Devices) (done : Done) (h : Hart) (d : Devices) → Reaches o done h d → settle g done h d ≡ settled g o
settled-reached g o done h d r =
    ap (λ z. settle g z h d) (sym r.0) ∙ ap (λ z. settle g o.done z d) (sym r.1) ∙ ap (λ z. settle g o.done o.hart z) (sym r.2)

pub turned-is : (g : State) (done : Done) (h : Hart) (d : Devices) → done ≢ NeedClock → done ≢ NoMemory → Reaches (attempt g.hart g.devices) done h d
    → settle (record { hart = h; devices = d; control = g.control }) done h d ≡ turn_closed g
unfolding turn_closed
turned-is g done h d n m r = settle-same g done h d n m ∙ settled-reached g (attempt g.hart g.devices) done h d r
