-- How much a recording has left: it falls with each round.
use Rattle.std.specs.Prelude.{ℕ, ◌≤◌, ◌+◌, ◌-◌, ◌*◌, ◌^◌, Bool, true, false, ◌&&◌, ◌==◌, is_none, if◌then◌else◌}
use Rattle.rv_csr.specs.Traps.{takes_interrupts}
use Rattle.board.specs.declared.control.Window.{Window}
use Rattle.board.specs.declared.control.Window.TheVariants.{Idle}
use Rattle.board.specs.State.{State}
use Rattle.io_workers.specs.Intake.{Progress}
use Rattle.rr_engine.specs.Feed.{Feed, Source}
use Rattle.rr_engine.specs.Stand.{Stand}

abbrev pub bit : Bool → ℕ
bit b = if b then 1 else 0

-- the window isn't an idle one without an event
abbrev pub is_restless : Window → Bool
is_restless (Idle false) = false
is_restless window = true

-- The turns of the budget, of which each weighs more than all marks that it may set; and the marks
-- of which each event clears one: a trap's, an interrupt that would be taken, a checkpoint's, and
-- so on.
unfoldable pub work : State → ℕ
work g =
    8 * (g.control.budget - g.devices.time.count)
    + bit g.control.trapped
    + bit (takes_interrupts g.hart.csrs g.hart.mode)
    + 2 * bit (g.control.idle && is_restless g.control.window)
    + bit (g.control.since == g.control.slice)
    + bit (is_none g.devices.rtc.in_hand)
    + bit (is_none g.control.ended)

-- the same with the input that may still come: a byte weighs more than the marks that it sets
unfoldable pub work_left : State → Progress → ℕ
work_left g read = work g + 4 * (2 ^ 40 - read.count)

-- that falls by so much, where one is given what a machine has left before and after
abbrev pub FallsBy : ℕ → Feed → Feed → ℕ → ℕ → Type 0
FallsBy k (Source i) (Source j) before after =
    (after + 4 * (2 ^ 40 - j.progress.count)) + k ≤ before + 4 * (2 ^ 40 - i.progress.count)

-- a recording has less left by so much
abbrev pub Falls : ℕ → Stand → Stand → Type 0
Falls k p q = FallsBy k p.feed q.feed (work p.machine) (work q.machine)
