-- What a runner makes of events.
use Rattle.std.specs.Prelude.{◌≡◌, ◌<◌, ℕ, zero, suc, ◌+◌, ◌-◌, ◌^◌, min, List, take, Some, None, IsSome, is_some, true, false, Result, Ok, Err, if◌then◌else◌}
use Rattle.std.specs.declared.alloc.AllocError.{AllocError}
use Rattle.std.specs.declared.option.Option.{Option}
use Rattle.event_log.specs.declared.event.Event.{Event}
use Rattle.event_log.specs.declared.event.Event.TheVariants as event
use Rattle.board.specs.State.{State}
use Rattle.board.specs.Accept.{takes_memory}
use Rattle.board.specs.Due.{due}
use Rattle.board.specs.Turn.{turn_wants_memory}
use Rattle.board.specs.Runs.{is_run, after, ran, step, due_at}
use Rattle.board.specs.declared.due.Due.{Due}
use Rattle.log_order.specs.declared.refusal.Refusal.{Refusal}
use Rattle.log_order.specs.declared.refusal.Found.{Found}
use Rattle.log_order.specs.declared.refusal.Found.TheVariants as found
use Rattle.log_order.specs.declared.runner.FeedError.{FeedError}
use Rattle.log_order.specs.declared.runner.FeedError.TheVariants as error
use Rattle.log_order.specs.declared.runner.Refused.{Refused}
use Rattle.log_order.specs.Order.{stands}

-- where a runner stands
pub record Progress : Type 0 where
  -- the machine, how many events it accepted (a u64 holds no more than 2^64 - 1), the console bytes
  -- of these that weren't given yet, and the first wrong event, once one came
  pub machine : State
  pub index : ℕ
  pub out : List ℕ
  pub refusal : Option Refusal

-- the console bytes of accepted events: after a refusal those that were there before it
abbrev pub accepted_out_of : List ℕ → Option Refused → List ℕ
accepted_out_of out None = out
accepted_out_of out (Some refused) = take refused.shown out

-- a runner that has accepted nothing yet
abbrev pub starting : State → Progress
starting g = record { machine = g; index = 0; out = g.devices.uart.out; refusal = None }

-- one event more was accepted, and led here
abbrev pub accepted : Progress → State → Progress
accepted p g = record {
  machine = g;
  index = min (p.index + 1) (2 ^ 64 - 1);
  out = g.devices.uart.out;
  refusal = None;
}

-- what stands at the offset is refused, and the machine stands here
abbrev pub refused : Progress → State → ℕ → Due → Found → Progress
refused p g offset d f = record p {
  machine = g;
  refusal = Some (record { index = p.index; offset = offset; due = d; found = f });
}

-- what an event is found as: after END it is more bytes
abbrev pub found_as : State → Event → Found
found_as g e = if is_some g.control.ended then found.MoreBytes else found.Event e

-- memory was refused: before the last of an INSTRUCTION's turns, where the next one stores, or where
-- console bytes came
abbrev pub Halts : State → Event → State → Type 0
Halts g (event.Instruction n) h =
    (made : ℕ) × (made < n) × (h ≡ after made g) × (made ≡ ran made g)
    × (turn_wants_memory h ≡ true)
Halts g e h = (takes_memory e ≡ true) × IsSome (step g e) × (h ≡ g)

-- what becomes of an event, where none was refused before
abbrev pub FeedsNext : Progress → Event → ℕ → Result Unit FeedError → Progress → Type 0
FeedsNext p e offset (Ok done) q = (h : State) × (step p.machine e ≡ Some h) × (q ≡ accepted p h)
FeedsNext p e offset (Err error.Refused) q =
    (step p.machine e ≡ None)
    × (q ≡ refused p (stands p.machine e) offset (due_at p.machine e) (found_as p.machine e))
FeedsNext p e offset (Err error.NoMemory) q =
    Halts p.machine e q.machine × (q.index ≡ p.index) × (q.refusal ≡ None)

-- once an event was refused, so is each other, and all stays
abbrev pub FeedsAfter :
    Option Refusal → Progress → Event → ℕ → Result Unit FeedError → Progress → Type 0
FeedsAfter None p e offset result q = FeedsNext p e offset result q
FeedsAfter (Some refusal) p e offset result q = (result ≡ Err error.Refused) × (q ≡ p)

-- what becomes of an event at an offset of the log
abbrev pub Feeds : Progress → Event → ℕ → Result Unit FeedError → Progress → Type 0
Feeds p e offset result q = FeedsAfter p.refusal p e offset result q

-- the runner after what stands at an offset was refused, where none was before
abbrev pub refused_first : Option Refusal → Progress → ℕ → Found → Progress
refused_first None p offset f = refused p p.machine offset (due p.machine) f
refused_first (Some refusal) p offset f = p

-- the steps rose by the turns that were made
abbrev pub CountsTurns : Progress → Progress → ℕ → ℕ → Type 0
CountsTurns p q steps steps' =
    steps' + p.machine.devices.time.count ≡ steps + q.machine.devices.time.count

-- As many turns as run stand for an INSTRUCTION, and none for no event; or memory was refused where
-- the next turn stores, and the turns before stay made.
abbrev pub Advances : Progress → Result ℕ AllocError → Progress → Type 0
Advances p (Ok zero) q = (is_run (due p.machine) ≡ false) × (q ≡ p)
Advances p (Ok (suc n)) q =
    (step p.machine (event.Instruction (suc n)) ≡ Some q.machine) × (q ≡ accepted p q.machine)
Advances p (Err error) q =
    ((made : ℕ) × (q.machine ≡ after made p.machine) × (made ≡ ran made p.machine)
    × (turn_wants_memory q.machine ≡ true))
    × (q.index ≡ p.index) × (q.refusal ≡ None)
