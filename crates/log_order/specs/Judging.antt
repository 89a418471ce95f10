-- What becomes of a log.
use Rattle.std.specs.Prelude.{◌≡◌, ◌⊎◌, ℕ, List, ◌++◌, drop, Some, None, Result, Ok, Err}
use Rattle.std.specs.declared.option.Option.{Option}
use Rattle.event_log.specs.declared.event.Event.{Event}
use Rattle.event_log.specs.Log.{Stands, AsksMemory}
use Rattle.event_log.specs.Spelling.{text, IsEvent}
use Rattle.board.specs.State.{State}
use Rattle.board.specs.Runs.{step}
use Rattle.board.specs.declared.due.Due.{Due}
use Rattle.log_order.specs.declared.refusal.Refusal.{Refusal}
use Rattle.log_order.specs.declared.refusal.Found.{Found}
use Rattle.log_order.specs.declared.runner.FeedError.{FeedError}
use Rattle.log_order.specs.declared.runner.FeedError.TheVariants as error
use Rattle.log_order.specs.declared.log.RunLog.{RunLog}
use Rattle.log_order.specs.Order.{Accepted, IsWrong, IsFirstWrong, IsWhole}
use Rattle.log_order.specs.Feeding.{Progress, accepted, refused, Halts}

-- the runner accepted all of the bytes
pub record AcceptsWhole (bytes : List ℕ) (g : State) (q : Progress) : Type 0 where
  pub whole : IsWhole bytes g q.machine
  pub out : q.out ≡ q.machine.devices.uart.out
  pub unrefused : q.refusal ≡ None

-- the runner refused the first wrong place of the bytes, of which the first has this offset; the
-- console bytes are those of the accepted part
pub record RefusesFirst (bytes : List ℕ) (at : ℕ) (g : State) (q : Progress) : Type 0 where
  pub refusal : Refusal
  pub is : q.refusal ≡ Some refusal
  pub mid : State
  pub wrong : IsFirstWrong bytes at g refusal mid q.machine
  pub out : q.out ≡ mid.devices.uart.out

-- an event stands at the front of the rest for which memory is asked: by its reader; or by the
-- machine that takes it, and then stands here
abbrev pub WantsMemory : State → List ℕ → State → Type 0
WantsMemory g rest h =
    AsksMemory rest
    ⊎ ((e : Event) × (more : List ℕ) × IsEvent e × (rest ≡ text e ++ more) × Halts g e h)

-- memory was refused where it was asked, behind a part that the machine accepts
pub record RunsOut (bytes : List ℕ) (g : State) (q : Progress) : Type 0 where
  pub unrefused : q.refusal ≡ None
  pub events : List Event
  pub rest : List ℕ
  pub mid : State
  pub accepted : Accepted bytes g events rest mid
  pub wants : WantsMemory mid rest q.machine

-- the bytes were accepted whole, or refused at their first wrong place, or memory was refused
abbrev pub Judges : List ℕ → ℕ → State → Option FeedError → Progress → Type 0
Judges bytes at g None q = AcceptsWhole bytes g q
Judges bytes at g (Some error.Refused) q = RefusesFirst bytes at g q
Judges bytes at g (Some error.NoMemory) q = RunsOut bytes g q

-- the same of the runner and the answer together
abbrev pub RunsLog : List ℕ → ℕ → State → RunLog → Type 0
RunsLog bytes at g result = Judges bytes at g result.end result.runner

-- where the run of a log leads that ended here: the runner stands there and has its console bytes,
-- and nothing was refused; or memory was
abbrev pub ComesTo : State → Option FeedError → Progress → Type 0
ComesTo last None q =
    (q.machine ≡ last) × (q.out ≡ last.devices.uart.out) × (q.refusal ≡ None)
ComesTo last (Some error.Refused) q = ⊥
ComesTo last (Some error.NoMemory) q = q.refusal ≡ None

-- the event at a place is accepted, and what follows stands at the next place; or it is wrong, or
-- memory is refused
abbrev pub Follows : List ℕ → ℕ → Progress → Result ℕ FeedError → Progress → Type 0
Follows bytes place p (Ok next) q =
    (e : Event) × (h : State) × Stands bytes place e next × (step p.machine e ≡ Some h)
    × (q ≡ accepted p h)
Follows bytes place p (Err error.Refused) q =
    (found : Found) × (due : Due) × (last : State)
    × IsWrong p.machine (drop place bytes) found due last × (q ≡ refused p last place due found)
Follows bytes place p (Err error.NoMemory) q =
    (q.refusal ≡ None) × WantsMemory p.machine (drop place bytes) q.machine
