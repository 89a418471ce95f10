-- Marks that are kept on the one run of a log.
use Rattle.std.specs.Prelude.{◌≡◌, ◌⊎◌, ℕ, ◌+◌, List, [], ◌∷◌, ◌++◌, length, drop}
use Rattle.std.specs.List.{AllByRecursion}
use Rattle.event_log.specs.declared.event.Event.{Event}
use Rattle.event_log.specs.Spelling.{texts, IsEvent}
use Rattle.board.specs.State.{State}
use Rattle.log_order.specs.Order.{Accepted}
use Rattle.reverse_seek.specs.declared.mark.Mark.{Mark}
use Rattle.reverse_seek.specs.Script.{first_place}

-- a mark before the event at a place
abbrev pub mark_at : State → ℕ → Mark
mark_at g place = record { machine = g; place = place; done = 0 }

-- no mark more is kept, or the one of this machine before the event at the place
abbrev pub Passes : State → ℕ → List Mark → List Mark → Type 0
Passes g place old new = (new ≡ old) ⊎ (new ≡ old ++ mark_at g place ∷ [])

-- a mark before an event of the accepted part, which goes on from there to an end: the events before
-- it are accepted and lead to its machine, and those behind it are spelled up to the end
pub record LiesBefore (log : List ℕ) (g : State) (end : ℕ) (mark : Mark) : Type 0 where
  pub before : List Event
  pub behind : List Event
  pub to : Accepted (drop first_place log) g before (drop mark.place log) mark.machine
  pub text : drop mark.place log ≡ texts behind ++ drop end log
  pub each : AllByRecursion IsEvent behind
  pub place : mark.place ≡ first_place + length (texts before)
  pub ends : mark.place + length (texts behind) ≡ end
  pub done : mark.done ≡ 0

-- all of these marks do
abbrev pub AllLie : List ℕ → State → ℕ → List Mark → Type 0
AllLie log g end marks = AllByRecursion (LiesBefore log g end) marks
