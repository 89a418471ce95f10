-- A machine that stands somewhere in a script.
use Rattle.std.specs.Prelude.{◌≡◌, ◌≤◌, ◌<◌, ℕ, ◌+◌, ◌-◌, List, [], ◌∷◌, ◌++◌, length, drop}
use Rattle.std.specs.List.{AllByRecursion}
use Rattle.event_log.specs.declared.event.Event.{Event}
use Rattle.event_log.specs.declared.event.Event.TheVariants as event
use Rattle.event_log.specs.Spelling.{texts, IsEvent}
use Rattle.board.specs.Runs.{run, state_at}
use Rattle.reverse_seek.specs.declared.mark.Mark.{Mark}
use Rattle.reverse_seek.specs.Script.{Script}

-- what is left of events after so many turns of the first
abbrev pub rest_of : ℕ → List Event → List Event
rest_of done [] = []
rest_of done (event.Instruction n ∷ es) = event.Instruction (n - done) ∷ es
rest_of done (e ∷ es) = e ∷ es

-- turns were made of an INSTRUCTION alone, and not all
abbrev pub Begun : ℕ → List Event → Type 0
Begun done [] = done ≡ 0
Begun done (event.Instruction n ∷ es) = done < n
Begun done (e ∷ es) = done ≡ 0

-- these events are left of the script, and the mark's machine leads where the start leads: to the
-- same end, and to the same state at each count from here on
pub record Follows (s : Script) (mark : Mark) (left : List Event) : Type 0 where
  pub text : drop mark.place s.log ≡ texts left ++ drop s.end s.log
  pub place : mark.place + length (texts left) ≡ s.end
  pub each : AllByRecursion IsEvent left
  pub begun : Begun mark.done left
  pub ends : run mark.machine (rest_of mark.done left) ≡ run s.start s.events
  pub ahead : (n : ℕ) → mark.machine.devices.time.count ≤ n
      → state_at s.start s.events n
      ≡ state_at mark.machine (rest_of mark.done left) (n - mark.machine.devices.time.count)

-- the mark stands in the script
abbrev pub Stands : Script → Mark → Type 0
Stands s mark = (left : List Event) × Follows s mark left

-- the mark stands at a count, after all events before the next turn
pub record StandsAt (s : Script) (n : ℕ) (mark : Mark) : Type 0 where
  pub stands : Stands s mark
  pub count : mark.machine.devices.time.count ≡ n
  pub state : mark.machine ≡ state_at s.start s.events n
