-- What the machine enters by itself.
use Rattle.std.specs.Prelude.{◌≡◌, ◌⊎◌, ◌≤◌, ℕ, false, List, [], Some, None, Result, Ok, Err}
use Rattle.std.specs.declared.option.Option.{Option}
use Rattle.event_log.specs.declared.event.Event.{Event}
use Rattle.event_log.specs.declared.event.Event.TheVariants as event
use Rattle.event_log.specs.Spelling.{text, IsEvent}
use Rattle.board.specs.State.{State}
use Rattle.board.specs.Runs.{step}
use Rattle.board.specs.declared.control.Ending.{Ending}
use Rattle.board.specs.declared.control.Window.TheVariants as window
use Rattle.rr_engine.specs.declared.ends.Break.{Break}
use Rattle.rr_engine.specs.declared.ends.Break.TheVariants.{NoMemory}
use Rattle.rr_engine.specs.Stand.{Stand}
use Rattle.rr_engine.specs.Feed.{IsOver, IsSound}
use Rattle.rr_engine.specs.Outputs.{Notes}

-- an event that the machine accepts now
pub record IsOwed (g : State) (e : Event) : Type 0 where
  pub spelled : IsEvent e
  pub after : State
  pub steps : step g e ≡ Some after

-- The machine took the event and the log got it, as far as its sink took it; or memory was refused
-- before, and all is as it was.
abbrev pub Enters : Stand → Stand → Event → Result (Unit {0}) Break → Type 0
Enters p q e result =
    ((result ≡ Err NoMemory) × (q ≡ p))
    ⊎ ((step p.machine e ≡ Some q.machine)
    × Notes (record p { machine = q.machine }) q (text e) result)

-- the run goes on; or it ended by the guest, for want of a wake or at its budget, with all console
-- bytes taken
abbrev pub HasOwnEnding : Option Ending → List ℕ → Type 0
HasOwnEnding None out = Unit {0}
HasOwnEnding (Some ending) out =
    (ending.reason ≤ 2) × (1 ≤ ending.reason → ending.code ≡ 0) × (out ≡ [])

abbrev pub EndsByItself : State → Type 0
EndsByItself g = HasOwnEnding g.control.ended g.devices.uart.out

-- A recording that may go on, or ended by itself. An idle window that had no event stands only
-- where the console has all bytes and no input is left to come, and so does an end for want of a
-- wake.
pub record Rests (p : Stand) : Type 0 where
  pub own : EndsByItself p.machine
  pub silent : p.machine.control.window ≡ window.Idle false → p.machine.devices.uart.out ≡ []
  pub idle : p.machine.control.window ≡ window.Idle false → IsOver p.feed
  pub wakeless : (code : ℕ)
      → p.machine.control.ended ≡ Some (record { reason = 1; code = code }) → IsOver p.feed
  pub sound : IsSound p.feed

-- an event of the machine's own, without input and without a turn
abbrev pub IsOwn : Event → Type 0
IsOwn (event.Instruction count) = ⊥
IsOwn (event.CharRead bytes) = ⊥
IsOwn (event.Block id ok) = ⊥
IsOwn (event.Net packet) = ⊥
IsOwn other = Unit {0}

-- an END that the machine may enter by itself
abbrev pub IsOwnEnd : State → Event → Type 0
IsOwnEnd g (event.End reason code) =
    (reason ≤ 2) × (1 ≤ reason → code ≡ 0) × (g.devices.uart.out ≡ [])
IsOwnEnd g other = Unit {0}
