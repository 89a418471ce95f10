-- What a replay makes of a recording's log.
use Rattle.std.specs.Prelude.{◌≡◌, ℕ, ◌≤◌, ◌+◌, ◌^◌, List, [], ◌++◌, length, Some}
use Rattle.outside.specs.Causes.{Rose}
use Rattle.outside.specs.Told.{Takes}
use Rattle.event_log.specs.Reading.{ahead}
use Rattle.rr_engine.specs.declared.replaying.ReplayEnd.{ReplayEnd}
use Rattle.rr_engine.specs.declared.replaying.ReplayEnd.TheVariants.{End, ConsoleWrite, LogRead, LogTooLong, Refused, NoMemory}
use Rattle.rr_engine.specs.Stand.{Devices}
use Rattle.rr_engine.specs.Replaying.{Played}

-- The replay's source holds what the recording's sink took behind the head, of which no byte lies
-- past the limit of 2^40.
pub record ReadsBack (head : List ℕ) (old new : Devices) (p : Played) : Type 0 where
  pub behind : List ℕ
  pub empty : old.log ≡ Some []
  pub log : new.log ≡ Some (head ++ behind)
  pub held : ahead p.log ≡ Some behind
  pub fits : 98 + length behind ≤ 2 ^ 40

-- the console of the recording and that of the replay took the same bytes
abbrev pub TakeAlike : Devices → Devices → Played → Played → Type 0
TakeAlike old new p q =
    (bytes : List ℕ) × Takes old.console new.console bytes × Takes p.console q.console bytes

-- The replay ends by the recording's END, with the same console bytes; or a device of its own failed,
-- or memory was refused. It refuses nothing.
abbrev pub EndsAlike : ℕ → ℕ → Devices → Devices → Played → Played → ReplayEnd → Type 0
EndsAlike reason code old new p q (End r c accepted turns) =
    (r ≡ reason) × (c ≡ code) × TakeAlike old new p q
EndsAlike reason code old new p q ConsoleWrite = Rose p.console_faults q.console_faults
EndsAlike reason code old new p q LogRead = Rose p.log.faults q.log.faults
EndsAlike reason code old new p q LogTooLong = ⊥
EndsAlike reason code old new p q (Refused r) = ⊥
EndsAlike reason code old new p q NoMemory = Unit {0}
