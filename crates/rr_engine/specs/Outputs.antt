-- What the log and the console take of a recording.
use Rattle.std.specs.Prelude.{◌≡◌, ◌≢◌, List, ℕ, [], ◌++◌, false, Result, Ok, Err}
use Rattle.outside.specs.Causes.{Rose}
use Rattle.outside.specs.Told.{Takes, TakesFront}
use Rattle.event_log.specs.Writing.{Writer}
use Rattle.event_log.specs.declared.stream_error.StreamError.{StreamError}
use Rattle.event_log.specs.declared.stream_error.StreamError.TheVariants as stream
use Rattle.board.specs.Taken.{without_out}
use Rattle.rr_engine.specs.declared.ends.Break.{Break}
use Rattle.rr_engine.specs.declared.ends.Break.TheVariants.{ConsoleRead, ConsoleWrite, LogWrite, NoMemory}
use Rattle.rr_engine.specs.Stand.{Stand}

-- these bytes joined the log: what was written and what is held are what was held and these
pub record Appended (old new : Writer) (bytes : List ℕ) : Type 0 where
  pub written : List ℕ
  pub taken : Takes old.taken new.taken written
  pub whole : written ++ new.unsent.held ≡ old.unsent.held ++ bytes
  pub works : new.unsent.failed ≡ false

-- the log got these bytes, or its sink failed, or memory was refused; nothing else changed
abbrev pub Notes : Stand → Stand → List ℕ → Result (Unit {0}) Break → Type 0
Notes p q bytes (Ok done) =
    Appended p.log q.log bytes × (q ≡ record p { log = q.log })
    × (q.log.faults ≡ p.log.faults)
Notes p q bytes (Err LogWrite) =
    TakesFront p.log.taken q.log.taken (p.log.unsent.held ++ bytes)
    × (q ≡ record p { log = q.log }) × Rose p.log.faults q.log.faults
Notes p q bytes (Err NoMemory) = q ≡ p
Notes p q bytes (Err ConsoleRead) = ⊥
Notes p q bytes (Err ConsoleWrite) = ⊥

-- the console took the bytes that weren't taken yet, or its sink failed where some are; nothing
-- else changed
abbrev pub Shows : Stand → Stand → Result (Unit {0}) Break → Type 0
Shows p q (Ok done) =
    Takes p.console q.console p.machine.devices.uart.out
    × (q ≡ record p { machine = without_out p.machine; console = q.console })
Shows p q (Err ConsoleWrite) =
    TakesFront p.console q.console p.machine.devices.uart.out
    × (q ≡ record p {
      machine = without_out p.machine;
      console = q.console;
      console_faults = q.console_faults;
    })
    × Rose p.console_faults q.console_faults
    × (p.machine.devices.uart.out ≢ [])
Shows p q (Err other) = ⊥

-- what was held of the log was written, or a front of it; nothing else changed
pub record Flushed (p q : Stand) : Type 0 where
  pub front : TakesFront p.log.taken q.log.taken p.log.unsent.held
  pub rest : q ≡ record p { log = q.log }

-- these bytes were written to the log at once, or its sink failed, or memory was refused
abbrev pub Sent : Stand → Stand → List ℕ → Result (Unit {0}) Break → Type 0
Sent p q bytes (Ok done) =
    Takes p.log.taken q.log.taken bytes × (q ≡ record p { log = q.log })
    × (q.log.faults ≡ p.log.faults) × (q.log.unsent.failed ≡ false)
Sent p q bytes (Err LogWrite) =
    TakesFront p.log.taken q.log.taken bytes × (q ≡ record p { log = q.log })
    × Rose p.log.faults q.log.faults
Sent p q bytes (Err NoMemory) = q ≡ p
Sent p q bytes (Err ConsoleRead) = ⊥
Sent p q bytes (Err ConsoleWrite) = ⊥

-- what a write to the log came to
abbrev pub sent_of : Result (Unit {0}) StreamError → Result (Unit {0}) Break
sent_of (Ok done) = Ok done
sent_of (Err stream.NoMemory) = Err NoMemory
sent_of (Err other) = Err LogWrite
