-- What was recorded from one stand of a recording to another.
use Rattle.std.specs.Prelude.{◌≡◌, ◌≢◌, ℕ, false, List, [], ◌∷◌, ◌++◌, ◌⊎◌, ◌≤◌, Some, None, Result, Ok, Err}
use Rattle.std.specs.declared.option.Option.{Option}
use Rattle.std.specs.List.{AllByRecursion}
use Rattle.outside.specs.Causes.{Rose, Stood}
use Rattle.outside.specs.Told.{Takes, TakesFront}
use Rattle.event_log.specs.declared.event.Event.{Event}
use Rattle.event_log.specs.declared.event.Event.TheVariants as event
use Rattle.event_log.specs.Spelling.{text, texts, IsEvent}
use Rattle.event_log.specs.Writing.{Writer}
use Rattle.board.specs.State.{State}
use Rattle.board.specs.Runs.{step, run}
use Rattle.board.specs.Taken.{Taken, with_taken, without_out}
use Rattle.board.specs.Due.{due}
use Rattle.board.specs.declared.due.Due.TheVariants as due_is
use Rattle.board.specs.declared.control.Ending.{Ending}
use Rattle.board.specs.declared.control.Window.TheVariants as window
use Rattle.event_log.specs.declared.stream_error.StreamError.{StreamError}
use Rattle.event_log.specs.declared.stream_error.StreamError.TheVariants as stream
use Rattle.rr_engine.specs.declared.ends.RunEnd.{RunEnd}
use Rattle.rr_engine.specs.declared.ends.RunEnd.TheVariants as ends
use Rattle.rr_engine.specs.declared.ends.Break.{Break}
use Rattle.rr_engine.specs.declared.ends.Break.TheVariants.{ConsoleRead, ConsoleWrite, LogWrite, NoMemory}
use Rattle.rr_engine.specs.Stand.{Stand}
use Rattle.rr_engine.specs.Input.{Extent, Entire, Part}
use Rattle.rr_engine.specs.Feed.{Feed, IsOver, IsSound, Unfailed, Failed}
use Rattle.rr_engine.specs.Outputs.{Appended}
use Rattle.rr_engine.specs.Windows.{Remainder, nothing_left, Hears}

-- the value of a CLOCK event
abbrev pub clock_value : Event → List ℕ
clock_value (event.Clock value) = value ∷ []
clock_value other = []

-- the values of the CLOCK events, in order
abbrev pub clock_values : List Event → List ℕ
clock_values [] = []
clock_values (e ∷ es) = clock_value e ++ clock_values es

-- the bytes were taken, all of them or, where the recording broke off, a front
abbrev pub Took : Extent → Option (List ℕ) → Option (List ℕ) → List ℕ → Type 0
Took Entire old new bytes = Takes old new bytes
Took Part old new bytes = TakesFront old new bytes

-- the same, or where the recording broke off, a front of what was held and these was written
abbrev pub Logged : Extent → Writer → Writer → List ℕ → Type 0
Logged Entire old new bytes = Appended old new bytes
Logged Part old new bytes = TakesFront old.taken new.taken (old.unsent.held ++ bytes)

-- the clock gave these values, and where the recording broke off maybe one that no event has
pub record Gave (extent : Extent) (old new : Option (List ℕ)) (values : List ℕ) : Type 0 where
  pub more : List ℕ
  pub gave : Takes old new (values ++ more)
  pub all : extent ≡ Entire → more ≡ []

-- a count of faults stayed, where the recording didn't break off
abbrev pub Counted : Extent → ℕ → ℕ → Type 0
Counted Entire old new = new ≡ old
Counted Part old new = Unit {0}

-- no source failed, where the recording didn't break off
abbrev pub Steady : Extent → Feed → Feed → Type 0
Steady Entire old new = Unfailed old new
Steady Part old new = Unit {0}

-- The machine took these events, and gave this away; the log has the events, the
-- console the bytes, and the inputs and the clock gave what the events have. Where it broke off, the
-- log has a front of that, and the console too. Before and after it the last window has so much to
-- take; after it that is told where the recording didn't break off.
pub record Recorded (extent : Extent) (before after : Remainder) (p q : Stand) : Type 0 where
  pub events : List Event
  pub taken : Taken
  pub last : State
  pub are : AllByRecursion IsEvent events
  pub runs : run p.machine events ≡ Some (with_taken taken last)
  pub stands : extent ≡ Entire → last ≡ q.machine
  pub log : Logged extent p.log q.log (texts events)
  pub log_faults : Counted extent p.log.faults q.log.faults
  pub console : Took extent p.console q.console taken.out
  pub console_faults : Counted extent p.console_faults q.console_faults
  pub left : Remainder
  pub heard : Hears before p.feed events left q.feed
  pub leaves : extent ≡ Entire → left ≡ after
  pub steady : Steady extent p.feed q.feed
  pub clock : Gave extent p.gave q.gave (clock_values events)

-- END 3 ended the run; or, where the console couldn't be shown all, an END of the machine's own was
-- due, other than for want of a wake: before that the console was shown all at the idle checkpoint
abbrev pub IsStopped : Extent → State → Type 0
IsStopped shown g =
    (g.control.ended ≡ Some (record { reason = 3; code = 0 }))
    ⊎ ((shown ≡ Part) × (g.control.ended ≡ None)
    × (reason : ℕ) × (code : ℕ) × (due g ≡ due_is.End reason code) × (reason ≢ 1))

-- The recording was stopped after these events, and the log has them all. The console was shown all
-- of the bytes, or a front.
pub record IsLogged (shown : Extent) (before : Remainder) (p q : Stand) : Type 0 where
  pub events : List Event
  pub taken : Taken
  pub last : State
  pub are : AllByRecursion IsEvent events
  pub runs : run p.machine events ≡ Some (with_taken taken last)
  pub stopped : IsStopped shown last
  pub log : Takes p.log.taken q.log.taken (p.log.unsent.held ++ texts events)
  pub console : Took shown p.console q.console taken.out
  pub all : shown ≡ Entire → last.devices.uart.out ≡ []
  pub left : Remainder
  pub heard : Hears before p.feed events left q.feed
  pub clock : Gave Part p.gave q.gave (clock_values events)

-- why it broke off: by the first device that failed; what is then written to the log may fail too
abbrev pub Broke : Remainder → Stand → Stand → Break → Type 0
Broke before p q ConsoleRead =
    Failed p.feed q.feed
    × (Stood p.log.faults q.log.faults → IsLogged Entire before p q)
    × (q.console_faults ≡ p.console_faults)
Broke before p q ConsoleWrite =
    Rose p.console_faults q.console_faults
    × (Stood p.log.faults q.log.faults → IsLogged Part before p q)
    × Unfailed p.feed q.feed
Broke before p q LogWrite =
    Rose p.log.faults q.log.faults
    × (q.console_faults ≡ p.console_faults) × Unfailed p.feed q.feed
Broke before p q NoMemory = Unit {0}

-- the recording went on, or broke off; before and after it the last window has so much to take
abbrev pub Goes : Remainder → Remainder → Stand → Stand → Result (Unit {0}) Break → Type 0
Goes before after p q (Ok done) = Recorded Entire before after p q
Goes before after p q (Err broke) = Recorded Part before after p q × Broke before p q broke

-- the recording was stopped: no more console bytes came, and the log has a front of what was
-- recorded
pub record Stopped (before : Remainder) (p q : Stand) : Type 0 where
  pub recorded : Recorded Part before nothing_left p q
  pub silent : recorded.taken.out ≡ []
  pub console : q.console ≡ p.console
  pub console_faults : q.console_faults ≡ p.console_faults
  pub feed : q.feed ≡ p.feed

-- a break, or want of memory, where that kept the rest of the log from its sink
abbrev pub or_memory : Break → Result (Unit {0}) Break → Break
or_memory broke (Err NoMemory) = NoMemory
or_memory broke (Err ConsoleRead) = broke
or_memory broke (Err ConsoleWrite) = broke
or_memory broke (Err LogWrite) = broke
or_memory broke (Ok done) = broke

-- The recording was stopped. What was recorded is in the log, or its sink failed, or memory was
-- refused.
abbrev pub Stops : Extent → Remainder → Stand → Stand → Result (Unit {0}) Break → Type 0
Stops shown before p q (Ok done) = Stopped before p q × IsLogged shown before p q
Stops shown before p q (Err LogWrite) = Stopped before p q × Rose p.log.faults q.log.faults
Stops shown before p q (Err NoMemory) = Stopped before p q
Stops shown before p q (Err ConsoleRead) = ⊥
Stops shown before p q (Err ConsoleWrite) = ⊥

-- how a recording that broke off ended
abbrev pub end_of : Break → RunEnd
end_of ConsoleRead = ends.ConsoleRead
end_of ConsoleWrite = ends.ConsoleWrite
end_of LogWrite = ends.LogWrite
end_of NoMemory = ends.NoMemory
