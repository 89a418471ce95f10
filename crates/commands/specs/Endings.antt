-- How a recording over the devices of a world ends.
use Rattle.std.specs.Prelude.{◌≡◌, ℕ}
use Rattle.outside.specs.Ledger.{Ledger, StartsEmpty, source_back, sink_back, clock_back}
use Rattle.outside.specs.Roles.{at}
use Rattle.outside.specs.declared.roles.Role.{Role}
use Rattle.outside.specs.declared.roles.Role.TheVariants.{ConsoleIn, ConsoleOut, LogOut}
use Rattle.rr_engine.specs.declared.ends.RunEnd.{RunEnd}
use Rattle.rr_engine.specs.declared.ends.RunEnd.TheVariants as run_end
use Rattle.rr_engine.specs.Stand.{Devices}
use Rattle.rr_engine.specs.Input.{Extent, Entire, Part}
use Rattle.rr_engine.specs.Runs.{IsOwnReason}
use Rattle.commands.specs.declared.devices.RecordingEnd.{RecordingEnd}
use Rattle.commands.specs.declared.devices.RecordingEnd.TheVariants.{End, CannotOpenLog, ConsoleUnreadable, ConsoleFailed, LogFailed, NoMemory}

-- what holds of the reason and the code, which are the machine's own
abbrev pub IfEnds : RecordingEnd → (ℕ → ℕ → Type 0) → Type 0
IfEnds (End reason code) P = P reason code × IsOwnReason reason code
IfEnds other P = Unit {0}

-- what holds of how much the console was shown, where it or its input stopped the run
abbrev pub IfStops : RecordingEnd → (Extent → Type 0) → Type 0
IfStops ConsoleUnreadable P = P Entire
IfStops ConsoleFailed P = P Part
IfStops other P = Unit {0}

-- the devices of a recording that were just opened over what the ledger tells
pub record IsFresh (l : Ledger) (d : Devices) : Type 0 where
  pub log : StartsEmpty d.log
  pub log_faults : d.log_faults ≡ 0
  pub console : StartsEmpty d.console
  pub console_faults : d.console_faults ≡ 0
  pub input : d.input ≡ l.input
  pub input_faults : d.input_faults ≡ 0
  pub gave : StartsEmpty d.gave

-- the devices were given back
abbrev pub closed : Ledger → Devices → Ledger
closed l d =
    clock_back (sink_back (sink_back (source_back l ConsoleIn d.input_faults d.input)
    LogOut d.log_faults d.log) ConsoleOut d.console_faults d.console) d.gave

-- why a device wasn't opened
abbrev pub OpensNothing : RecordingEnd → Type 0
OpensNothing CannotOpenLog = Unit {0}
OpensNothing NoMemory = Unit {0}
OpensNothing other = ⊥

-- a count is what it was
abbrev pub OpeningsKept : Ledger → Ledger → Type 0
OpeningsKept old new = new.opening_faults ≡ old.opening_faults

abbrev pub KeptOf : Role → Ledger → Ledger → Type 0
KeptOf role old new = at new.faults role ≡ at old.faults role

-- The first device that failed is told: by a recording's end, which counts are what they were. After
-- the console or its input failed END 3 is written to the log, which may fail too; and where memory
-- was refused nothing is said.
abbrev pub KeepsCounts : RecordingEnd → Ledger → Ledger → Type 0
KeepsCounts (End reason code) old new =
    OpeningsKept old new × KeptOf ConsoleIn old new × KeptOf ConsoleOut old new × KeptOf LogOut old new
KeepsCounts CannotOpenLog old new =
    KeptOf ConsoleIn old new × KeptOf ConsoleOut old new × KeptOf LogOut old new
KeepsCounts ConsoleUnreadable old new = OpeningsKept old new × KeptOf ConsoleOut old new
KeepsCounts ConsoleFailed old new = OpeningsKept old new × KeptOf ConsoleIn old new
KeepsCounts LogFailed old new =
    OpeningsKept old new × KeptOf ConsoleIn old new × KeptOf ConsoleOut old new
KeepsCounts NoMemory old new = Unit {0}

abbrev pub recording_end_of : RunEnd → RecordingEnd
recording_end_of (run_end.End reason code) = End reason code
recording_end_of run_end.ConsoleRead = ConsoleUnreadable
recording_end_of run_end.ConsoleWrite = ConsoleFailed
recording_end_of run_end.LogWrite = LogFailed
recording_end_of run_end.NoMemory = NoMemory
