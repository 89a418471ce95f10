-- When each outcome of a command comes, by the ledgers before and after.
use Rattle.std.specs.Prelude.{◌≡◌, ℕ, ⊤, List, [], Some, None, IfSome}
use Rattle.std.specs.declared.option.Option.{Option}
use Rattle.outside.specs.Causes.{Rose, Stood}
use Rattle.outside.specs.Ledger.{Ledger}
use Rattle.outside.specs.Told.{Takes, TakesFront}
use Rattle.outside.specs.Roles.{at}
use Rattle.outside.specs.declared.roles.Role.TheVariants.{ConsoleIn, ConsoleOut, LogOut, Firmware}
use Rattle.command_line.specs.Words.{Recording, Replaying, Reading, Records, Replays, Demonstrates}
use Rattle.event_log.specs.declared.header.Header.{Header}
use Rattle.rr_engine.specs.Input.{Extent, Entire, Part}
use Rattle.commands.specs.declared.outcome.Outcome.{Outcome}
use Rattle.commands.specs.declared.outcome.Outcome.TheVariants.{Printed, GuestEnded, IdleForEver, BudgetReached, CannotOpen, CannotRead, ConsoleUnreadable, ConsoleFailed, LogFailed, LogUnreadable, BadFirmware, RecordingStopped, HeaderRefused, LogRefused, ImagesDiffer, LogTooLong, QuietFailed, NoMemory}
use Rattle.run_files.specs.Ledgers.{Untouched}
use Rattle.run_files.specs.Files.{FailsToOpen}
use Rattle.commands.specs.Openings.{opening_of}
use Rattle.demo_run.specs.Demos.{Demonstration, demo_line}
use Rattle.run_files.specs.Firmwares.{IsBadFirmware}
use Rattle.commands.specs.Recordings.{IsRecorded, IsRecordedToStop, IsGood}
use Rattle.run_files.specs.Images.{IsBadImage}
use Rattle.run_files.specs.Headers.{HasHeader, IsBadHeader}
use Rattle.commands.specs.Replays.{word_difference, IsStarted, IsReplayed, IsRefusedLog, IsReplayedToLimit, IsDifferent}

-- what holds where the words ask for a recording of a file that tells its bytes
abbrev pub IfRecords : Reading → Ledger → (Recording → List ℕ → Type 0) → Type 0
IfRecords (Records r) l P = IfSome (l.names r.bios) (λ file. P r file)
IfRecords other l P = ⊤

-- what holds where both tell their bytes
abbrev pub IfBoth : Option (List ℕ) → Option (List ℕ) → (List ℕ → List ℕ → Type 0) → Type 0
IfBoth (Some xs) (Some ys) P = P xs ys
IfBoth xs ys P = ⊤

-- what holds where the words ask for a replay of a log and a file that tell their bytes
abbrev pub IfReplays : Reading → Ledger → (Replaying → List ℕ → List ℕ → Type 0) → Type 0
IfReplays (Replays r) l P = IfBoth (l.names r.log) (l.names r.bios) (λ log file. P r log file)
IfReplays other l P = ⊤

-- what holds where the words ask for a recording
abbrev pub IfRecording : Reading → Type 0 → Type 0
IfRecording (Records r) P = P
IfRecording other P = ⊤

-- a demonstration's line was printed
abbrev pub IsDemoPrinted : ℕ → Ledger → Type 0
IsDemoPrinted n l = (d : Demonstration n) × Takes (Some []) (at l.last ConsoleOut) (demo_line n d)

-- A demonstration's line, or a front of it, was printed.
abbrev pub IsDemoPrintedFront : ℕ → Ledger → Type 0
IsDemoPrintedFront n l =
    (d : Demonstration n) × TakesFront (Some []) (at l.last ConsoleOut) (demo_line n d)

-- what holds where the words ask for a demonstration
abbrev pub IfDemonstrates : Reading → (ℕ → Type 0) → Type 0
IfDemonstrates (Demonstrates n) P = P n
IfDemonstrates other P = ⊤

-- The machine's run ended by this reason and code: of a recording, whose log is whole, or of a
-- replay, whose log was accepted whole.
abbrev pub IsEnded : Reading → Ledger → Ledger → ℕ → ℕ → Type 0
IsEnded (Records r) old new reason code =
    IfSome (old.names r.bios) (λ file. IsRecorded r file old new reason code)
IsEnded (Replays r) old new reason code =
    IfBoth (old.names r.log) (old.names r.bios) (λ log file. IsReplayed r log file new reason code)
IsEnded other old new reason code = ⊥

-- what the log has of a run that the console or its input stopped, where the log's own sink worked
abbrev pub LogsStop : Recording → Extent → Ledger → Ledger → Type 0
LogsStop r shown old new = Stood (at old.faults LogOut) (at new.faults LogOut)
    → IfSome (old.names r.bios) (λ file. IsRecordedToStop r file shown old new)

-- when a recording has an outcome
abbrev pub RecordCause : Recording → Ledger → Ledger → Outcome → Type 0
RecordCause r old new (GuestEnded code) = IsEnded (Records r) old new 0 code
RecordCause r old new IdleForEver = IsEnded (Records r) old new 1 0
RecordCause r old new BudgetReached = IsEnded (Records r) old new 2 0
RecordCause r old new (CannotOpen role) = FailsToOpen (opening_of (Records r) role) old new
RecordCause r old new CannotRead = Rose (at old.faults Firmware) (at new.faults Firmware)
RecordCause r old new ConsoleUnreadable =
    Rose (at old.faults ConsoleIn) (at new.faults ConsoleIn)
    × IfSome (old.names r.bios) (λ file. IsGood r file) × LogsStop r Entire old new
RecordCause r old new ConsoleFailed =
    Rose (at old.faults ConsoleOut) (at new.faults ConsoleOut)
    × IfSome (old.names r.bios) (λ file. IsGood r file) × LogsStop r Part old new
RecordCause r old new LogFailed =
    Rose (at old.faults LogOut) (at new.faults LogOut)
    × IfSome (old.names r.bios) (λ file. IsGood r file)
RecordCause r old new (BadFirmware rule) =
    IfSome (old.names r.bios) (λ file. IsBadFirmware file r.ram_mib rule)
RecordCause r old new NoMemory = ⊤
RecordCause r old new other = ⊥

-- When a replay of a log that holds these bytes has an outcome, where the last condition says that
-- the log's source failed.
abbrev pub ReplayCause :
    Replaying → Option (List ℕ) → Ledger → Ledger → Type 0 → Outcome → Type 0
ReplayCause r log old new failed (GuestEnded code) =
    IfBoth log (old.names r.bios) (λ bytes file. IsReplayed r bytes file new 0 code)
ReplayCause r log old new failed IdleForEver =
    IfBoth log (old.names r.bios) (λ bytes file. IsReplayed r bytes file new 1 0)
ReplayCause r log old new failed BudgetReached =
    IfBoth log (old.names r.bios) (λ bytes file. IsReplayed r bytes file new 2 0)
ReplayCause r log old new failed RecordingStopped =
    IfBoth log (old.names r.bios) (λ bytes file. IsReplayed r bytes file new 3 0)
ReplayCause r log old new failed (CannotOpen role) = FailsToOpen (opening_of (Replays r) role) old new
ReplayCause r log old new failed CannotRead = Rose (at old.faults Firmware) (at new.faults Firmware)
ReplayCause r log old new failed ConsoleFailed =
    Rose (at old.faults ConsoleOut) (at new.faults ConsoleOut)
    × IfBoth log (old.names r.bios) (λ bytes file. IsStarted r bytes file)
ReplayCause r log old new failed LogUnreadable = failed
ReplayCause r log old new failed (BadFirmware rule) =
    IfBoth log (old.names r.bios) (λ bytes file.
    (h : Header) × HasHeader bytes h × (word_difference r h ≡ None) × IsBadImage h file rule)
ReplayCause r log old new failed (HeaderRefused offset) =
    IfSome log (λ bytes. IsBadHeader bytes offset) × Untouched old new
ReplayCause r log old new failed (LogRefused refusal) =
    IfBoth log (old.names r.bios) (λ bytes file. IsRefusedLog r bytes file new refusal)
ReplayCause r log old new failed (ImagesDiffer which) =
    IfSome log (λ bytes. (h : Header) × HasHeader bytes h
    × IsDifferent r h (old.names r.bios) which)
ReplayCause r log old new failed LogTooLong =
    IfBoth log (old.names r.bios) (λ bytes file. IsReplayedToLimit r bytes file new)
ReplayCause r log old new failed NoMemory = ⊤
ReplayCause r log old new failed other = ⊥

-- when a text that stands alone has an outcome
abbrev pub PrintCause : List ℕ → Ledger → Ledger → Outcome → Type 0
PrintCause text old new Printed = Takes (Some []) (at new.last ConsoleOut) text
PrintCause text old new ConsoleFailed = Rose (at old.faults ConsoleOut) (at new.faults ConsoleOut)
PrintCause text old new NoMemory = ⊤
PrintCause text old new other = ⊥

-- when a demonstration has an outcome
abbrev pub DemoCause : ℕ → Ledger → Ledger → Outcome → Type 0
DemoCause n old new Printed = IsDemoPrinted n new
DemoCause n old new QuietFailed = Rose (at old.faults ConsoleOut) (at new.faults ConsoleOut)
DemoCause n old new NoMemory = ⊤
DemoCause n old new other = ⊥
