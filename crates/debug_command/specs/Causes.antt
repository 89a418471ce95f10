-- When each outcome of a debugging session comes, by the ledgers before and after.
use Rattle.std.specs.Prelude.{◌<◌, ◌≤◌, ℕ, ⊤, List, length, Some, None, IfSome}
use Rattle.std.specs.declared.option.Option.{Option}
use Rattle.outside.specs.Causes.{Rose}
use Rattle.outside.specs.Ledger.{Ledger}
use Rattle.outside.specs.Roles.{at}
use Rattle.outside.specs.declared.openings.Opening.TheVariants.{Source}
use Rattle.outside.specs.declared.roles.Role.TheVariants.{ConsoleIn, ConsoleOut, LogIn, Firmware}
use Rattle.event_log.specs.declared.header.Header.{Header}
use Rattle.event_log.specs.declared.parse.ParseError.{ParseError}
use Rattle.event_log.specs.declared.parse.ParseError.TheVariants as parse
use Rattle.log_order.specs.declared.refusal.Refusal.{Refusal}
use Rattle.monitor.specs.declared.sessions.SessionEnd.{SessionEnd}
use Rattle.monitor.specs.declared.sessions.SessionEnd.TheVariants as session_end
use Rattle.monitor.specs.declared.debugging.DebugEnd.{DebugEnd}
use Rattle.monitor.specs.declared.debugging.DebugEnd.TheVariants as debug_end
use Rattle.run_files.specs.declared.difference.Difference.TheVariants as difference
use Rattle.run_files.specs.declared.files.FileFault.{FileFault}
use Rattle.run_files.specs.declared.files.FileFault.TheVariants as file
use Rattle.run_files.specs.declared.images.ImageFault.{ImageFault}
use Rattle.run_files.specs.declared.images.ImageFault.TheVariants as image
use Rattle.run_files.specs.Files.{firmware_opening, FailsToOpen}
use Rattle.run_files.specs.Headers.{HasHeader, IsBadHeader}
use Rattle.run_files.specs.Images.{IsImageFault}
use Rattle.commands.specs.Causes.{IfBoth}
use Rattle.commands.specs.declared.outcome.Outcome.{Outcome}
use Rattle.commands.specs.declared.outcome.Outcome.TheVariants.{Printed, CannotOpen, CannotRead, LogUnreadable, LogTooLong, HeaderRefused, LogRefused, BadFirmware, ImagesDiffer, QuietFailed, CommandsUnreadable, TooMuchInput, NoMemory}
use Rattle.debug_command.specs.declared.debugging.TheConstants.{LOG_LIMIT}
use Rattle.debug_command.specs.Debugs.{IsHeld}

-- a session ended so, whether or not the log was accepted whole
abbrev pub IsHeldTo : SessionEnd → Option (List ℕ) → Option (List ℕ) → Ledger → Ledger → Type 0
IsHeldTo end log bios old new =
    IfBoth log bios (λ bytes file. (refusal : Option Refusal) × IsHeld bytes file refusal end old new)

-- the log isn't above the limit and has a header, and the file isn't the image that this names
abbrev pub IsOtherImage : Option (List ℕ) → Option (List ℕ) → ImageFault → Type 0
IsOtherImage log bios fault = IfBoth log bios
    (λ bytes file. (length bytes ≤ LOG_LIMIT)
    × ((h : Header) × HasHeader bytes h × IsImageFault h file fault))

-- when an outcome comes
abbrev pub DebugCause : List ℕ → List ℕ → Ledger → Ledger → Outcome → Type 0
DebugCause log bios old new Printed = IfBoth (old.names log) (old.names bios)
    (λ bytes file. IsHeld bytes file None session_end.Done old new)
DebugCause log bios old new (LogRefused r) = IfBoth (old.names log) (old.names bios)
    (λ bytes file. IsHeld bytes file (Some r) session_end.Done old new)
DebugCause log bios old new (CannotOpen LogIn) = FailsToOpen (Source LogIn (Some log)) old new
DebugCause log bios old new (CannotOpen Firmware) = FailsToOpen (firmware_opening bios) old new
DebugCause log bios old new LogUnreadable = Rose (at old.faults LogIn) (at new.faults LogIn)
DebugCause log bios old new LogTooLong =
    IfSome (old.names log) (λ bytes. LOG_LIMIT < length bytes)
DebugCause log bios old new (HeaderRefused offset) =
    IfSome (old.names log) (λ bytes. (length bytes ≤ LOG_LIMIT) × IsBadHeader bytes offset)
DebugCause log bios old new CannotRead = Rose (at old.faults Firmware) (at new.faults Firmware)
DebugCause log bios old new (BadFirmware rule) =
    IsOtherImage (old.names log) (old.names bios) (image.Bad rule)
DebugCause log bios old new (ImagesDiffer difference.Firmware) =
    IsOtherImage (old.names log) (old.names bios) image.OtherFirmware
DebugCause log bios old new (ImagesDiffer difference.DiskLength) =
    IsOtherImage (old.names log) (old.names bios) image.OtherDiskLength
DebugCause log bios old new (ImagesDiffer difference.Disk) =
    IsOtherImage (old.names log) (old.names bios) image.OtherDisk
DebugCause log bios old new CommandsUnreadable =
    Rose (at old.faults ConsoleIn) (at new.faults ConsoleIn)
    × IsHeldTo session_end.ReadFault (old.names log) (old.names bios) old new
DebugCause log bios old new QuietFailed =
    Rose (at old.faults ConsoleOut) (at new.faults ConsoleOut)
    × IsHeldTo session_end.WriteFault (old.names log) (old.names bios) old new
DebugCause log bios old new TooMuchInput =
    IsHeldTo session_end.TooMuchInput (old.names log) (old.names bios) old new
DebugCause log bios old new NoMemory = ⊤
DebugCause log bios old new other = ⊥

-- ---- how the parts of a session become its outcome

-- why the log wasn't read
abbrev pub log_outcome_of : FileFault → Outcome
log_outcome_of file.CannotOpen = CannotOpen LogIn
log_outcome_of file.CannotRead = LogUnreadable
log_outcome_of file.TooLong = LogTooLong
log_outcome_of file.NoMemory = NoMemory

-- why the log has no header
abbrev pub unheaded_outcome_of : ParseError → Outcome
unheaded_outcome_of (parse.Bad offset rule) = HeaderRefused offset
unheaded_outcome_of (parse.Cut offset) = HeaderRefused offset
unheaded_outcome_of parse.NoMemory = NoMemory

-- how the session ended, unless by an image that failed
abbrev pub session_outcome_of : DebugEnd → Option Outcome
session_outcome_of debug_end.Done = Some Printed
session_outcome_of (debug_end.Refused r) = Some (LogRefused r)
session_outcome_of debug_end.ReadFault = Some CommandsUnreadable
session_outcome_of debug_end.WriteFault = Some QuietFailed
session_outcome_of debug_end.TooMuchInput = Some TooMuchInput
session_outcome_of debug_end.ImageFault = None
session_outcome_of debug_end.NoMemory = Some NoMemory
