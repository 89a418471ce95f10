-- The status of an outcome.
use Rattle.std.specs.Prelude.{ℕ, ◌==◌, if◌then◌else◌}
use Rattle.commands.specs.declared.outcome.Outcome.{Outcome}
use Rattle.commands.specs.declared.outcome.Outcome.TheVariants.{Printed, GuestEnded, IdleForEver, BudgetReached, BadWord, WordsMissing, CannotOpen, CannotRead, ConsoleUnreadable, ConsoleFailed, LogFailed, LogUnreadable, BadFirmware, RecordingStopped, HeaderRefused, LogRefused, ImagesDiffer, LogTooLong, QuietFailed, CommandsUnreadable, TooMuchInput, NoMemory}

abbrev pub status_of : Outcome → ℕ
status_of Printed = 0
status_of (GuestEnded code) = if code == 0 then 0 else 10
status_of IdleForEver = 12
status_of BudgetReached = 13
status_of (BadWord number) = 1
status_of WordsMissing = 1
status_of (CannotOpen role) = 2
status_of CannotRead = 2
status_of ConsoleUnreadable = 3
status_of ConsoleFailed = 4
status_of LogFailed = 5
status_of LogUnreadable = 6
status_of (BadFirmware rule) = 8
status_of QuietFailed = 9
status_of CommandsUnreadable = 9
status_of RecordingStopped = 14
status_of (HeaderRefused offset) = 20
status_of (LogRefused refusal) = 20
status_of (ImagesDiffer difference) = 21
status_of LogTooLong = 22
status_of TooMuchInput = 23
status_of NoMemory = 30
