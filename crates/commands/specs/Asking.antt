-- What the words ask for, and how the parts of a run become its outcome.
use Rattle.std.specs.Prelude.{ℕ, List, [], ◌==◌, None, Result, Ok, Err, if◌then◌else◌}
use Rattle.sha2.specs.Sha256.{sha256}
use Rattle.outside.specs.declared.roles.Role.TheVariants.{Firmware, LogOut}
use Rattle.command_line.specs.declared.line.RecordWords.{RecordWords}
use Rattle.command_line.specs.declared.line.ReplayWords.{ReplayWords}
use Rattle.command_line.specs.Words.{Recording, Replaying}
use Rattle.event_log.specs.declared.parse.ParseError.TheVariants as parse
use Rattle.event_log.specs.declared.stream_error.StreamError.{StreamError}
use Rattle.event_log.specs.declared.stream_error.StreamError.TheVariants as stream
use Rattle.rr_engine.specs.declared.replaying.ReplayEnd.{ReplayEnd}
use Rattle.rr_engine.specs.declared.replaying.ReplayEnd.TheVariants as replay_end
use Rattle.run_files.specs.declared.images.ImageFault.{ImageFault}
use Rattle.run_files.specs.declared.images.ImageFault.TheVariants as image
use Rattle.event_log.specs.declared.header.Header.{Header}
use Rattle.run_files.specs.declared.difference.Difference.TheVariants as difference
use Rattle.commands.specs.declared.outcome.Outcome.{Outcome}
use Rattle.commands.specs.declared.outcome.Outcome.TheVariants as outcome
use Rattle.run_files.specs.declared.firmware.FirmwareFault.{FirmwareFault}
use Rattle.run_files.specs.declared.firmware.FirmwareFault.TheVariants as fault
use Rattle.commands.specs.declared.devices.RecordingEnd.{RecordingEnd}
use Rattle.commands.specs.declared.devices.RecordingEnd.TheVariants as ends
use Rattle.commands.specs.declared.printing.PrintFault.{PrintFault}
use Rattle.commands.specs.declared.printing.PrintFault.TheVariants as print_fault

-- what the words of a recording ask for
abbrev pub asked : RecordWords → Recording
asked w = record {
  shift = w.shift;
  ram_mib = w.ram_mib;
  slice = w.slice;
  budget = w.budget;
  log = w.log.now;
  bios = w.bios.now;
}

-- the header of a recording of a firmware with this digest
abbrev pub recording_header : Recording → List ℕ → Header
recording_header r digest = record {
  shift = r.shift;
  ram_mib = r.ram_mib;
  slice = r.slice;
  budget = r.budget;
  firmware = digest;
  disk_len = 0;
  disk = sha256 [];
}

abbrev pub firmware_outcome_of : FirmwareFault → Outcome
firmware_outcome_of fault.CannotOpen = outcome.CannotOpen Firmware
firmware_outcome_of fault.CannotRead = outcome.CannotRead
firmware_outcome_of (fault.Bad rule) = outcome.BadFirmware rule
firmware_outcome_of fault.NoMemory = outcome.NoMemory

abbrev pub ending_outcome_of : RecordingEnd → Outcome
ending_outcome_of (ends.End reason code) =
    if reason == 0 then outcome.GuestEnded code
    else if reason == 1 then outcome.IdleForEver
    else outcome.BudgetReached
ending_outcome_of ends.CannotOpenLog = outcome.CannotOpen LogOut
ending_outcome_of ends.ConsoleUnreadable = outcome.ConsoleUnreadable
ending_outcome_of ends.ConsoleFailed = outcome.ConsoleFailed
ending_outcome_of ends.LogFailed = outcome.LogFailed
ending_outcome_of ends.NoMemory = outcome.NoMemory

-- what the words of a replay ask for
abbrev pub replay_asked : ReplayWords → Replaying
replay_asked w = record { shift = w.shift; ram_mib = w.ram_mib; log = w.log.now; bios = w.bios.now }

-- a replay by words that give no shift and no RAM
abbrev pub replaying_of : List ℕ → List ℕ → Replaying
replaying_of log bios = record { shift = None; ram_mib = None; log = log; bios = bios }

-- why no header was read
abbrev pub header_outcome_of : StreamError → Outcome
header_outcome_of (stream.Parse (parse.Bad offset rule)) = outcome.HeaderRefused offset
header_outcome_of (stream.Parse (parse.Cut offset)) = outcome.HeaderRefused offset
header_outcome_of (stream.Parse parse.NoMemory) = outcome.NoMemory
header_outcome_of stream.Failed = outcome.LogUnreadable
header_outcome_of stream.TooLong = outcome.LogTooLong
header_outcome_of stream.NoMemory = outcome.NoMemory

-- why the firmware's file isn't the image
abbrev pub image_outcome_of : ImageFault → Outcome
image_outcome_of image.CannotOpen = outcome.CannotOpen Firmware
image_outcome_of image.CannotRead = outcome.CannotRead
image_outcome_of image.OtherFirmware = outcome.ImagesDiffer difference.Firmware
image_outcome_of (image.Bad rule) = outcome.BadFirmware rule
image_outcome_of image.OtherDiskLength = outcome.ImagesDiffer difference.DiskLength
image_outcome_of image.OtherDisk = outcome.ImagesDiffer difference.Disk
image_outcome_of image.NoMemory = outcome.NoMemory

-- how a log that was accepted ended
abbrev pub accepted_outcome_of : ℕ → ℕ → Outcome
accepted_outcome_of reason code =
    if reason == 0 then outcome.GuestEnded code
    else if reason == 1 then outcome.IdleForEver
    else if reason == 2 then outcome.BudgetReached
    else outcome.RecordingStopped

abbrev pub replay_outcome_of : ReplayEnd → Outcome
replay_outcome_of (replay_end.End reason code accepted turns) = accepted_outcome_of reason code
replay_outcome_of replay_end.ConsoleWrite = outcome.ConsoleFailed
replay_outcome_of replay_end.LogRead = outcome.LogUnreadable
replay_outcome_of replay_end.LogTooLong = outcome.LogTooLong
replay_outcome_of (replay_end.Refused refusal) = outcome.LogRefused refusal
replay_outcome_of replay_end.NoMemory = outcome.NoMemory

-- how a quiet command ends whose answer was printed so
abbrev pub quiet_outcome_of : Result (Unit {0}) PrintFault → Outcome
quiet_outcome_of (Ok done) = outcome.Printed
quiet_outcome_of (Err print_fault.Failed) = outcome.QuietFailed
quiet_outcome_of (Err print_fault.NoMemory) = outcome.NoMemory
