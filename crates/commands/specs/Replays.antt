-- What the words ask to replay, and what a replay of it gives.
use Rattle.std.specs.Prelude.{◌≡◌, ◌≢◌, ◌≤◌, ◌<◌, ◌⊎◌, ◌==◌, ◌^◌, ℕ, Bool, false, not, List, [], length, take, drop, Some, None, IfSome, if◌then◌else◌}
use Rattle.std.specs.declared.option.Option.{Option}
use Rattle.sha2.specs.Sha256.{sha256}
use Rattle.outside.specs.Ledger.{Ledger}
use Rattle.outside.specs.Roles.{at}
use Rattle.outside.specs.Told.{Takes, TakesFront}
use Rattle.outside.specs.declared.roles.Role.TheVariants.{ConsoleOut}
use Rattle.command_line.specs.Words.{Replaying}
use Rattle.elf_load.specs.declared.pieces.Loaded.{Loaded}
use Rattle.event_log.specs.declared.event.Event.{Event}
use Rattle.event_log.specs.declared.header.Header.{Header}
use Rattle.run_files.specs.Headers.{HasHeader}
use Rattle.board.specs.State.{State}
use Rattle.board.specs.Reset.{start_of}
use Rattle.log_order.specs.declared.refusal.Refusal.{Refusal}
use Rattle.log_order.specs.declared.refusal.Found.TheVariants as found
use Rattle.log_order.specs.Order.{Accepted, IsFirstWrong, IsWhole}
use Rattle.run_files.specs.declared.difference.Difference.{Difference}
use Rattle.run_files.specs.declared.difference.Difference.TheVariants.{Shift, Ram, Firmware, DiskLength, Disk}
use Rattle.run_files.specs.declared.firmware.TheConstants.{FIRMWARE_LIMIT}
use Rattle.run_files.specs.Images.{IsFirmware, NamesNoDisk}

-- a number that is given is another
abbrev pub is_another : Option ℕ → ℕ → Bool
is_another None n = false
is_another (Some m) n = not (m == n)

-- what the words give otherwise than the header
abbrev pub word_difference : Replaying → Header → Option Difference
word_difference r h =
    if is_another r.shift h.shift then Some Shift
    else if is_another r.ram_mib h.ram_mib then Some Ram
    else None

-- the words and the images are those of the log's header, and a run starts
pub record Starts (r : Replaying) (log file : List ℕ) (h : Header) (firmware : Loaded)
    : Type 0 where
  pub has : HasHeader log h
  pub words : word_difference r h ≡ None
  pub image : IsFirmware h file firmware
  pub disk : NamesNoDisk h

-- what of a log is read: its first 2^40 bytes
abbrev pub read_of : List ℕ → List ℕ
read_of log = take (2 ^ 40) log

-- The first wrong place of the log, which stands among the bytes that are read. An event is cut by
-- the log's own end, not by that of what is read.
pub record IsWrongLog (log : List ℕ) (start : State) (refusal : Refusal) (mid last : State)
    : Type 0 where
  pub first : IsFirstWrong (drop 98 (read_of log)) 98 start refusal mid last
  pub own_end : refusal.found ≡ found.Cut → length log ≤ 2 ^ 40

-- nothing that is read is wrong: it is accepted whole, or its end cuts an event; the part that is
-- accepted leads here
abbrev pub IsUndecided : List ℕ → State → State → Type 0
IsUndecided read start last =
    IsWhole read start last
    ⊎ ((refusal : Refusal) × (after : State) × IsFirstWrong read 98 start refusal last after
    × (refusal.found ≡ found.Cut))

-- the log is accepted whole, its END has this reason and code, and the console has the machine's
-- bytes
pub record IsReplayed (r : Replaying) (log file : List ℕ) (l : Ledger) (reason code : ℕ)
    : Type 0 where
  pub header : Header
  pub firmware : Loaded
  pub starts : Starts r log file header firmware
  pub short : length log ≤ 2 ^ 40
  pub last : State
  pub whole : IsWhole (drop 98 log) (start_of header firmware) last
  pub ended : last.control.ended ≡ Some (record { reason = reason; code = code })
  pub console : Takes (Some []) (at l.last ConsoleOut) last.devices.uart.out

-- the log is refused at its first wrong event, and the console has the bytes of the accepted part
pub record IsRefusedLog (r : Replaying) (log file : List ℕ) (l : Ledger) (refusal : Refusal)
    : Type 0 where
  pub header : Header
  pub firmware : Loaded
  pub starts : Starts r log file header firmware
  pub mid : State
  pub last : State
  pub wrong : IsWrongLog log (start_of header firmware) refusal mid last
  pub console : Takes (Some []) (at l.last ConsoleOut) mid.devices.uart.out

-- the log is longer than what is read, of which nothing is wrong, and the console has the bytes of
-- the accepted part
pub record IsReplayedToLimit (r : Replaying) (log file : List ℕ) (l : Ledger) : Type 0 where
  pub header : Header
  pub firmware : Loaded
  pub starts : Starts r log file header firmware
  pub long : 2 ^ 40 < length log
  pub last : State
  pub undecided : IsUndecided (drop 98 (read_of log)) (start_of header firmware) last
  pub console : Takes (Some []) (at l.last ConsoleOut) last.devices.uart.out

-- the console has a front of the bytes of a part of the log that is accepted
pub record IsShown (r : Replaying) (log file : List ℕ) (l : Ledger) : Type 0 where
  pub header : Header
  pub firmware : Loaded
  pub starts : Starts r log file header firmware
  pub events : List Event
  pub rest : List ℕ
  pub last : State
  pub accepted : Accepted (drop 98 log) (start_of header firmware) events rest last
  pub console : TakesFront (Some []) (at l.last ConsoleOut) last.devices.uart.out

-- what differs: what the words give, before the firmware's file is opened; the file; or, once it is
-- loaded, the disk
abbrev pub IsDifferent : Replaying → Header → Option (List ℕ) → Difference → Type 0
IsDifferent r h held Shift = word_difference r h ≡ Some Shift
IsDifferent r h held Ram = word_difference r h ≡ Some Ram
IsDifferent r h held Firmware =
    (word_difference r h ≡ None)
    × IfSome held (λ file. (sha256 file ≢ h.firmware) × (length file ≤ FIRMWARE_LIMIT))
IsDifferent r h held DiskLength =
    (word_difference r h ≡ None)
    × IfSome held (λ file. ((firmware : Loaded) × IsFirmware h file firmware) × (h.disk_len ≢ 0))
IsDifferent r h held Disk =
    (word_difference r h ≡ None)
    × IfSome held (λ file. ((firmware : Loaded) × IsFirmware h file firmware)
    × (h.disk_len ≡ 0) × (h.disk ≢ sha256 []))

-- the words and the images are those of the log's header, whichever that is
abbrev pub IsStarted : Replaying → List ℕ → List ℕ → Type 0
IsStarted r log file = (h : Header) × (firmware : Loaded) × Starts r log file h firmware

-- The words and the images are those of the log's header, and the log is accepted whole and isn't
-- too long to be read; its END has this reason and code.
pub record IsReplayable (r : Replaying) (log file : List ℕ) (reason code : ℕ) : Type 0 where
  pub header : Header
  pub firmware : Loaded
  pub starts : Starts r log file header firmware
  pub short : length log ≤ 2 ^ 40
  pub last : State
  pub whole : IsWhole (drop 98 log) (start_of header firmware) last
  pub ended : last.control.ended ≡ Some (record { reason = reason; code = code })

-- the same, where the log has a first wrong event
pub record IsRefusable (r : Replaying) (log file : List ℕ) : Type 0 where
  pub header : Header
  pub firmware : Loaded
  pub starts : Starts r log file header firmware
  pub refusal : Refusal
  pub mid : State
  pub last : State
  pub wrong : IsWrongLog log (start_of header firmware) refusal mid last

-- The same, where the log is longer than what is read, and nothing that is read is wrong.
pub record IsTooLong (r : Replaying) (log file : List ℕ) : Type 0 where
  pub header : Header
  pub firmware : Loaded
  pub starts : Starts r log file header firmware
  pub long : 2 ^ 40 < length log
  pub last : State
  pub undecided : IsUndecided (drop 98 (read_of log)) (start_of header firmware) last
