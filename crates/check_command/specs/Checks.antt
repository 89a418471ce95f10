-- What a check of a log gives over a world: a replay whose console nobody sees.
use Rattle.std.specs.Prelude.{◌≡◌, ◌≤◌, ◌^◌, ℕ, ⊤, List, [], ◌++◌, length, drop, codes, Some, None, Result, Ok, Err}
use Rattle.std.specs.declared.option.Option.{Option}
use Rattle.std.specs.Fmt.{decimal}
use Rattle.outside.specs.Causes.{Rose}
use Rattle.outside.specs.Ledger.{Ledger}
use Rattle.outside.specs.Roles.{at}
use Rattle.outside.specs.Told.{Takes, TakesFront}
use Rattle.outside.specs.declared.roles.Role.TheVariants.{ConsoleOut, LogIn, Firmware}
use Rattle.command_line.specs.Words.{Replaying}
use Rattle.elf_load.specs.declared.pieces.Loaded.{Loaded}
use Rattle.event_log.specs.declared.header.Header.{Header}
use Rattle.board.specs.State.{State}
use Rattle.board.specs.Reset.{start_of}
use Rattle.log_order.specs.declared.refusal.Refusal.{Refusal}
use Rattle.log_order.specs.Order.{IsWhole}
use Rattle.rr_engine.specs.declared.replaying.ReplayEnd.{ReplayEnd}
use Rattle.rr_engine.specs.declared.replaying.ReplayEnd.TheVariants as replay_end
use Rattle.run_files.specs.Ledgers.{only, only_opening}
use Rattle.commands.specs.Causes.{IfBoth, ReplayCause}
use Rattle.commands.specs.Faults.{Fault, fault_of}
use Rattle.commands.specs.Replays.{Starts, IsWrongLog, IsTooLong}
use Rattle.commands.specs.declared.outcome.Outcome.{Outcome}
use Rattle.commands.specs.declared.outcome.Outcome.TheVariants.{Printed, CannotOpen, CannotRead, LogUnreadable, BadFirmware, HeaderRefused, LogRefused, ImagesDiffer, LogTooLong, QuietFailed, NoMemory}
use Rattle.check_command.specs.declared.tally.Tally.{Tally}

-- the line for a log that is accepted
abbrev pub accepted_line : Tally → List ℕ
accepted_line t =
    codes "accepted: events " ++ decimal t.events ++ codes ", turns " ++ decimal t.turns
    ++ codes ", end " ++ decimal t.reason ++ codes " " ++ decimal t.code ++ codes "\n"

-- The images are those of the log's header, and the log is accepted whole and isn't too long to be
-- read. It has so many events, which led to so many turns, and its END has this reason and code.
pub record IsAccepted (r : Replaying) (log file : List ℕ) (t : Tally) : Type 0 where
  pub header : Header
  pub firmware : Loaded
  pub starts : Starts r log file header firmware
  pub short : length log ≤ 2 ^ 40
  pub last : State
  pub whole : IsWhole (drop 98 log) (start_of header firmware) last
  pub events : t.events ≡ length whole.events
  pub turns : t.turns ≡ last.devices.time.count
  pub ended : last.control.ended ≡ Some (record { reason = t.reason; code = t.code })

-- the images are those of the log's header, and this is the log's first wrong event
pub record IsRefusedAt (r : Replaying) (log file : List ℕ) (refusal : Refusal) : Type 0 where
  pub header : Header
  pub firmware : Loaded
  pub starts : Starts r log file header firmware
  pub mid : State
  pub last : State
  pub wrong : IsWrongLog log (start_of header firmware) refusal mid last

-- the log is accepted, and the console took its line
abbrev pub IsChecked : Replaying → List ℕ → List ℕ → Ledger → Type 0
IsChecked r log file l =
    (t : Tally) × IsAccepted r log file t × Takes (Some []) (at l.last ConsoleOut) (accepted_line t)

-- the log is accepted, and the console took a front of its line
abbrev pub IsCheckedFront : Replaying → List ℕ → List ℕ → Ledger → Type 0
IsCheckedFront r log file l =
    (t : Tally) × IsAccepted r log file t
    × TakesFront (Some []) (at l.last ConsoleOut) (accepted_line t)

-- When a log that holds these bytes has no tally, where the last condition says that its source
-- failed. Where no run starts, it is as with a replay.
abbrev pub UnacceptedCause :
    Replaying → Option (List ℕ) → Ledger → Ledger → Type 0 → Outcome → Type 0
UnacceptedCause r log old new failed (LogRefused refusal) =
    IfBoth log (old.names r.bios) (λ bytes file. IsRefusedAt r bytes file refusal)
UnacceptedCause r log old new failed LogTooLong =
    IfBoth log (old.names r.bios) (λ bytes file. IsTooLong r bytes file)
UnacceptedCause r log old new failed (CannotOpen role) =
    ReplayCause r log old new failed (CannotOpen role)
UnacceptedCause r log old new failed CannotRead = ReplayCause r log old new failed CannotRead
UnacceptedCause r log old new failed LogUnreadable = failed
UnacceptedCause r log old new failed (BadFirmware rule) =
    ReplayCause r log old new failed (BadFirmware rule)
UnacceptedCause r log old new failed (HeaderRefused offset) =
    ReplayCause r log old new failed (HeaderRefused offset)
UnacceptedCause r log old new failed (ImagesDiffer which) =
    ReplayCause r log old new failed (ImagesDiffer which)
UnacceptedCause r log old new failed NoMemory = ⊤
UnacceptedCause r log old new failed other = ⊥

-- what the run of a log that holds these bytes gives
abbrev pub Judges :
    Replaying → Option (List ℕ) → Ledger → Ledger → Type 0 → Result Tally Outcome → Type 0
Judges r log old new failed (Ok t) =
    IfBoth log (old.names r.bios) (λ bytes file. IsAccepted r bytes file t)
Judges r log old new failed (Err outcome) = UnacceptedCause r log old new failed outcome

-- when a check has an outcome
abbrev pub CheckCause : Replaying → Ledger → Ledger → Outcome → Type 0
CheckCause r old new Printed =
    IfBoth (old.names r.log) (old.names r.bios) (λ log file. IsChecked r log file new)
CheckCause r old new QuietFailed =
    Rose (at old.faults ConsoleOut) (at new.faults ConsoleOut)
    × IfBoth (old.names r.log) (old.names r.bios) (λ log file. (t : Tally) × IsAccepted r log file t)
CheckCause r old new outcome =
    UnacceptedCause r (old.names r.log) old new (Rose (at old.faults LogIn) (at new.faults LogIn))
    outcome

-- the old ledger with what the run of a log may change, while it is read
abbrev pub only_judging : Ledger → Ledger → Ledger
only_judging old new = only_opening Firmware old new

-- the old ledger with what a check may change
abbrev pub only_checking : Ledger → Ledger → Ledger
only_checking old new =
    only ConsoleOut (only_opening Firmware (only_opening LogIn old new) new) new

-- how a run ended: by its tally, or by the outcome
abbrev pub judged : ReplayEnd → Result Tally Outcome
judged (replay_end.End reason code accepted turns) =
    Ok (record { events = accepted; turns = turns; reason = reason; code = code })
judged replay_end.ConsoleWrite = Err QuietFailed
judged replay_end.LogRead = Err LogUnreadable
judged replay_end.LogTooLong = Err LogTooLong
judged (replay_end.Refused refusal) = Err (LogRefused refusal)
judged replay_end.NoMemory = Err NoMemory

-- the fault that is named where a log has no tally
abbrev pub verdict_fault : Result Tally Outcome → Option Fault
verdict_fault (Ok t) = None
verdict_fault (Err outcome) = fault_of outcome
