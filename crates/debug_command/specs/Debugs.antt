-- A debugging session on a recorded run, over the devices of a world.
use Rattle.std.specs.Prelude.{◌≡◌, ◌<◌, ◌≤◌, ◌⊎◌, ℕ, List, [], ◌∷◌, ◌++◌, length, Some, None, IfSome}
use Rattle.std.specs.declared.option.Option.{Option}
use Rattle.outside.specs.Ledger.{Ledger, StartsEmpty}
use Rattle.outside.specs.Roles.{at}
use Rattle.outside.specs.Told.{TakesFront}
use Rattle.outside.specs.declared.openings.Opening.{Opening}
use Rattle.outside.specs.declared.openings.Opening.TheVariants.{Source, Sink}
use Rattle.outside.specs.declared.roles.Role.TheVariants.{ConsoleIn, ConsoleOut, LogIn, Firmware}
use Rattle.elf_load.specs.declared.pieces.Loaded.{Loaded}
use Rattle.event_log.specs.declared.header.Header.{Header}
use Rattle.board.specs.State.{State}
use Rattle.board.specs.Reset.{start_of}
use Rattle.log_order.specs.declared.refusal.Refusal.{Refusal}
use Rattle.reverse_seek.specs.Script.{Script, Reads}
use Rattle.monitor.specs.Serving.{Heard, Written, Serves, heard, written}
use Rattle.monitor.specs.Session.{transcript}
use Rattle.monitor.specs.Debugging.{Session}
use Rattle.monitor.specs.declared.sessions.SessionEnd.{SessionEnd}
use Rattle.monitor.specs.declared.debugging.DebugEnd.{DebugEnd}
use Rattle.monitor.specs.declared.debugging.DebugEnd.TheVariants.{NoMemory}
use Rattle.run_files.specs.Files.{firmware_opening}
use Rattle.run_files.specs.Headers.{HasHeader}
use Rattle.run_files.specs.Images.{IsFirmware, NamesNoDisk}
use Rattle.run_files.specs.Ledgers.{only, only_opening}
use Rattle.debug_command.specs.declared.debugging.TheConstants.{LOG_LIMIT}

-- standard input and standard output
abbrev pub stream_openings : List Opening
stream_openings = Source ConsoleIn None ∷ Sink ConsoleOut None ∷ []

-- the log, the firmware's file, and the streams
abbrev pub debug_openings : List ℕ → List ℕ → List Opening
debug_openings log bios = Source LogIn (Some log) ∷ firmware_opening bios ∷ stream_openings

-- the old ledger with what a session may change, once the files were read
abbrev pub only_holding : Ledger → Ledger → Ledger
only_holding old new = only ConsoleOut (only ConsoleIn old new) new

-- the old ledger with what a debugging session may change
abbrev pub only_debugging : Ledger → Ledger → Ledger
only_debugging old new =
    only_holding (only_opening Firmware (only_opening LogIn old new) new) new

-- standard input before a session and after it
abbrev pub input_before : Ledger → Heard
input_before l = heard l.input (at l.faults ConsoleIn)

abbrev pub input_after : Ledger → Heard
input_after l = heard (at l.left ConsoleIn) (at l.faults ConsoleIn)

-- standard output before a session and after it
abbrev pub output_before : Ledger → Written
output_before l = written (Some []) (at l.faults ConsoleOut)

abbrev pub output_after : Ledger → Written
output_after l = written (at l.last ConsoleOut) (at l.faults ConsoleOut)

-- what was opened of standard input was given back unread
abbrev pub IsUnread : Ledger → Ledger → Type 0
IsUnread old new =
    at old.opened ConsoleIn < at new.opened ConsoleIn → at new.left ConsoleIn ≡ old.input

-- what was opened of standard output took nothing
abbrev pub IsBare : Ledger → Ledger → Type 0
IsBare old new =
    at old.opened ConsoleOut < at new.opened ConsoleOut → StartsEmpty (at new.last ConsoleOut)

-- memory was refused before a session began, and no stream failed or took anything
pub record NeverBegan (result : DebugEnd) (old new : Ledger) : Type 0 where
  pub is : result ≡ NoMemory
  pub input : at new.faults ConsoleIn ≡ at old.faults ConsoleIn
  pub output : at new.faults ConsoleOut ≡ at old.faults ConsoleOut
  pub bare : IsBare old new

-- a session over the streams, or none
abbrev pub HoldsOver : State → List ℕ → DebugEnd → Ledger → Ledger → Type 0
HoldsOver start log result old new =
    Session start log result (input_before old) (input_after new) (output_before old)
    (output_after new)
    ⊎ NeverBegan result old new

-- The log isn't above the limit and has a header, the file is the firmware that this names, and
-- there is no disk; the script is the log's accepted part from their start, and the refusal is of
-- what comes after it.
pub record IsAcceptedPart (log file : List ℕ) (script : Script) (refusal : Option Refusal)
    : Type 0 where
  pub header : Header
  pub firmware : Loaded
  pub short : length log ≤ LOG_LIMIT
  pub has : HasHeader log header
  pub image : IsFirmware header file firmware
  pub disk : NamesNoDisk header
  pub reads : Reads (start_of header firmware) log script refusal

-- a session over the accepted part of the log, from standard input to standard output, ended so
pub record IsHeld (log file : List ℕ) (refusal : Option Refusal) (end : SessionEnd)
    (old new : Ledger)
    : Type 0 where
  pub script : Script
  pub part : IsAcceptedPart log file script refusal
  pub serves : Serves script end (input_before old) (input_after new) (output_before old)
      (output_after new)

-- standard output has a front of the transcript, over the accepted part, of bytes that standard
-- input began with
pub record ShowsFront (log file : List ℕ) (old new : Ledger) : Type 0 where
  pub script : Script
  pub refusal : Option Refusal
  pub part : IsAcceptedPart log file script refusal
  pub read : List ℕ
  pub began : IfSome old.input (λ bytes. (rest : List ℕ) × (bytes ≡ read ++ rest))
  pub front : TakesFront (Some []) (at new.last ConsoleOut) (transcript script read)

-- the same; or nothing, where memory was refused before the session began
abbrev pub IsShown : List ℕ → List ℕ → Ledger → Ledger → Type 0
IsShown log file old new = StartsEmpty (at new.last ConsoleOut) ⊎ ShowsFront log file old new
