-- What the words ask to record, and what a recording of it writes.
use Rattle.std.specs.Prelude.{◌≡◌, ◌≤◌, ℕ, List, [], length, Some, IfSome, Ok}
use Rattle.outside.specs.Ledger.{Ledger}
use Rattle.outside.specs.Roles.{at}
use Rattle.outside.specs.declared.roles.Role.TheVariants.{ConsoleIn, ConsoleOut, LogOut}
use Rattle.command_line.specs.Words.{Recording}
use Rattle.elf_load.specs.declared.pieces.Loaded.{Loaded}
use Rattle.elf_load.specs.Load.{loaded}
use Rattle.event_log.specs.declared.header.Header.{Header}
use Rattle.event_log.specs.HeaderFormat.{header_text}
use Rattle.board.specs.Reset.{start_of}
use Rattle.rr_engine.specs.Stand.{Devices}
use Rattle.rr_engine.specs.Input.{Extent}
use Rattle.rr_engine.specs.Runs.{Whole, Front, ToStop, IsLogOf}
use Rattle.run_files.specs.declared.firmware.TheConstants.{FIRMWARE_LIMIT}
use Rattle.run_files.specs.Headers.{header_of}

-- the devices of a recording when they are opened: the console's input is what standard input holds
abbrev pub opened_with : Ledger → Devices
opened_with l = record {
  log = Some [];
  log_faults = 0;
  console = Some [];
  console_faults = 0;
  input = l.input;
  input_faults = 0;
  gave = Some [];
}

-- the same when they were given back
abbrev pub returned : Ledger → Devices
returned l = record {
  log = at l.last LogOut;
  log_faults = 0;
  console = at l.last ConsoleOut;
  console_faults = 0;
  input = at l.left ConsoleIn;
  input_faults = 0;
  gave = l.clock;
}

-- The log has the header and events of the machine from its start on, the last of which is END; the
-- console has the machine's bytes, and its input and the clock gave what the events have.
abbrev pub HasWhole : Header → Loaded → Ledger → Ledger → ℕ → ℕ → Type 0
HasWhole h firmware old new reason code =
    Whole (start_of h firmware) (header_text h) (opened_with old) (returned new) reason code

-- the same, broken off: the log has a front of that, and the console too
abbrev pub HasFront : Header → Loaded → Ledger → Ledger → Type 0
HasFront h firmware old new =
    Front (start_of h firmware) (header_text h) (opened_with old) (returned new)

-- The same, where the console or its input stopped the run: the log has all of the events, and END 3
-- is the last; or, where the console wasn't shown all, an END of the machine's own was due, and the
-- log has none.
abbrev pub HasStop : Extent → Header → Loaded → Ledger → Ledger → Type 0
HasStop shown h firmware old new =
    ToStop shown (start_of h firmware) (header_text h) (opened_with old) (returned new)

-- the log of the words' recording of a file is whole
pub record IsRecorded (r : Recording) (file : List ℕ) (old new : Ledger) (reason code : ℕ)
    : Type 0 where
  pub firmware : Loaded
  pub loads : loaded file r.ram_mib ≡ Ok firmware
  pub fits : length file ≤ FIRMWARE_LIMIT
  pub whole : HasWhole (header_of r file) firmware old new reason code

-- the log of the words' recording of a file has all, up to where the run was stopped
pub record IsRecordedToStop (r : Recording) (file : List ℕ) (shown : Extent) (old new : Ledger)
    : Type 0 where
  pub firmware : Loaded
  pub loads : loaded file r.ram_mib ≡ Ok firmware
  pub fits : length file ≤ FIRMWARE_LIMIT
  pub stop : HasStop shown (header_of r file) firmware old new

-- The log that was taken is one of the words' recording of a file, whole or broken off, and the
-- console and its input go with it.
pub record IsLogged (r : Recording) (file : List ℕ) (old new : Ledger) : Type 0 where
  pub firmware : Loaded
  pub loads : loaded file r.ram_mib ≡ Ok firmware
  pub front : HasFront (header_of r file) firmware old new
  pub log : IfSome (at new.last LogOut) (λ bytes.
      IsLogOf (start_of (header_of r file) firmware) (header_text (header_of r file)) bytes
      (at new.last ConsoleOut) old.input new.clock)

-- the file loads as some firmware, and isn't above the limit
pub record IsGood (r : Recording) (file : List ℕ) : Type 0 where
  pub firmware : Loaded
  pub loads : loaded file r.ram_mib ≡ Ok firmware
  pub fits : length file ≤ FIRMWARE_LIMIT
