-- A replay over the devices of a world.
use Rattle.std.specs.Prelude.{◌≡◌, ◌≢◌, ◌<◌, ℕ, List, [], Some}
use Rattle.std.specs.declared.option.Option.{Option}
use Rattle.outside.specs.Causes.{both}
use Rattle.outside.specs.Ledger.{Ledger}
use Rattle.outside.specs.Roles.{at}
use Rattle.outside.specs.declared.roles.Role.TheVariants.{ConsoleOut, LogIn, Firmware}
use Rattle.event_log.specs.Reading.{Reader}
use Rattle.board.specs.State.{State}
use Rattle.rr_engine.specs.declared.replaying.ReplayEnd.{ReplayEnd}
use Rattle.rr_engine.specs.declared.replaying.ReplayEnd.TheVariants.{NoMemory}
use Rattle.rr_engine.specs.Replaying.{Replays, played}
use Rattle.run_files.specs.Ledgers.{only, only_opening}
use Rattle.commands.specs.Faults.{Fault, Opening, Device}

-- a replay over a console that was opened for it and given back, or that wasn't for want of memory
pub record ShowsOver (start : State) (log log' : Reader) (old new : Ledger) (end : ReplayEnd)
    : Type 0 where
  pub console : Option (List ℕ)
  pub faults : ℕ
  pub replays : Replays start (played log (Some []) 0) (played log' console faults) end
  pub taken : (end ≡ NoMemory → ⊥) → at new.last ConsoleOut ≡ console
  pub opened : at old.opened ConsoleOut < at new.opened ConsoleOut
      → at new.last ConsoleOut ≡ console
  pub counted : at new.faults ConsoleOut ≡ both (at old.faults ConsoleOut) faults

-- the old ledger with what a replay may change, while its log is read
abbrev pub only_playing : Ledger → Ledger → Ledger
only_playing old new = only ConsoleOut (only_opening Firmware old new) new

-- No count of what a replay opens while its log is read rose, nor that of its log's source, but for
-- this one.
pub record PlayingKeptBut (fault : Option Fault) (old new : Ledger) (before now : ℕ)
    : Type 0 where
  pub opening : fault ≢ Some Opening → new.opening_faults ≡ old.opening_faults
  pub firmware : fault ≢ Some (Device Firmware) → at new.faults Firmware ≡ at old.faults Firmware
  pub console : fault ≢ Some (Device ConsoleOut)
      → at new.faults ConsoleOut ≡ at old.faults ConsoleOut
  pub log : fault ≢ Some (Device LogIn) → now ≡ before
