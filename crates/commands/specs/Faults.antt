-- Which fault an outcome names, and that no other was counted.
use Rattle.std.specs.Prelude.{◌≡◌, ◌≢◌, ℕ, ◌==◌, true, [], ◌∷◌, Some, None, ⊤}
use Rattle.std.specs.List.{list_any}
use Rattle.std.specs.declared.option.Option.{Option}
use Rattle.outside.specs.Ledger.{Ledger}
use Rattle.outside.specs.Roles.{at}
use Rattle.outside.specs.declared.roles.Role.{Role}
use Rattle.outside.specs.declared.roles.Role.TheVariants.{ConsoleIn, ConsoleOut, LogIn, LogOut, Firmware}
use Rattle.commands.specs.declared.outcome.Outcome.{Outcome}
use Rattle.commands.specs.declared.outcome.Outcome.TheVariants.{CannotOpen, CannotRead, ConsoleUnreadable, ConsoleFailed, LogFailed, LogUnreadable, QuietFailed, CommandsUnreadable, NoMemory}

-- what is counted: openings that failed, or the faults of a role's devices
pub data Fault : Type 0 where
  Opening : Fault
  Device : Role → Fault

-- the fault that an outcome names
abbrev pub fault_of : Outcome → Option Fault
fault_of (CannotOpen role) = Some Opening
fault_of CannotRead = Some (Device Firmware)
fault_of ConsoleUnreadable = Some (Device ConsoleIn)
fault_of ConsoleFailed = Some (Device ConsoleOut)
fault_of QuietFailed = Some (Device ConsoleOut)
fault_of CommandsUnreadable = Some (Device ConsoleIn)
fault_of LogFailed = Some (Device LogOut)
fault_of LogUnreadable = Some (Device LogIn)
fault_of other = None

-- each count of faults is what it was, but for this one
pub record KeptBut (fault : Option Fault) (old new : Ledger) : Type 0 where
  pub opening : fault ≢ Some Opening → new.opening_faults ≡ old.opening_faults
  pub firmware : fault ≢ Some (Device Firmware) → at new.faults Firmware ≡ at old.faults Firmware
  pub input : fault ≢ Some (Device ConsoleIn) → at new.faults ConsoleIn ≡ at old.faults ConsoleIn
  pub console : fault ≢ Some (Device ConsoleOut)
      → at new.faults ConsoleOut ≡ at old.faults ConsoleOut
  pub log : fault ≢ Some (Device LogOut) → at new.faults LogOut ≡ at old.faults LogOut
  pub replayed_log : fault ≢ Some (Device LogIn) → at new.faults LogIn ≡ at old.faults LogIn

-- The outcome names each fault that was counted, which is one or none. Where memory is refused
-- nothing is said.
abbrev pub NamesFault : Outcome → Ledger → Ledger → Type 0
NamesFault NoMemory old new = ⊤
NamesFault outcome old new = KeptBut (fault_of outcome) old new

-- The same, but for the log's count.
pub record KeptButLog (fault : Option Fault) (old new : Ledger) : Type 0 where
  pub opening : fault ≢ Some Opening → new.opening_faults ≡ old.opening_faults
  pub firmware : fault ≢ Some (Device Firmware) → at new.faults Firmware ≡ at old.faults Firmware
  pub input : fault ≢ Some (Device ConsoleIn) → at new.faults ConsoleIn ≡ at old.faults ConsoleIn
  pub console : fault ≢ Some (Device ConsoleOut)
      → at new.faults ConsoleOut ≡ at old.faults ConsoleOut
  pub replayed_log : fault ≢ Some (Device LogIn) → at new.faults LogIn ≡ at old.faults LogIn

-- The outcome of a recording names the first fault that was counted, and no other was. Where the
-- console or its input stopped it, END 3 is written to the log then, which may fail too.
abbrev pub NamesFirstFault : Outcome → Ledger → Ledger → Type 0
NamesFirstFault ConsoleUnreadable old new = KeptButLog (Some (Device ConsoleIn)) old new
NamesFirstFault ConsoleFailed old new = KeptButLog (Some (Device ConsoleOut)) old new
NamesFirstFault outcome old new = NamesFault outcome old new

-- the statuses of a run or a text that came to its end, and of a log that is refused
abbrev pub IsFaultless : ℕ → Type 0
IsFaultless status =
    list_any (λ n. n == status) (0 ∷ 10 ∷ 12 ∷ 13 ∷ 14 ∷ 20 ∷ []) ≡ true
