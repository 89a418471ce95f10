-- A file that is opened, read, and given back.
use Rattle.std.specs.Prelude.{◌≡◌, ℕ, List, ◌∷◌, Some}
use Rattle.outside.specs.Causes.{Rose}
use Rattle.outside.specs.Ledger.{Ledger}
use Rattle.outside.specs.declared.openings.Opening.{Opening}
use Rattle.outside.specs.declared.openings.Opening.TheVariants.{Source}
use Rattle.outside.specs.Roles.{at}
use Rattle.outside.specs.declared.roles.Role.{Role}
use Rattle.outside.specs.declared.roles.Role.TheVariants.{Firmware}

-- a firmware's file under that name
abbrev pub firmware_opening : List ℕ → Opening
firmware_opening bios = Source Firmware (Some bios)

-- this opening failed
pub record FailsToOpen (opening : Opening) (old new : Ledger) : Type 0 where
  pub counted : Rose old.opening_faults new.opening_faults
  pub which : new.refused ≡ opening ∷ old.refused

-- the counts of openings and of a role's devices are what they were
pub record CountsSame (role : Role) (old new : Ledger) : Type 0 where
  pub opening : new.opening_faults ≡ old.opening_faults
  pub refused : new.refused ≡ old.refused
  pub faults : at new.faults role ≡ at old.faults role
