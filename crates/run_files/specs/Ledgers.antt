-- What a run may change of a world, role by role.
use Rattle.std.specs.Prelude.{◌≡◌, ◌+◌, ◌-◌, ◌<◌, ◌≤◌, ◌^◌}
use Rattle.outside.specs.Causes.{Stood}
use Rattle.outside.specs.Ledger.{Ledger, StartsEmpty}
use Rattle.outside.specs.Roles.{at, put}
use Rattle.outside.specs.declared.roles.Role.{Role}
use Rattle.outside.specs.declared.roles.Role.TheVariants.{ConsoleIn, ConsoleOut, LogIn, LogOut, Firmware}

-- the old ledger with what was opened, and with the counts and the bytes of one role, from the new
abbrev pub only : Role → Ledger → Ledger → Ledger
only role old new = record old {
  faults = put old.faults role (at new.faults role);
  opened = put old.opened role (at new.opened role);
  returned = put old.returned role (at new.returned role);
  openings = new.openings;
  left = put old.left role (at new.left role);
  last = put old.last role (at new.last role);
}

-- the same, where an opening may have failed
abbrev pub only_opening : Role → Ledger → Ledger → Ledger
only_opening role old new = record (only role old new) {
  opening_faults = new.opening_faults;
  refused = new.refused;
}

-- the old ledger with what the new says of openings and of clocks
abbrev pub only_shared : Ledger → Ledger → Ledger
only_shared old new = record old {
  openings = new.openings;
  opening_faults = new.opening_faults;
  refused = new.refused;
  clocks_opened = new.clocks_opened;
  clocks_returned = new.clocks_returned;
  clock = new.clock;
}

-- the old ledger with what a recording may change, once the firmware was read
abbrev pub only_recording : Ledger → Ledger → Ledger
only_recording old new =
    only_shared (only LogOut (only ConsoleOut (only ConsoleIn old new) new) new) new

-- the old ledger with what a run may change
abbrev pub only_run : Ledger → Ledger → Ledger
only_run old new = only LogIn (only_recording (only Firmware old new) new) new

-- nothing was shown on the console, and nothing was read of standard input
pub record Untouched (old new : Ledger) : Type 0 where
  pub shown : at old.opened ConsoleOut < at new.opened ConsoleOut
      → StartsEmpty (at new.last ConsoleOut)
  pub read : at old.opened ConsoleIn < at new.opened ConsoleIn → at new.left ConsoleIn ≡ old.input

-- what was opened of a role was given back, and at most one was
pub record Balanced (role : Role) (old new : Ledger) : Type 0 where
  pub same : at old.opened role < 2 ^ 63 → at old.returned role < 2 ^ 63
      → at new.opened role - at old.opened role ≡ at new.returned role - at old.returned role
  pub opened : at old.opened role ≤ at new.opened role
  pub once : at new.opened role ≤ at old.opened role + 1
  pub returned : at old.returned role ≤ at new.returned role

-- the same of clocks
pub record ClocksBalanced (old new : Ledger) : Type 0 where
  pub same : old.clocks_opened < 2 ^ 63 → old.clocks_returned < 2 ^ 63
      → new.clocks_opened - old.clocks_opened ≡ new.clocks_returned - old.clocks_returned
  pub opened : old.clocks_opened ≤ new.clocks_opened
  pub once : new.clocks_opened ≤ old.clocks_opened + 1
  pub returned : old.clocks_returned ≤ new.clocks_returned

-- no disk was opened or given back
pub record NoDisk (old new : Ledger) : Type 0 where
  pub opened : new.disks_opened ≡ old.disks_opened
  pub returned : new.disks_returned ≡ old.disks_returned

-- no count of a run's devices rose
pub record CountsStood (old new : Ledger) : Type 0 where
  pub opening : Stood old.opening_faults new.opening_faults
  pub firmware : Stood (at old.faults Firmware) (at new.faults Firmware)
  pub input : Stood (at old.faults ConsoleIn) (at new.faults ConsoleIn)
  pub console : Stood (at old.faults ConsoleOut) (at new.faults ConsoleOut)
  pub log : Stood (at old.faults LogOut) (at new.faults LogOut)
  pub replayed_log : Stood (at old.faults LogIn) (at new.faults LogIn)

-- they are what they were
pub record CountsKept (old new : Ledger) : Type 0 where
  pub opening : new.opening_faults ≡ old.opening_faults
  pub firmware : at new.faults Firmware ≡ at old.faults Firmware
  pub input : at new.faults ConsoleIn ≡ at old.faults ConsoleIn
  pub console : at new.faults ConsoleOut ≡ at old.faults ConsoleOut
  pub log : at new.faults LogOut ≡ at old.faults LogOut
  pub replayed_log : at new.faults LogIn ≡ at old.faults LogIn
