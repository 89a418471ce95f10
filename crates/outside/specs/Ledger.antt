-- What a world tells of itself: its counts, the devices opened and given back, and what it holds.
use Rattle.std.specs.Prelude.{◌≡◌, ℕ, List, [], ◌∷◌, None, Some, ⊤}
use Rattle.std.specs.declared.option.Option.{Option}
use Rattle.outside.specs.declared.roles.Role.{Role}
use Rattle.outside.specs.declared.roles.Role.TheVariants.{ConsoleIn}
use Rattle.outside.specs.declared.roles.PerRole.{PerRole}
use Rattle.outside.specs.declared.openings.Opening.{Opening}
use Rattle.outside.specs.declared.openings.Opening.TheVariants.{Source, Sink, Disk, Clock}
use Rattle.outside.specs.Roles.{at, put, same}
use Rattle.outside.specs.Causes.{one_more, both}

-- all that a world tells; each of its calls changes what its equation names
pub record Ledger : Type 0 where
  -- how often the devices of a role failed, those of the disk, and openings
  pub faults : PerRole ℕ
  pub disk_faults : ℕ
  pub opening_faults : ℕ
  -- how many devices of a role were opened and given back
  pub opened : PerRole ℕ
  pub returned : PerRole ℕ
  pub disks_opened : ℕ
  pub disks_returned : ℕ
  pub clocks_opened : ℕ
  pub clocks_returned : ℕ
  -- the bytes that a name holds, and those of standard input
  pub names : List ℕ → Option (List ℕ)
  pub input : Option (List ℕ)
  -- all openings, and those that failed, the latest first
  pub openings : List Opening
  pub refused : List Opening
  -- what the source of a role last given back had left, what the sink last given back had taken,
  -- and what the clock given back had given
  pub left : PerRole (Option (List ℕ))
  pub last : PerRole (Option (List ℕ))
  pub clock : Option (List ℕ)

-- what a source of that role and name holds when it is opened
abbrev pub held : Ledger → Role → Option (List ℕ) → Option (List ℕ)
held l role (Some name) = l.names name
held l ConsoleIn None = l.input
held l _ None = Some []

-- what an image of that name holds
abbrev pub image_held : Ledger → Option (List ℕ) → Option (List ℕ)
image_held l (Some name) = l.names name
image_held l None = Some []

-- a source of the role was opened, under that name
abbrev pub opens : Ledger → Role → Option (List ℕ) → Ledger
opens l role name = record l {
  opened = put l.opened role (one_more (at l.opened role));
  openings = Source role name ∷ l.openings;
}

-- a sink of the role was opened, under that name
abbrev pub opens_sink : Ledger → Role → Option (List ℕ) → Ledger
opens_sink l role name = record l {
  opened = put l.opened role (one_more (at l.opened role));
  openings = Sink role name ∷ l.openings;
}

-- that opening failed
abbrev pub opening_fails : Ledger → Opening → Ledger
opening_fails l opening = record l {
  opening_faults = one_more l.opening_faults;
  refused = opening ∷ l.refused;
}

-- a source with that count was given back, which had these bytes left
abbrev pub source_back : Ledger → Role → ℕ → Option (List ℕ) → Ledger
source_back l role count left = record l {
  faults = put l.faults role (both (at l.faults role) count);
  returned = put l.returned role (one_more (at l.returned role));
  left = put l.left role left;
}

-- a sink with that count was given back, which had taken those bytes
abbrev pub sink_back : Ledger → Role → ℕ → Option (List ℕ) → Ledger
sink_back l role count taken = record l {
  faults = put l.faults role (both (at l.faults role) count);
  returned = put l.returned role (one_more (at l.returned role));
  last = put l.last role taken;
}

-- an image was opened, under that name
abbrev pub opens_disk : Ledger → Option (List ℕ) → Ledger
opens_disk l name = record l {
  disks_opened = one_more l.disks_opened;
  openings = Disk name ∷ l.openings;
}

-- an image with that count was given back
abbrev pub disk_back : Ledger → ℕ → Ledger
disk_back l count = record l {
  disk_faults = both l.disk_faults count;
  disks_returned = one_more l.disks_returned;
}

-- a clock was made
abbrev pub opens_clock : Ledger → Ledger
opens_clock l = record l {
  clocks_opened = one_more l.clocks_opened;
  openings = Clock ∷ l.openings;
}

-- a clock was given back, which had given those values
abbrev pub clock_back : Ledger → Option (List ℕ) → Ledger
clock_back l gave = record l { clocks_returned = one_more l.clocks_returned; clock = gave }

-- nothing was taken yet, where it is told
abbrev pub StartsEmpty : Option (List ℕ) → Type 0
StartsEmpty None = ⊤
StartsEmpty (Some xs) = xs ≡ []

-- nothing was opened or given back yet, and nothing failed
pub record IsNew (l : Ledger) : Type 0 where
  pub faults : l.faults ≡ same 0
  pub disk_faults : l.disk_faults ≡ 0
  pub opening_faults : l.opening_faults ≡ 0
  pub opened : l.opened ≡ same 0
  pub returned : l.returned ≡ same 0
  pub disks_opened : l.disks_opened ≡ 0
  pub disks_returned : l.disks_returned ≡ 0
  pub clocks_opened : l.clocks_opened ≡ 0
  pub clocks_returned : l.clocks_returned ≡ 0
  pub openings : l.openings ≡ []
  pub refused : l.refused ≡ []

-- a length that is known stays
abbrev pub KeepsSizes : (List ℕ → Option ℕ) → (List ℕ → Option ℕ) → Type 0
KeepsSizes old new = (name : List ℕ) (size : ℕ) → old name ≡ Some size → new name ≡ Some size

-- the length of an image that was opened under that name, or of none
abbrev pub HasSize : (List ℕ → Option ℕ) → Option (List ℕ) → ℕ → Type 0
HasSize sizes (Some name) size = sizes name ≡ Some size
HasSize sizes None size = size ≡ 0
