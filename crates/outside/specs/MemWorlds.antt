-- What a world in memory tells.
use Rattle.std.specs.Prelude.{◌≡◌, ℕ, Bool, Result, OnOk, IsErrOf, if◌then◌else◌, false, List, Some, None, find, string_bytes, option_map, length, nat_eq}
use Rattle.std.specs.declared.option.Option.{Option}
use Rattle.std.specs.List.{list_any}
use Rattle.std.specs.Str.{bytes_eq}
use Rattle.outside.specs.declared.mem_world.MemFile.{MemFile}
use Rattle.outside.specs.declared.mem_world.MemWorld.{MemWorld}
use Rattle.outside.specs.declared.roles.PerRole.{PerRole}
use Rattle.outside.specs.declared.world.OpenError.{OpenError}
use Rattle.outside.specs.declared.world.OpenError.TheVariants.{Failed, NoMemory}
use Rattle.outside.specs.Causes.{one_more}
use Rattle.outside.specs.Roles.{each}
use Rattle.outside.specs.Ledger.{Ledger}
use Rattle.outside.specs.Fakes.{clock_gave}

-- the bytes of the first file of that name
abbrev pub bytes_of : List MemFile → List ℕ → Option (List ℕ)
bytes_of files name =
    option_map (λ f. f.bytes.items) (find (λ f. bytes_eq (string_bytes f.name) name) files)

-- a world in memory tells all
abbrev pub mem_ledger : MemWorld → Ledger
mem_ledger w = record {
  faults = w.counters.faults;
  disk_faults = w.counters.disk_faults;
  opening_faults = w.counters.opening_faults;
  opened = w.counters.opened;
  returned = w.counters.returned;
  disks_opened = w.counters.disks_opened;
  disks_returned = w.counters.disks_returned;
  clocks_opened = w.counters.clocks_opened;
  clocks_returned = w.counters.clocks_returned;
  names = λ name. bytes_of w.files.items name;
  input = Some w.input.items;
  openings = w.counters.openings;
  refused = w.counters.refused;
  left = w.counters.left;
  last = each (λ v. Some v.items) w.last;
  clock = clock_gave w.last_clock;
}

-- the length of the first file of that name
abbrev pub mem_sizes : MemWorld → List ℕ → Option ℕ
mem_sizes w name = option_map (λ bytes. length bytes) (bytes_of w.files.items name)

-- which calls of its devices fail, which opens of a name, and what its clocks give
pub record Plan : Type 0 where
  pub failing : PerRole (List ℕ)
  pub failing_disk : List ℕ
  pub failing_opens : List ℕ
  pub named_opens : ℕ
  pub clock_values : List ℕ

-- the plan of a world
abbrev pub mem_plan : MemWorld → Plan
mem_plan w = record {
  failing = each (λ v. v.items) w.failing;
  failing_disk = w.failing_disk.items;
  failing_opens = w.failing_opens.items;
  named_opens = w.named_opens;
  clock_values = w.clock_values.items;
}

-- whether an open of that name is to fail: those that have a name are numbered from 0
abbrev pub open_fails : Plan → Option (List ℕ) → Bool
open_fails p (Some _) = list_any (λ n. nat_eq n p.named_opens) p.failing_opens
open_fails p None = false

-- the bytes that an open of that name finds, of those that it holds
abbrev pub found : Plan → Option (List ℕ) → Option (List ℕ) → Option (List ℕ)
found p name bytes = if open_fails p name then None else bytes

-- how many opens had a name, after one of that name
abbrev pub named_after : ℕ → Option (List ℕ) → ℕ
named_after count (Some _) = one_more count
named_after count None = count

-- the plan after an open of that name
abbrev pub after_open : Plan → Option (List ℕ) → Plan
after_open p name = record p { named_opens = named_after p.named_opens name }

-- an open of that name was numbered, but for want of memory
pub record Numbers {T : Type 0} (name : Option (List ℕ)) (old new : Plan)
    (result : Result T OpenError) : Type 0 where
  pub done : OnOk result (new ≡ after_open old name)
  pub failed : IsErrOf result Failed → new ≡ after_open old name
  pub memory : IsErrOf result NoMemory → new ≡ old
