-- What the world of a process tells: its counts, and no bytes but those of a device that has none.
use Rattle.std.specs.Prelude.{ℕ, List, [], Some, None, find, option_map, string_bytes}
use Rattle.std.specs.Str.{bytes_eq}
use Rattle.std.specs.declared.option.Option.{Option}
use Rattle.outside.specs.declared.host_world.HostSource.{HostSource}
use Rattle.outside.specs.declared.host_world.Outlet.{Outlet}
use Rattle.outside.specs.declared.host_world.HostImage.{HostImage}
use Rattle.outside.specs.declared.host_world.HostWorld.{HostWorld}
use Rattle.outside.specs.declared.host_world.HostSource.TheVariants as source
use Rattle.outside.specs.declared.host_world.Outlet.TheVariants as outlet
use Rattle.outside.specs.declared.host_world.HostImage.TheVariants as image
use Rattle.outside.specs.Roles.{same}
use Rattle.outside.specs.Ledger.{Ledger}

-- a source tells nothing, unless it has nothing
abbrev pub source_left : HostSource → Option (List ℕ)
source_left (source.Standard _) = None
source_left (source.File _) = None
source_left source.Nothing = Some []

-- how often a source failed
abbrev pub source_faults : HostSource → ℕ
source_faults (source.Standard faults) = faults
source_faults (source.File faults) = faults
source_faults source.Nothing = 0

-- how often what takes a sink's bytes failed
abbrev pub outlet_faults : Outlet → ℕ
outlet_faults (outlet.Standard faults) = faults
outlet_faults (outlet.File faults) = faults
outlet_faults outlet.Nothing = 0

-- an image tells nothing, unless it has nothing
abbrev pub image_content : HostImage → Option (List ℕ)
image_content (image.File _) = None
image_content image.Nothing = Some []

-- how many bytes an image has
abbrev pub image_size : HostImage → ℕ
image_size (image.File f) = f.size
image_size image.Nothing = 0

-- how often an image failed
abbrev pub image_faults : HostImage → ℕ
image_faults (image.File f) = f.faults
image_faults image.Nothing = 0

-- the counts, and nothing of any bytes
abbrev pub host_ledger : HostWorld → Ledger
host_ledger w = record {
  faults = w.counters.faults;
  disk_faults = w.counters.disk_faults;
  opening_faults = w.counters.opening_faults;
  opened = w.counters.opened;
  returned = w.counters.returned;
  disks_opened = w.counters.disks_opened;
  disks_returned = w.counters.disks_returned;
  clocks_opened = w.counters.clocks_opened;
  clocks_returned = w.counters.clocks_returned;
  names = λ name. None;
  input = None;
  openings = w.counters.openings;
  refused = w.counters.refused;
  left = w.counters.left;
  last = same None;
  clock = None;
}

-- the length that an image of that name had
abbrev pub host_sizes : HostWorld → List ℕ → Option ℕ
host_sizes w name =
    option_map (λ l. l.len) (find (λ l. bytes_eq (string_bytes l.name) name) w.lengths.items)
