-- The block device as its driver and its workers see it.
use Rattle.std.specs.Prelude.{◌≡◌, ℕ, ◌+◌, ◌*◌, ◌/◌, ◌^◌, ◌≤◌, ◌==◌, List, [], ◌++◌, length, map, Option, Some, None, position, slice_get, remove}
use Rattle.std.specs.List.{All}
use Rattle.overlay_disk.specs.Sectors.{Disk}
use Rattle.vio_mmio.specs.Registers.{Registers, reset_of}
use Rattle.virtio_blk.specs.declared.parse.Kind.{Kind}
use Rattle.virtio_blk.specs.declared.parse.Kind.TheVariants.{Read, Write, Flush, Refused, Unknown}
use Rattle.virtio_blk.specs.declared.notify.Parsed.{Parsed}
use Rattle.virtio_blk.specs.declared.request.Request.{Request}
use Rattle.virtio_blk.specs.Notify.{Flight, Outcome, found_by}
use Rattle.virtio_blk.specs.Requests.{KindFits}

-- the registers, the disk, the next id, and the requests in flight in order of issue
pub record Drive : Type 0 where
  pub transport : Registers
  pub disk : Disk
  pub next : ℕ
  pub flights : List Flight

-- the features that are offered: VERSION_1 (virtio 1.2, 6) and VIRTIO_BLK_F_FLUSH (5.2.3)
abbrev pub block_features : ℕ
block_features = 2 ^ 32 + 2 ^ 9

-- the device of a disk before any request: its device ID is 2, and it has one queue (5.2)
abbrev pub new_drive : Disk → Drive
new_drive disk = record {
  transport = reset_of 2 1 block_features;
  disk = disk;
  next = 0;
  flights = [];
}

-- what a worker reads for a request
abbrev pub request_for : ℕ → Kind → Request
request_for id (Read sector len) = record { id = id; at = 512 * sector; len = len }
request_for id (Write sector) = record { id = id; at = 0; len = 0 }
request_for id Flush = record { id = id; at = 0; len = 0 }
request_for id Refused = record { id = id; at = 0; len = 0 }
request_for id Unknown = record { id = id; at = 0; len = 0 }

abbrev pub request_of : Flight → Request
request_of f = request_for f.id f.ask.kind

-- the place of an id among the requests in flight
abbrev pub place_in : List Flight → ℕ → Option ℕ
place_in flights id = position (λ f. f.id == id) flights

-- the element at a place, if there is a place and an element
abbrev pub at_place : List Flight → Option ℕ → Option Flight
at_place flights None = None
at_place flights (Some place) = slice_get flights place

-- the request of an id that is in flight
abbrev pub flight_in : List Flight → ℕ → Option Flight
flight_in flights id = at_place flights (place_in flights id)

-- the requests in flight but that at a place
abbrev pub but_place : List Flight → Option ℕ → List Flight
but_place flights None = flights
but_place flights (Some place) = remove flights place

-- the requests in flight but that of an id
abbrev pub without : List Flight → ℕ → List Flight
without flights id = but_place flights (place_in flights id)

-- what is true of every device: the ids stand beside the requests, no more are in flight than were
-- issued, and each read is of whole sectors within the disk
pub record IsSound (numbers : List ℕ) (parsed : List Parsed) (next sectors : ℕ) : Type 0 where
  pub ids : numbers ≡ map (λ p. p.id) parsed
  pub few : length parsed ≤ next
  pub fit : All (λ p. KindFits p.kind sectors) parsed

-- what a notify of a drive finds
abbrev pub found_in : Drive → List ℕ → Outcome
found_in d ram = found_by ram (d.disk.len / 512) d.next d.transport

-- the drive after a notify: what it found is in flight behind what was
abbrev pub with_found : Drive → Outcome → Drive
with_found d found = record d {
  transport = found.transport;
  next = d.next + length found.flights;
  flights = d.flights ++ found.flights;
}

-- what a notify leaves, and what workers are to read
abbrev pub Notifies : Drive → Drive → List Request → Outcome → Type 0
Notifies old new requests found =
    (new ≡ with_found old found) × (requests ≡ map request_of found.flights)
