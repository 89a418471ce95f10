-- A request acts wholly at its completion (virtio 1.2, 5.2.6).
use Rattle.std.specs.Prelude.{◌≡◌, ℕ, ◌%◌, ◌^◌, ◌*◌, ◌/◌, List, [], ◌∷◌, length, drop, Bool, true, false, ◌&&◌, not, if◌then◌else◌, Option, Some, None, Result, Ok, Err}
use Rattle.std.specs.Result.{IsOk}
use Rattle.vio_mmio.specs.declared.chain.Segment.{Segment}
use Rattle.vio_mmio.specs.Registers.{Registers}
use Rattle.vio_mmio.specs.GiveBack.{given_back}
use Rattle.vio_mmio.specs.Spread.{put_at, scattered, gathered, last_of, total_of}
use Rattle.overlay_disk.specs.Sectors.{Disk, over, sector_of, with_sectors}
use Rattle.virtio_blk.specs.declared.parse.Kind.{Kind}
use Rattle.virtio_blk.specs.declared.parse.Kind.TheVariants.{Read, Write, Flush, Refused, Unknown}
use Rattle.virtio_blk.specs.declared.complete.CompleteError.{CompleteError}
use Rattle.virtio_blk.specs.declared.complete.CompleteError.TheVariants.{NotInFlight, NotARead, NoMemory}
use Rattle.virtio_blk.specs.Notify.{Ask, Flight}
use Rattle.virtio_blk.specs.declared.request.Request.{Request}
use Rattle.virtio_blk.specs.Drive.{Drive, flight_in, without}
use Rattle.virtio_blk.specs.Requests.{is_well_formed}

-- whether a request is a well-formed read
abbrev pub is_read : Kind → Bool
is_read (Read sector len) = true
is_read (Write sector) = false
is_read Flush = false
is_read Refused = false
is_read Unknown = false

-- the status that the guest sees (5.2.6)
abbrev pub s_ok : ℕ
s_ok = 0

abbrev pub s_ioerr : ℕ
s_ioerr = 1

abbrev pub s_unsupp : ℕ
s_unsupp = 2

-- a read shows whether the image could be read, and a request that isn't well-formed fails
abbrev pub status_of : Kind → Bool → ℕ
status_of (Read sector len) ok = if ok then s_ok else s_ioerr
status_of (Write sector) ok = s_ok
status_of Flush ok = s_ok
status_of Refused ok = s_ioerr
status_of Unknown ok = s_unsupp

-- how many bytes are said to be written
abbrev pub used_of : Kind → Bool → List Segment → ℕ
used_of kind ok writable = if ok && is_read kind then total_of writable % 2 ^ 32 else 1

-- the memory with the bytes over the writable ranges, and the status in their last byte
abbrev pub answered : List ℕ → List Segment → List ℕ → ℕ → List ℕ
answered bytes writable found status =
    put_at (scattered bytes writable found) (last_of writable 0) (status ∷ [])

-- what a device and its memory show, with a disk of some form
pub record Scene (D : Type 0) : Type 0 where
  pub transport : Registers
  pub flights : List Flight
  pub ram : List ℕ
  pub disk : D

-- the bytes that a write gives the disk: those behind the header
abbrev pub sent_by : List ℕ → Ask → List ℕ
sent_by ram ask = drop 16 (gathered ram ask.parts.readable)

-- the disk after a request: a write puts its bytes from its sector on
abbrev pub disk_after : {D : Type 0} → (ℕ → List ℕ → D → D) → ℕ → Kind → List ℕ → D → D
disk_after put sectors (Read sector len) sent disk = disk
disk_after put sectors (Write sector) sent disk =
    if is_well_formed (length sent) sector sectors then put sector sent disk else disk
disk_after put sectors Flush sent disk = disk
disk_after put sectors Refused sent disk = disk
disk_after put sectors Unknown sent disk = disk

-- the request of an id is done, where found are the bytes that its read gives
abbrev pub finished :
    {D : Type 0} → (ℕ → List ℕ → D → D) → ℕ → ℕ → Ask → Bool → List ℕ → Scene D → Scene D
finished put sectors id ask ok found s =
    let writable = ask.parts.writable in
    let after = answered s.ram writable found (status_of ask.kind ok) in
    let back = given_back after s.transport 0 ask.head (used_of ask.kind ok writable) in
    record {
      transport = back.1;
      flights = without s.flights id;
      ram = back.0;
      disk = disk_after put sectors ask.kind (sent_by s.ram ask) s.disk;
    }

-- a completion of the request in flight of an id, if there is one
abbrev pub completed_of :
    {D : Type 0} → (ℕ → List ℕ → D → D) → (Kind → Bool → D → List ℕ) → ℕ → ℕ → Bool → Scene D
    → Option Flight → Result (Scene D) CompleteError
completed_of put look sectors id ok s None = Err (NotInFlight id)
completed_of put look sectors id ok s (Some f) =
    if not ok && not (is_read f.ask.kind) then Err (NotARead id)
    else Ok (finished put sectors id f.ask ok (look f.ask.kind ok s.disk) s)

-- a completion: what the guest and the disk have then, or why it is refused
unfoldable pub completed :
    {D : Type 0} → (ℕ → List ℕ → D → D) → (Kind → Bool → D → List ℕ) → ℕ → ℕ → Bool → Scene D
    → Result (Scene D) CompleteError
completed put look sectors id ok s =
    completed_of put look sectors id ok s (flight_in s.flights id)

-- the bytes that a read gives: the written sectors over the base's bytes of its range
abbrev pub look_over : List ℕ → Kind → Bool → (ℕ → Option (List ℕ)) → List ℕ
look_over base (Read sector len) true written = over written (512 * sector) base
look_over base (Read sector len) false written = []
look_over base (Write sector) ok written = []
look_over base Flush ok written = []
look_over base Refused ok written = []
look_over base Unknown ok written = []

-- written sectors after more are written
abbrev pub put_over : ℕ → List ℕ → (ℕ → Option (List ℕ)) → ℕ → Option (List ℕ)
put_over sector sent written = with_sectors written sector sent

-- what a device and its memory show, with the sectors that were written
abbrev pub scene_of : Drive → List ℕ → Scene (ℕ → Option (List ℕ))
scene_of d ram = record {
  transport = d.transport;
  flights = d.flights;
  ram = ram;
  disk = sector_of d.disk;
}

-- a completion by the base's bytes of the request's range
abbrev pub completed_over :
    List ℕ → ℕ → Bool → Drive → List ℕ
    → Result (Scene (ℕ → Option (List ℕ))) CompleteError
completed_over base id ok d ram =
    completed put_over (look_over base) (d.disk.len / 512) id ok (scene_of d ram)

-- the base's bytes are as many as the request of an id reads, if it is in flight
abbrev pub BaseFits : Option Request → Bool → List ℕ → Type 0
BaseFits None ok base = Unit {0}
BaseFits (Some request) ok base = ok ≡ true → length base ≡ request.len

-- the base's bytes of a read that succeeded are as many as it reads
abbrev pub BaseIsWhole : Kind → Bool → List ℕ → Type 0
BaseIsWhole (Read sector len) true base = length base ≡ len
BaseIsWhole (Read sector len) false base = Unit {0}
BaseIsWhole (Write sector) ok base = Unit {0}
BaseIsWhole Flush ok base = Unit {0}
BaseIsWhole Refused ok base = Unit {0}
BaseIsWhole Unknown ok base = Unit {0}

-- the sectors after these bytes are sent to one, if they are a well-formed write
abbrev pub written_where : Disk → ℕ → List ℕ → ℕ → Option (List ℕ)
written_where disk sector sent =
    if is_well_formed (length sent) sector (disk.len / 512)
    then with_sectors (sector_of disk) sector sent
    else sector_of disk

-- what a completion leaves; want of memory stands in place of no refusal
abbrev pub Completes :
    Drive → Drive → List ℕ → List ℕ → ℕ → Bool → List ℕ → Result (Unit {0}) CompleteError → Type 0
Completes old new before after id ok base (Ok done) =
    (completed_over base id ok old before ≡ Ok (scene_of new after))
    × (new.next ≡ old.next) × (new.disk.len ≡ old.disk.len)
Completes old new before after id ok base (Err (NotInFlight which)) =
    (completed_over base id ok old before ≡ Err (NotInFlight which))
    × (new ≡ old) × (after ≡ before)
Completes old new before after id ok base (Err (NotARead which)) =
    (completed_over base id ok old before ≡ Err (NotARead which))
    × (new ≡ old) × (after ≡ before)
Completes old new before after id ok base (Err NoMemory) =
    IsOk (completed_over base id ok old before) × (new ≡ old) × (after ≡ before)
