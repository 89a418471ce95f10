-- The block device over the one list of a disk's bytes.
use Rattle.std.specs.Prelude.{◌≡◌, ℕ, ◌*◌, ◌/◌, List, [], length, take, drop, Bool, true, false, Option, Some, None, Result, Ok, Err}
use Rattle.ram_pages.specs.Memory.{overwritten}
use Rattle.overlay_disk.specs.OneDisk.{disk_bytes}
use Rattle.virtio_blk.specs.declared.parse.Kind.{Kind}
use Rattle.virtio_blk.specs.declared.parse.Kind.TheVariants.{Read, Write, Flush, Refused, Unknown}
use Rattle.virtio_blk.specs.declared.complete.CompleteError.{CompleteError}
use Rattle.virtio_blk.specs.Drive.{flight_in}
use Rattle.virtio_blk.specs.Notify.{Flight}
use Rattle.virtio_blk.specs.Completed.{Scene, completed, put_over, look_over}

-- the bytes that a read gives: those of the disk in its range
abbrev pub look_in : Kind → Bool → List ℕ → List ℕ
look_in (Read sector len) true disk = take len (drop (512 * sector) disk)
look_in (Read sector len) false disk = []
look_in (Write sector) ok disk = []
look_in Flush ok disk = []
look_in Refused ok disk = []
look_in Unknown ok disk = []

-- the disk's bytes after some are written from a sector on
abbrev pub put_in : ℕ → List ℕ → List ℕ → List ℕ
put_in sector sent disk = overwritten disk (512 * sector) sent

-- a completion on the one list of disk bytes
abbrev pub completed_on : ℕ → ℕ → Bool → Scene (List ℕ) → Result (Scene (List ℕ)) CompleteError
completed_on sectors id ok s = completed put_in look_in sectors id ok s

-- a scene with the disk as one list of bytes, the written sectors over the base image
abbrev pub on_image : List ℕ → Scene (ℕ → Option (List ℕ)) → Scene (List ℕ)
on_image image s = record {
  transport = s.transport;
  flights = s.flights;
  ram = s.ram;
  disk = disk_bytes s.disk image;
}

-- what comes of a completion, with the disk as one list of bytes
abbrev pub result_on :
    List ℕ → Result (Scene (ℕ → Option (List ℕ))) CompleteError
    → Result (Scene (List ℕ)) CompleteError
result_on image (Ok s) = Ok (on_image image s)
result_on image (Err e) = Err e

-- the base's bytes of a read that succeeded are those of the image in its range
abbrev pub IsOfImage : List ℕ → Kind → Bool → List ℕ → Type 0
IsOfImage image (Read sector len) true base = base ≡ take len (drop (512 * sector) image)
IsOfImage image (Read sector len) false base = Unit {0}
IsOfImage image (Write sector) ok base = Unit {0}
IsOfImage image Flush ok base = Unit {0}
IsOfImage image Refused ok base = Unit {0}
IsOfImage image Unknown ok base = Unit {0}

-- the same of the request that is in flight, if one is
abbrev pub OfImage : List ℕ → Option Flight → Bool → List ℕ → Type 0
OfImage image None ok base = Unit {0}
OfImage image (Some f) ok base = IsOfImage image f.ask.kind ok base

-- a completion over the base's bytes is a completion on the one list of the disk's bytes
abbrev pub ActsOnOneDisk : Type 0
ActsOnOneDisk = (image base : List ℕ) (id : ℕ) (ok : Bool) (s : Scene (ℕ → Option (List ℕ)))
    → OfImage image (flight_in s.flights id) ok base
    → completed_on (length image / 512) id ok (on_image image s)
    ≡ result_on image (completed put_over (look_over base) (length image / 512) id ok s)
