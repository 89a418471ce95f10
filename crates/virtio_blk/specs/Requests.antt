-- Requests of a disk, over one list of bytes.
use Rattle.std.specs.Prelude.{◌≡◌, ℕ, ◌+◌, ◌-◌, ◌/◌, ◌%◌, ◌^◌, ◌≤◌, List, length, take, drop, Bool, ◌&&◌, ◌||◌, nat_le, nat_lt, nat_eq, if◌then◌else◌, Result, Ok, Err}
use Rattle.byteorder.specs.Endian.{little_number}
use Rattle.vio_mmio.specs.declared.chain.Segment.{Segment}
use Rattle.vio_mmio.specs.declared.error.BadKind.{BadKind}
use Rattle.vio_mmio.specs.declared.error.BadKind.TheVariants.{Range}
use Rattle.virtio_blk.specs.declared.parse.Kind.{Kind}
use Rattle.virtio_blk.specs.declared.parse.Kind.TheVariants.{Read, Write, Flush, Refused, Unknown}
use Rattle.vio_mmio.specs.Spread.{gathered, total_of}

-- whether data of this length at a sector may be read or written: whole sectors of the disk, at
-- most 1 MiB
abbrev pub is_well_formed : ℕ → ℕ → ℕ → Bool
is_well_formed size sector sectors =
    nat_eq (size % 512) 0 && nat_le size (2 ^ 20) && nat_le (sector + size / 512) sectors

-- the types of a request (virtio 1.2, 5.2.6): VIRTIO_BLK_T_IN, VIRTIO_BLK_T_OUT, VIRTIO_BLK_T_FLUSH
abbrev pub type_in : ℕ
type_in = 0

abbrev pub type_out : ℕ
type_out = 1

abbrev pub type_flush : ℕ
type_flush = 4

-- what a header asks, where so many bytes are readable and writable: it is the type, 4 bytes that
-- are reserved, and the sector (5.2.6)
unfoldable pub kind_of : List ℕ → ℕ → ℕ → ℕ → Kind
kind_of header readable writable sectors =
    let asks = little_number 4 header in
    let sector = little_number 8 (drop 8 header) in
    if nat_eq asks type_in
    then (if is_well_formed (writable - 1) sector sectors then Read sector (writable - 1)
    else Refused)
    else (if nat_eq asks type_out
    then (if is_well_formed (readable - 16) sector sectors then Write sector else Refused)
    else (if nat_eq asks type_flush then Flush else Unknown))

-- what a chain asks, or that it is too short
unfoldable pub asked : List ℕ → List Segment → List Segment → ℕ → Result Kind BadKind
asked bytes readable writable sectors =
    let header = take 16 (gathered bytes readable) in
    if nat_lt (length header) 16 || nat_eq (total_of writable) 0 then Err Range
    else Ok (kind_of header (total_of readable) (total_of writable) sectors)

-- what is known of a request of a disk of so many sectors: a read is of whole sectors within it
abbrev pub KindFits : Kind → ℕ → Type 0
KindFits (Read sector len) sectors = (len % 512 ≡ 0) × (sector + len / 512 ≤ sectors)
KindFits (Write sector) sectors = Unit {0}
KindFits Flush sectors = Unit {0}
KindFits Refused sectors = Unit {0}
KindFits Unknown sectors = Unit {0}
