-- The written sectors and the base image are one list of bytes.
use Rattle.std.specs.Prelude.{◌≡◌, ℕ, ◌+◌, ◌*◌, ◌%◌, ◌≤◌, List, length, take, drop, Option}
use Rattle.ram_pages.specs.Memory.{overwritten}
use Rattle.overlay_disk.specs.Sectors.{over, with_sectors}

-- the one list of a disk's bytes: the written sectors over the whole base image
abbrev pub disk_bytes : (ℕ → Option (List ℕ)) → List ℕ → List ℕ
disk_bytes sectors image = over sectors 0 image

-- what a range of the image gives under the written sectors is that range of the disk
abbrev pub ReadsOneDisk : Type 0
ReadsOneDisk = (sectors : ℕ → Option (List ℕ)) (image : List ℕ) (sector len : ℕ)
    → over sectors (512 * sector) (take len (drop (512 * sector) image))
    ≡ take len (drop (512 * sector) (disk_bytes sectors image))

-- a write of whole sectors is a write over the disk's bytes
abbrev pub WritesOneDisk : Type 0
WritesOneDisk = (sectors : ℕ → Option (List ℕ)) (image : List ℕ) (sector : ℕ) (bytes : List ℕ)
    → length bytes % 512 ≡ 0 → 512 * sector + length bytes ≤ length image
    → disk_bytes (with_sectors sectors sector bytes) image
    ≡ overwritten (disk_bytes sectors image) (512 * sector) bytes

-- a disk has as many bytes as its image
abbrev pub KeepsLength : Type 0
KeepsLength =
    (sectors : ℕ → Option (List ℕ)) (image : List ℕ)
    → length (disk_bytes sectors image) ≡ length image
