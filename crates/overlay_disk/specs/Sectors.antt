-- A disk's bytes: the written sectors over the base's bytes. A sector has 512 bytes (virtio 1.2, 5.2).
use Rattle.std.specs.Prelude.{◌≡◌, ℕ, ◌+◌, ◌*◌, ◌-◌, ◌/◌, ◌%◌, ◌<◌, ◌≤◌, ◌&&◌, nat_le, nat_lt, if◌then◌else◌, List, [], ◌∷◌, length, take, drop, slice_index, Option, Some, None, Result, Ok, Err}
use Rattle.std.specs.Ordering.{nat_cmp}
use Rattle.std.specs.BTreeMap.{is_at}
use Rattle.std.specs.Map.{lookup}
use Rattle.std.specs.declared.rc.Rc.{Rc}
use Rattle.overlay_disk.specs.declared.tree.Node.{Node}
use Rattle.overlay_disk.specs.Trees.{sector_in}
use Rattle.overlay_disk.specs.declared.overlay.OverlayError.{OverlayError}
use Rattle.overlay_disk.specs.declared.overlay.OverlayError.TheVariants.{PastEnd, NoMemory}

-- a disk: its length, and the sectors that were written, each with its bytes
pub record Disk : Type 0 where
  pub len : ℕ
  pub written : List (ℕ × List ℕ)

-- the bytes of a sector, if it was written
abbrev pub sector_of : Disk → ℕ → Option (List ℕ)
sector_of disk k = lookup (is_at (nat_cmp k)) disk.written

-- a byte of a sector, or the base's where the sector wasn't written
abbrev pub byte_in : Option (List ℕ) → ℕ → ℕ → ℕ
byte_in None i base = base
byte_in (Some bytes) i base = slice_index bytes i

-- the written sectors over the base's bytes, the first of which stands at a place of the disk
unfoldable pub over : (ℕ → Option (List ℕ)) → ℕ → List ℕ → List ℕ
over sectors place [] = []
over sectors place (b ∷ bs) = byte_in (sectors (place / 512)) (place % 512) b ∷ over sectors (place + 1) bs

-- the sectors after these bytes are written from a sector on
abbrev pub with_sectors : (ℕ → Option (List ℕ)) → ℕ → List ℕ → ℕ → Option (List ℕ)
with_sectors sectors sector bytes k =
    if nat_le sector k && nat_lt k (sector + length bytes / 512)
    then Some (take 512 (drop (512 * (k - sector)) bytes))
    else sectors k

-- new has so many sectors of these bytes, and else those of old
abbrev pub WritesIn : {A : Type 0} → Option (Rc Node A) → Option (Rc Node A) → ℕ → ℕ → List ℕ → Type 0
WritesIn old new sector count bytes =
    (k : ℕ) → sector_in new k
    ≡ (if nat_le sector k && nat_lt k (sector + count)
    then Some (take 512 (drop (512 * (k - sector)) bytes))
    else sector_in old k)

-- what a write leaves: a range that passes the disk's end is refused, and a refusal changes nothing
abbrev pub Writes : Disk → Disk → ℕ → List ℕ → Result (Unit {0}) OverlayError → Type 0
Writes old new sector bytes (Ok done) =
    (sector + length bytes / 512 ≤ old.len / 512) × (new.len ≡ old.len)
    × (sector_of new ≡ with_sectors (sector_of old) sector bytes)
Writes old new sector bytes (Err PastEnd) = (old.len / 512 < sector + length bytes / 512) × (new ≡ old)
Writes old new sector bytes (Err NoMemory) = (sector + length bytes / 512 ≤ old.len / 512) × (new ≡ old)
