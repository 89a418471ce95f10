-- Completions on the one list of a disk's bytes.
use Rattle.std.proofs.Common.{◌≡◌, ◌≤◌, ◌+◌, ◌*◌, ◌/◌, ◌%◌, ℕ, List, Bool, true, false, ◌&&◌, not, cond, Option, Some, None, Ok, Err, ap, ◌∙◌, sym, refl, arith, length}
use Rattle.std.proofs.lemmas.Bool.Decides.{nat_tests}
use Rattle.overlay_disk.specs.Sectors.{over, with_sectors}
use Rattle.overlay_disk.specs.OneDisk.{disk_bytes}
use Rattle.overlay_disk.proofs.Disks.{reads_one_disk, writes_one_disk}
use Rattle.virtio_blk.specs.declared.parse.Kind.{Kind}
use Rattle.virtio_blk.specs.declared.parse.Kind.TheVariants.{Read, Write, Flush, Refused, Unknown}
use Rattle.virtio_blk.specs.declared.complete.CompleteError.TheVariants.{NotARead}
use Rattle.virtio_blk.specs.Notify.{Flight}
use Rattle.virtio_blk.specs.Drive.{flight_in}
use Rattle.virtio_blk.specs.Requests.{is_well_formed}
use Rattle.virtio_blk.specs.Completed.{Scene, completed, completed_of, disk_after, finished, is_read, look_over, put_over, sent_by}
use Rattle.virtio_blk.specs.OneDisk.{IsOfImage, OfImage, look_in, put_in, on_image, result_on}

-- what a read gives is the disk's
look_is : (image base : List ℕ) (written : ℕ → Option (List ℕ)) (kind : Kind) (ok : Bool) → IsOfImage image kind ok base → look_in kind ok (disk_bytes written image) ≡ look_over base kind ok written
look_is image base written (Read sector len) true is = sym (ap (over written (512 * sector)) is ∙ reads_one_disk written image sector len)
look_is image base written (Read sector len) false is = refl
look_is image base written (Write sector) ok is = refl
look_is image base written Flush ok is = refl
look_is image base written Refused ok is = refl
look_is image base written Unknown ok is = refl

fits : (n sector count : ℕ) → is_well_formed n sector count ≡ true → (n % 512 ≡ 0) × (sector + n / 512 ≤ count)
fits n sector count h = (grind (arith, nat_tests, h), grind (arith, nat_tests, h))

-- a write on the disk
written_is : (image : List ℕ) (written : ℕ → Option (List ℕ)) (sector : ℕ) (sent : List ℕ) (b : Bool) → is_well_formed (length sent) sector (length image / 512) ≡ b
    → cond b (put_in sector sent (disk_bytes written image)) (disk_bytes written image) ≡ disk_bytes (cond b (with_sectors written sector sent) written) image
written_is image written sector sent true h =
    let both = fits (length sent) sector (length image / 512) h in
    sym (writes_one_disk written image sector sent both.0 (omega (arith, both.0, both.1)))
written_is image written sector sent false h = refl

disk_is : (image : List ℕ) (written : ℕ → Option (List ℕ)) (kind : Kind) (sent : List ℕ)
    → disk_after put_in (length image / 512) kind sent (disk_bytes written image) ≡ disk_bytes (disk_after put_over (length image / 512) kind sent written) image
disk_is image written (Read sector len) sent = refl
disk_is image written (Write sector) sent = written_is image written sector sent (is_well_formed (length sent) sector (length image / 512)) refl
disk_is image written Flush sent = refl
disk_is image written Refused sent = refl
disk_is image written Unknown sent = refl

-- a request that is done
finished_is : (image base : List ℕ) (id : ℕ) (ok : Bool) (s : Scene (ℕ → Option (List ℕ))) (f : Flight) → IsOfImage image f.ask.kind ok base
    → finished put_in (length image / 512) id f.ask ok (look_in f.ask.kind ok (disk_bytes s.disk image)) (on_image image s)
    ≡ on_image image (finished put_over (length image / 512) id f.ask ok (look_over base f.ask.kind ok s.disk) s)
finished_is image base id ok s f is =
    ap (λ found. finished put_in (length image / 512) id f.ask ok found (on_image image s)) (look_is image base s.disk f.ask.kind ok is)
    ∙ ap (λ d. record (on_image image (finished put_over (length image / 512) id f.ask ok (look_over base f.ask.kind ok s.disk) s)) { disk = d }) (disk_is image s.disk f.ask.kind (sent_by s.ram f.ask))

by_result : (image : List ℕ) (id : ℕ) (b : Bool) (x : Scene (List ℕ)) (y : Scene (ℕ → Option (List ℕ))) → x ≡ on_image image y
    → cond b (Err (NotARead id)) (Ok x) ≡ result_on image (cond b (Err (NotARead id)) (Ok y))
by_result image id true x y is = refl
by_result image id false x y is = ap Ok is

by_flight : (image base : List ℕ) (id : ℕ) (ok : Bool) (s : Scene (ℕ → Option (List ℕ))) (f : Option Flight) → OfImage image f ok base
    → completed_of put_in look_in (length image / 512) id ok (on_image image s) f ≡ result_on image (completed_of put_over (look_over base) (length image / 512) id ok s f)
by_flight image base id ok s None is = refl
by_flight image base id ok s (Some f) is =
    by_result image id (not ok && not (is_read f.ask.kind)) _ _ (finished_is image base id ok s f is)

pub acts_on_one_disk : (image base : List ℕ) (id : ℕ) (ok : Bool) (s : Scene (ℕ → Option (List ℕ))) → OfImage image (flight_in s.flights id) ok base
    → completed put_in look_in (length image / 512) id ok (on_image image s) ≡ result_on image (completed put_over (look_over base) (length image / 512) id ok s)
unfolding completed
acts_on_one_disk image base id ok s is = by_flight image base id ok s (flight_in s.flights id) is
