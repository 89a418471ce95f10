-- Steps of a completion.
use Rattle.std.proofs.Common.{◌≡◌, ◌∙◌, ◌/◌, ◌&&◌, not, ℕ, List, Bool, true, false, cond, Option, Some, Ok, Err, ap, refl, length}
use Rattle.std.specs.Result.{IsOk, is_ok}
use Rattle.overlay_disk.specs.Sectors.{sector_of}
use Rattle.virtio_blk.specs.declared.complete.CompleteError.TheVariants.{NotARead}
use Rattle.virtio_blk.specs.declared.parse.Kind.{Kind}
use Rattle.virtio_blk.specs.declared.parse.Kind.TheVariants.{Read, Write, Flush, Refused, Unknown}
use Rattle.virtio_blk.specs.Notify.{Flight}
use Rattle.virtio_blk.specs.Drive.{Drive, flight_in, request_for}
use Rattle.virtio_blk.specs.Completed.{Scene, completed, completed_of, completed_over, finished, is_read, look_over, put_over, scene_of, BaseIsWhole}

-- a completion by what is in flight under its id
pub completed-is : {D : Type 0} (put : ℕ → List ℕ → D → D) (look : Kind → Bool → D → List ℕ) (sectors id : ℕ) (ok : Bool) (s : Scene D) (f : Option Flight)
    → flight_in s.flights id ≡ f → completed put look sectors id ok s ≡ completed_of put look sectors id ok s f
unfolding completed
completed-is put look sectors id ok s f is = ap (completed_of put look sectors id ok s) is

-- as many bytes as the request reads
pub base_is_whole : (id : ℕ) (kind : Kind) (ok : Bool) (base : List ℕ) → (ok ≡ true → length base ≡ (request_for id kind).len) → BaseIsWhole kind ok base
base_is_whole id (Read sector len) true base h = h refl
base_is_whole id (Read sector len) false base h = tt
base_is_whole id (Write sector) ok base h = tt
base_is_whole id Flush ok base h = tt
base_is_whole id Refused ok base h = tt
base_is_whole id Unknown ok base h = tt

-- a request in flight that isn't refused is done
pub not_refused : (base : List ℕ) (id : ℕ) (ok : Bool) (d : Drive) (ram : List ℕ) (f : Flight) → flight_in d.flights id ≡ Some f → (not ok && not (is_read f.ask.kind)) ≡ false
    → IsOk (completed_over base id ok d ram)
not_refused base id ok d ram f found kept =
    let s = scene_of d ram in
    let sectors = d.disk.len / 512 in
    let done = finished put_over sectors id f.ask ok (look_over base f.ask.kind ok (sector_of d.disk)) s in
    ap is_ok (completed-is put_over (look_over base) sectors id ok s (Some f) found ∙ ap (λ b. cond b (Err (NotARead id)) (Ok done)) kept)
