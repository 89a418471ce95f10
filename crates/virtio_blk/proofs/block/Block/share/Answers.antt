use Rattle.std.proofs.Common.{◌/◌, ◌∙◌, ap, sym, map, subst}
use Rattle.virtio_blk.specs.Drive.{IsSound}
use Rattle.virtio_blk.specs.Notify.{flight_of}
use Rattle.virtio_blk.proofs.Flights.{sound_of_same}
use Rattle.virtio_blk.proofs.block.Block.share.Goals as goal

pub invariant_of-result : goal.invariant_of-result
invariant_of-result c =
    let inside = c.self.inside in
    let sectors = inside.disk.len / 512 in
    let ids = c.in_ok-ids.ensures.items ∙ c.as_slice.ensures.value in
    let same = c.in_ok-parsed.ensures ∙ ap (map flight_of) c.as_slice-2.ensures.value in
    subst (λ n. IsSound c.in_ok-ids.ids.items c.in_ok-parsed.parsed.items inside.next (n / 512)) (ap (λ d. d.len) (sym c.in_ok-disk.ensures))
    (subst (λ l. IsSound l c.in_ok-parsed.parsed.items inside.next sectors) (sym ids) (sound_of_same inside.ids.items inside.parsed.items c.in_ok-parsed.parsed.items inside.next sectors same c.self.invariant))
