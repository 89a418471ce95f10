use Rattle.std.proofs.Common.{◌∙◌, ap, sym, map}
use Rattle.std.proofs.lemmas.Simd.{map-map}
use Rattle.virtio_blk.specs.Notify.{Flight, flight_of}
use Rattle.virtio_blk.proofs.block.Block.in_flight.Goals as goal

pub returns : goal.returns
returns c =
    let id : Flight → _ = λ f. f.id in
    c.as_slice.ensures.value ∙ c.self.invariant.ids ∙ sym (map-map id flight_of c.self.inside.parsed.items) ∙ ap (λ d. map id d.flights) c.self.view_is
