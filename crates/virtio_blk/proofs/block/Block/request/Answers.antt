use Rattle.std.proofs.Common.{◌≡◌, ◌∙◌, ap, sym, Some, map, refl}
use Rattle.std.specs.Prelude.{position, ◌==◌}
use Rattle.std.specs.Option.{option_map}
use Rattle.std.proofs.lemmas.Option.{slice_get_read}
use Rattle.std.proofs.lemmas.List.Quantifiers.{position-Some}
use Rattle.virtio_blk.specs.Drive.{flight_in, request_of}
use Rattle.virtio_blk.specs.Notify.{flight_of}
use Rattle.virtio_blk.specs.declared.notify.Parsed.{Parsed}
use Rattle.virtio_blk.proofs.Flights.{flight_in-map, flight_in-none}
use Rattle.virtio_blk.proofs.block.Block.request.Goals as goal

pub returns-in_default : goal.returns-in_default
returns-in_default c =
    let ps = c.as_slice-parsed.result.now in
    let from : map flight_of ps ≡ c.args.self.now.flights = ap (map flight_of) c.as_slice-parsed.ensures.value ∙ ap (λ d. d.flights) c.self.view_is in
    sym (ap (λ fs. option_map request_of (flight_in fs c.args.id)) (sym from) ∙ ap (option_map request_of) (flight_in-none c.args.id ps (sym c.in_default.ensures)))

pub returns : goal.returns
returns c =
    let ps = c.as_slice-parsed.result.now in
    let p = c.index-parsed-place.result in
    let here : position (λ (p : Parsed). p.id == c.args.id) ps ≡ Some c.in-Some.place = sym c.in-Some.ensures in
    let from : map flight_of ps ≡ c.args.self.now.flights = ap (map flight_of) c.as_slice-parsed.ensures.value ∙ ap (λ d. d.flights) c.self.view_is in
    let found = slice_get_read ps _ c.in-Some.place p refl (position-Some (λ (p : Parsed). p.id == c.args.id) ps c.in-Some.place p here).0 c.index-parsed-place.is in
    ap Some c.of.ensures
    ∙ sym (ap (λ fs. option_map request_of (flight_in fs c.args.id)) (sym from) ∙ ap (option_map request_of) (flight_in-map c.args.id ps c.in-Some.place p here found))
