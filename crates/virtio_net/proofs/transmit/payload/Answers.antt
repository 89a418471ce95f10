use Rattle.std.proofs.Common.{◌≡◌, ◌-◌, ◌∙◌, ap, arith, take, drop, length, length-drop}
use Rattle.std.proofs.lemmas.List.{take_all, drop-take}
use Rattle.vio_mmio.specs.Spread.{gathered}
use Rattle.vio_mmio.proofs.Spreads.{drop_min}
use Rattle.virtio_net.proofs.Results.{IfOk-map}
use Rattle.virtio_net.proofs.transmit.payload.Goals as goal

pub returns : goal.returns
returns c =
    let all = gathered c.args.draft.now.bytes c.args.readable.now in
    let xs = c.as_slice-bytes.result.now in
    let m = c.min-header.result in
    let is : take (length xs - m) (drop m xs) ≡ take 1515 (drop 12 all) =
    take_all (length xs - m) (drop m xs) (omega (arith, length-drop m xs))
    ∙ ap (λ n. drop n xs) c.min-header.ensures ∙ drop_min 12 xs
    ∙ ap (drop 12) (c.as_slice-bytes.ensures.value ∙ c.in_ok-all.ensures) ∙ drop-take 12 1515 all in
    IfOk-map c.from_slice.result _ (λ v. v.items ≡ take 1515 (drop 12 all)) c.from_slice.ensures.items (λ v e. e ∙ is)
