use Rattle.std.proofs.Common.{◌≡◌, ◌-◌, ◌∙◌, ap, arith, take, drop, length, length-drop}
use Rattle.std.proofs.lemmas.List.{take_all, drop-take}
use Rattle.vio_mmio.specs.Spread.{gathered}
use Rattle.vio_mmio.proofs.Spreads.{drop_min}
use Rattle.virtio_blk.proofs.Results.{IfOk-map}
use Rattle.virtio_blk.proofs.complete.sent.Goals as goal

pub returns : goal.returns
returns c =
    let all = gathered c.args.ram.now c.args.readable.now in
    let xs = c.as_slice-bytes.result.now in
    let m = c.min-header.result in
    let is : take (length xs - m) (drop m xs) ≡ take 1048577 (drop 16 all) =
    take_all (length xs - m) (drop m xs) (omega (arith, length-drop m xs))
    ∙ ap (λ n. drop n xs) c.min-header.ensures ∙ drop_min 16 xs
    ∙ ap (drop 16) (c.as_slice-bytes.ensures.value ∙ c.in_ok-all.ensures ∙ ap (λ m. take 1048593 (gathered m c.args.readable.now)) c.draft-draft.ensures.bytes) ∙ drop-take 16 1048577 all in
    IfOk-map c.from_slice.result _ (λ v. v.items ≡ take 1048577 (drop 16 all)) c.from_slice.ensures.items (λ v e. e ∙ is)
