use Rattle.std.proofs.Common.{◌/◌, ◌∙◌, ap, sym, take, drop}
use Rattle.vio_mmio.specs.Spread.{gathered}
use Rattle.overlay_disk.specs.Sectors.{sector_of}
use Rattle.virtio_blk.specs.Completed.{sent_by, put_over, disk_after, written_where}
use Rattle.virtio_blk.specs.Notify.{ask_of}
use Rattle.virtio_blk.proofs.Results.{OnOk-map}
use Rattle.virtio_blk.proofs.Sent.{write_of_first}
use Rattle.virtio_blk.proofs.complete.write_disk.Goals as goal

pub returns-in_ok-fresh-in-Write-clause-ok : goal.returns-in_ok-fresh-in-Write-clause-ok
returns-in_ok-fresh-in-Write-clause-ok c =
    let disk = c.args.disk.now in
    let count = disk.len / 512 in
    let sent = sent_by c.args.ram.now (ask_of c.args.parsed.now) in
    let is = c.as_slice-in-Write.ensures.value ∙ c.in_ok-fresh-in-Write.ensures ∙ ap (λ s. take 1048577 (drop 16 (gathered c.args.ram.now s))) c.as_slice.ensures.value in
    OnOk-map c.write_sent.result _ _ c.write_sent.ensures.ok
    (λ e. e ∙ ap (written_where disk c.in-Write.sector) is ∙ write_of_first (sector_of disk) count c.in-Write.sector sent
    ∙ ap (λ k. disk_after put_over count k sent (sector_of disk)) (sym c.in-Write.is))
