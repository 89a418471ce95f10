use Rattle.std.proofs.Common.{◌≡◌, ◌+◌, ◌*◌, ◌-◌, ◌∙◌, ap, arith, take, drop}
use Rattle.overlay_disk.specs.Trees.{sector_in}
use Rattle.overlay_disk.proofs.Steps.{one_more}
use Rattle.overlay_disk.proofs.overlay.with_sectors.Goals as goal

pub loop-k-preserved : goal.loop-k-preserved
loop-k-preserved c =
    λ k.
    let size : 512 * c.loop-k.k + 512 - 512 * c.loop-k.k ≡ 512 = omega arith in
    one_more c.args.sector c.loop-k.k k c.args.bytes.now c.in_ok-fresh.fresh.value.bytes (sector_in c.args.written.now k) (sector_in c.loop-k.after k) (sector_in c.put.new.tree k)
    (c.loop-k.invariant k)
    (c.in_ok-put.ensures.ok k)
    (c.in_ok-fresh.ensures ∙ ap (λ n. take n (drop (512 * c.loop-k.k) c.args.bytes.now)) size)
