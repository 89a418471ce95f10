use Rattle.std.proofs.Common.{◌++◌, ◌∙◌, ap, take, get_or}
use Rattle.vio_mmio.specs.declared.chain.Segment.{Segment}
use Rattle.vio_mmio.specs.Spread.{got_at}
use Rattle.vio_mmio.proofs.Spreads.{gathered_more}
use Rattle.vio_mmio.proofs.segments.gather.Goals as goal

pub loop-s-preserved : goal.loop-s-preserved
loop-s-preserved c =
    let e : Segment = record { at = 0; len = 0 } in
    let ss = c.args.segments.now in
    let i = c.loop-s.s-index in
    c.in_ok-gather_more.ensures
    ∙ ap (λ x. take c.args.most (x ++ got_at c.args.draft.now.bytes (get_or ss i e).at (get_or ss i e).len)) c.loop-s.invariant
    ∙ gathered_more c.args.draft.now.bytes ss i c.args.most e c.loop-s-test.true
