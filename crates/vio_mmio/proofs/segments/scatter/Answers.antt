use Rattle.std.proofs.Common.{◌+◌, ◌∙◌, sym, ap, take, drop, arith, get_or}
use Rattle.vio_mmio.specs.declared.chain.Segment.{Segment}
use Rattle.vio_mmio.specs.Spread.{scattered, put_at}
use Rattle.vio_mmio.proofs.Spreads.{scattered_more, scattered_all}
use Rattle.vio_mmio.proofs.segments.scatter.Goals as goal

pub loop-s-preserved : goal.loop-s-preserved
loop-s-preserved c =
    let e : Segment = record { at = 0; len = 0 } in
    let ss = c.args.segments.now in
    let i = c.loop-s.s-index in
    let rest = c.loop-s.rest.now in
    record {
      before = c.put.ensures.before ∙ c.loop-s.invariant.before;
      wrote = ap (λ m. scattered m (drop (i + 1) ss) c.split_at.result.1.now) c.in_ok-put.ensures.ok
          ∙ ap (λ x. scattered (put_at c.loop-s.draft.bytes (get_or ss i e).at x) (drop (i + 1) ss) c.split_at.result.1.now) c.split_at.ensures.front
          ∙ ap (λ x. scattered (put_at c.loop-s.draft.bytes (get_or ss i e).at (take c.min-count.result rest)) (drop (i + 1) ss) x) c.split_at.ensures.back
          ∙ sym (scattered_more c.loop-s.draft.bytes ss i e rest c.min-count.result c.loop-s-test.true c.min-count.ensures)
          ∙ c.loop-s.invariant.wrote;
    }

pub returns-clause-ok : goal.returns-clause-ok
returns-clause-ok c = sym (scattered_all c.loop-s.draft.bytes c.args.segments.now c.loop-s.s-index c.loop-s.rest.now (omega arith)) ∙ c.loop-s.invariant.wrote
