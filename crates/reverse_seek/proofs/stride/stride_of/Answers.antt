use Rattle.std.proofs.Common.{arith, subst, sym}
use Rattle.reverse_seek.specs.Stride.{IsLeastStride}
use Rattle.reverse_seek.proofs.Least.{least_stride}
use Rattle.reverse_seek.proofs.Strides.{doubles-start, doubles-more, doubles-end, doubles-within}
use Rattle.reverse_seek.proofs.stride.stride_of.Goals as goal

pub loop-stride-init : goal.loop-stride-init
loop-stride-init c = record { some = omega arith; within = omega arith; doubles = doubles-start c.args.last }

pub loop-stride-preserved : goal.loop-stride-preserved
loop-stride-preserved c =
    let i = c.loop-stride.invariant in
    let many = c.loop-stride-test.true in
    record {
      some = omega (arith, i.some);
      within = omega (arith, doubles-within c.loop-stride.stride c.args.last i.some many);
      doubles = doubles-more c.loop-stride.stride c.args.last i.within c.requires many i.doubles;
    }

pub returns-clause-stride : goal.returns-clause-stride
returns-clause-stride c =
    doubles-end c.loop-stride.stride c.args.last c.loop-stride.invariant.within c.requires c.loop-stride-test.false c.loop-stride.invariant.doubles

pub returns-clause-least : goal.returns-clause-least
returns-clause-least c =
    subst (IsLeastStride c.args.last) (sym (doubles-end c.loop-stride.stride c.args.last
    c.loop-stride.invariant.within c.requires c.loop-stride-test.false c.loop-stride.invariant.doubles))
    (least_stride c.args.last c.requires)
