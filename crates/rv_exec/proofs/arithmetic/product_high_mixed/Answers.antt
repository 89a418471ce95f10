use Rattle.std.proofs.Common.{arith}
use Rattle.std.proofs.lemmas.Grind.{common_steps}
use Rattle.rv_exec.proofs.Halves.{mixed_halves}
use Rattle.rv_exec.proofs.arithmetic.product_high_mixed.Goals as goal

pub returns-clause-product : goal.returns-clause-product
returns-clause-product c =
    mixed_halves c.args.a c.args.b _ c.ranges.a.fits c.ranges.b.fits (grind (arith, common_steps))
