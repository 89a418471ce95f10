use Rattle.std.proofs.Common.{arith}
use Rattle.std.proofs.lemmas.Grind.{common_steps}
use Rattle.rv_exec.proofs.Division.{remainder_divides}
use Rattle.rv_exec.proofs.arithmetic.remainder.Goals as goal

pub returns-else-b-eq0-clause-division : goal.returns-else-b-eq0-clause-division
returns-else-b-eq0-clause-division c =
    remainder_divides c.args.a c.args.b _ c.ranges.a.fits c.ranges.b.fits (grind (arith, common_steps))
