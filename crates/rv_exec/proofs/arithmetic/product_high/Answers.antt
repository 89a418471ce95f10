use Rattle.std.proofs.Common.{◌≡◌, ap, ◌∙◌, ◌*ℤ◌}
use Rattle.rv_exec.specs.Arithmetic.{high_half, product_high}
use Rattle.rv_exec.proofs.Halves.{signed_halves}
use Rattle.rv_exec.proofs.Products.{widened_product}
use Rattle.rv_exec.proofs.arithmetic.product_high.Goals as goal

pub returns-clause-value : goal.returns-clause-value
returns-clause-value c =
    let e = ap high_half (widened_product c.cast_signed.result c.cast_signed-2.result c.from.result c.from-2.result c.cast_signed.type_inv c.cast_signed-2.type_inv c.from.ensures c.from-2.ensures) in
    let p = c.cast_signed.ensures in
    let q = c.cast_signed-2.ensures in
    let r : high_half (c.cast_signed.result *ℤ c.cast_signed-2.result) ≡ product_high c.args.a c.args.b = rw (p, q) in
    c.high_half.ensures ∙ e ∙ r

pub returns-clause-product : goal.returns-clause-product
returns-clause-product c =
    signed_halves c.args.a c.args.b _ c.ranges.a.fits c.ranges.b.fits (returns-clause-value c)
