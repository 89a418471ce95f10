-- Where no interrupt is heard none is due.
use Rattle.std.proofs.Common.{◌≡◌, Bool, true, false, refl, arith, ◌==◌, ◌&&◌, not, if◌then◌else◌}
use Rattle.std.specs.Prelude.{None}
use Rattle.rv_csr.specs.declared.mode.Mode.{Mode}
use Rattle.rv_csr.specs.declared.inputs.Inputs.{Inputs}
use Rattle.rv_csr.specs.Control.{Control}
use Rattle.rv_csr.specs.Traps.{takes_interrupts, hears, chosen, due}

none-chosen : (c : Control) (i : Inputs) → c.mie ≡ 0 → chosen c i ≡ None
none-chosen c i e = rw e (grind arith)

deaf_by : (c : Control) (i : Inputs) (b : Bool) → (b && not (c.mie == 0)) ≡ false → (if b then chosen c i else None) ≡ None
deaf_by c i true h = none-chosen c i (grind arith)
deaf_by c i false h = refl

pub deaf : (c : Control) (mode : Mode) (i : Inputs) → hears c mode ≡ false → due c mode i ≡ None
deaf c mode i h = deaf_by c i (takes_interrupts c mode) h
