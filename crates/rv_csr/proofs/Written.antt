-- What was written is read again.
use Rattle.std.proofs.Common.{ℕ, ◌≡◌, ◌<◌, ◌^◌, ◌+◌, ◌*◌, ◌/◌, ◌%◌, refl, arith}
use Rattle.rv_csr.specs.declared.inputs.Inputs.{Inputs}
use Rattle.rv_csr.specs.Control.{Control}
use Rattle.rv_csr.specs.Laws.{ReadsAsWritten}

-- the low half of a counter whose low half was written, and the same of the high half
low : (h v : ℕ) → v < 2 ^ 32 → (h * 2 ^ 32 + v) % 2 ^ 32 ≡ v
low h v fits = omega (arith, fits)

high : (v l : ℕ) → (v * 2 ^ 32 + l % 2 ^ 32) / 2 ^ 32 ≡ v
high v l = omega arith

pub as_written : (c : Control) (i : Inputs) (v : ℕ) → v < 2 ^ 32 → ReadsAsWritten c i v
as_written c i v fits = record {
  mie = refl;
  mtvec = refl;
  mcounteren = refl;
  mscratch = refl;
  mepc = refl;
  mcause = refl;
  mtval = refl;
  mcycle = low (c.cycle / 2 ^ 32) v fits;
  mcycleh = high v c.cycle;
  minstret = low (c.instret / 2 ^ 32) v fits;
  minstreth = high v c.instret;
}
