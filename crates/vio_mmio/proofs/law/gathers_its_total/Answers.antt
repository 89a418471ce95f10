use Rattle.vio_mmio.proofs.Spreads.{length-gathered}
use Rattle.vio_mmio.proofs.law.gathers_its_total.Goals as goal

pub returns : goal.returns
returns c = length-gathered
