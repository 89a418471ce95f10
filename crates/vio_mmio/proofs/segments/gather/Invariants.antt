use Rattle.std.proofs.Common.{◌≡◌, take}
use Rattle.vio_mmio.specs.Spread.{gathered}
use Rattle.vio_mmio.proofs.segments.gather.Given as goal

abbrev pub invariant-loop-s : goal.invariant-loop-s
invariant-loop-s l = l.out.items ≡ take l.most (gathered l.draft.bytes (take l.s-index l.segments))
