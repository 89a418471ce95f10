use Rattle.std.proofs.Common.{◌≡◌, drop}
use Rattle.vio_mmio.specs.Spread.{scattered}
use Rattle.vio_mmio.proofs.segments.scatter.Given as goal

abbrev pub invariant-loop-s : goal.invariant-loop-s
invariant-loop-s l = record {
  before : l.draft.before ≡ l.initial.draft.before;
  wrote : scattered l.draft.bytes (drop l.s-index l.segments) l.rest ≡ scattered l.initial.draft.bytes l.segments l.fresh;
}
