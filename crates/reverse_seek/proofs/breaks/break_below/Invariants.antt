use Rattle.std.proofs.Common.{◌≡◌, ◌<◌, drop}
use Rattle.std.specs.Prelude.{max}
use Rattle.reverse_seek.specs.Timeline.{break_below}
use Rattle.reverse_seek.proofs.breaks.break_below.Given as goal

abbrev pub invariant-loop-b : goal.invariant-loop-b
invariant-loop-b l = record {
  less : 0 < l.at → l.found < l.at;
  found : max l.found (break_below l.at (drop l.b-index l.breaks)) ≡ break_below l.at l.breaks;
}
