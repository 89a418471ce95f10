use Rattle.std.proofs.Common.{◌≡◌, ◌≤◌, drop}
use Rattle.std.specs.Prelude.{min}
use Rattle.reverse_seek.specs.Timeline.{break_above}
use Rattle.reverse_seek.proofs.breaks.break_above.Given as goal

abbrev pub invariant-loop-b : goal.invariant-loop-b
invariant-loop-b l = record {
  within : l.found ≤ l.last;
  found : min l.found (break_above l.at l.last (drop l.b-index l.breaks)) ≡ break_above l.at l.last l.breaks;
}
