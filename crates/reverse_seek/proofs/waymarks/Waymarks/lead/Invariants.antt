use Rattle.std.proofs.Common.{◌≤◌, drop}
use Rattle.std.specs.List.{AllByRecursion}
use Rattle.reverse_seek.specs.Mark.{Stands}
use Rattle.reverse_seek.proofs.waymarks.Waymarks.lead.Given as goal

abbrev pub invariant-loop-way : goal.invariant-loop-way
invariant-loop-way l = record {
  stands : Stands l.script l.mark;
  within : l.mark.machine.devices.time.count ≤ l.count;
  others : AllByRecursion (Stands l.script) (drop l.way-index l.self.marks.items);
}
