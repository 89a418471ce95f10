use Rattle.std.proofs.Common.{◌-◌, ◌≡◌, ◌≤◌}
use Rattle.rv_exec.specs.Plain.{at_pc, IsAligned}
use Rattle.plain_turns.specs.Turns.{PlainTurns}
use Rattle.plain_turns.proofs.turns.run.Given as goal

abbrev pub invariant-loop-left : goal.invariant-loop-left
invariant-loop-left l = record {
  bound : l.most ≡ l.fn.most;
  within : l.left ≤ l.most;
  turns : PlainTurns l.fn.hart l.fn.memory (l.most - l.left) (at_pc l.hart l.pc) l.memory;
  aligned : IsAligned l.pc;
  csrs : l.hart.csrs ≡ l.fn.hart.csrs;
  mode : l.hart.mode ≡ l.fn.hart.mode;
}

abbrev pub decreases-loop-left : goal.decreases-loop-left
decreases-loop-left l = l.left
