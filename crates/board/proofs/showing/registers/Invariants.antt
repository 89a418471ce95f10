use Rattle.std.proofs.Common.{string_bytes}
use Rattle.board.proofs.RegisterTexts.{Shown}
use Rattle.board.proofs.showing.registers.Given as goal

abbrev pub invariant-loop-n : goal.invariant-loop-n
invariant-loop-n l = record { shown : Shown l.x l.n (string_bytes l.text) }
