use Rattle.std.proofs.Common.{◌≡◌}
use Rattle.elf_load.specs.Segments.{pieces_of}
use Rattle.elf_load.proofs.executable.pieces.Given as goal

-- the pieces of the segments that were passed
abbrev pub invariant-loop-k : goal.invariant-loop-k
invariant-loop-k l = l.pieces ≡ pieces_of l.file l.k
