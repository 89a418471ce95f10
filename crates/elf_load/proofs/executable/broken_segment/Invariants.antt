use Rattle.std.proofs.Common.{◌≡◌}
use Rattle.std.specs.Prelude.{None}
use Rattle.elf_load.specs.Segments.{first_broken_by}
use Rattle.elf_load.proofs.executable.broken_segment.Given as goal

-- the segments that were passed broke no rule
abbrev pub invariant-loop-k : goal.invariant-loop-k
invariant-loop-k l = first_broken_by l.file l.ram l.k ≡ None
