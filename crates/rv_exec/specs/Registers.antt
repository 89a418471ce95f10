-- The 32 registers as a list, of which register 0 stays 0 (Unprivileged ISA, 2.1 Programmers' Model
-- for Base Integer ISA).
use Rattle.std.specs.Prelude.{ℕ, ◌==◌, List, slice_index, slice_set, if◌then◌else◌}

-- the value of a register
abbrev pub register : List ℕ → ℕ → ℕ
register x n = slice_index x n

-- the registers after a write, of which register 0 takes none
abbrev pub with_register : List ℕ → ℕ → ℕ → List ℕ
with_register x n value = if n == 0 then x else slice_set x n value
