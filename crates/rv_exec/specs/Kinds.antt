-- The kinds of loads, and of changes of a control register.
use Rattle.std.specs.Prelude.{ℕ, Bool, true, not, ◌==◌}
use Rattle.std.specs.Int.{w32, bit_not}
use Rattle.std.specs.Int.RustNames.{bit_and, bit_or}
use Rattle.rv_exec.specs.declared.accesses.Extend.{Extend}
use Rattle.rv_exec.specs.declared.accesses.Extend.TheVariants.{Zeros, Byte, Half}
use Rattle.rv_exec.specs.declared.system.Change.{Change}
use Rattle.rv_exec.specs.declared.system.Change.TheVariants.{Write, Set, Clear}
use Rattle.rv_exec.specs.Arithmetic.{extend_byte, extend_half}

-- what a load makes of the bytes that it reads (2.6 Load and Store Instructions)
abbrev pub extended : Extend → ℕ → ℕ
extended Zeros n = n
extended Byte n = extend_byte n
extended Half n = extend_half n

-- what a row makes of the old word and its operand (9.1 CSR Instructions)
abbrev pub changed : Change → ℕ → ℕ → ℕ
changed Write old value = value
changed Set old value = bit_or old value
changed Clear old value = bit_and old (bit_not w32 value)

-- to set or clear bits writes nothing where the row's source is 0: the number of its register, or
-- its immediate (9.1)
abbrev pub writes : Change → ℕ → Bool
writes Write source = true
writes Set source = not (source == 0)
writes Clear source = not (source == 0)
