-- The register map of the CLINT (SiFive), and reading and writing by it.
use Rattle.std.specs.Prelude.{ℕ, Bool, true, false, ◌+◌, ◌*◌, ◌%◌, ◌^◌, ◌==◌, Option, Some, None, List, [], ◌∷◌, if◌then◌else◌}
use Rattle.clint_rtc.specs.declared.clint.Register.{Register}
use Rattle.clint_rtc.specs.declared.clint.Register.TheVariants.{Msip, Mtimecmp, Mtimecmph, Mtime, Mtimeh}
use Rattle.clint_rtc.specs.Words.{low_half, high_half}
use Rattle.clint_rtc.specs.Clint.{Timer, mtime}

-- each offset with its register
abbrev pub map : List (ℕ × Register)
map =
    (0x0000, Msip)
    ∷ (0x4000, Mtimecmp)
    ∷ (0x4004, Mtimecmph)
    ∷ (0xbff8, Mtime)
    ∷ (0xbffc, Mtimeh)
    ∷ []

-- the first register of a list at an offset
abbrev pub at_offset : List (ℕ × Register) → ℕ → Option Register
at_offset [] off = None
at_offset (row ∷ rows) off = if row.0 == off then Some row.1 else at_offset rows off

-- the register at an offset
abbrev pub register_at : ℕ → Option Register
register_at off = at_offset map off

-- the word of one bit
abbrev pub bit : Bool → ℕ
bit true = 1
bit false = 0

-- what a register shows
abbrev pub shown : Timer → ℕ → Register → ℕ
shown t clock Msip = bit t.msip
shown t clock Mtimecmp = low_half t.mtimecmp
shown t clock Mtimecmph = high_half t.mtimecmp
shown t clock Mtime = low_half (mtime clock)
shown t clock Mtimeh = high_half (mtime clock)

-- what a read gives: 0 where no register is
abbrev pub read_of : Timer → ℕ → Option Register → ℕ
read_of t clock (Some register) = shown t clock register
read_of t clock None = 0

-- the word at an offset
abbrev pub read : Timer → ℕ → ℕ → ℕ
read t clock off = read_of t clock (register_at off)

-- a register after a word is put into it: bit 0 of msip counts, and the time can't be written
abbrev pub put : Timer → ℕ → Register → Timer
put t value Msip = record t { msip = value % 2 == 1 }
put t value Mtimecmp = record t { mtimecmp = high_half t.mtimecmp * 2 ^ 32 + value }
put t value Mtimecmph = record t { mtimecmp = value * 2 ^ 32 + low_half t.mtimecmp }
put t value Mtime = t
put t value Mtimeh = t

-- the registers after a write, which does nothing where no register is
abbrev pub written_of : Timer → ℕ → Option Register → Timer
written_of t value (Some register) = put t value register
written_of t value None = t

-- the registers after a write at an offset
abbrev pub written : Timer → ℕ → ℕ → Timer
written t off value = written_of t value (register_at off)
