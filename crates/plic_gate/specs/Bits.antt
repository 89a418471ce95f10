-- A word of bits, one for each source.
use Rattle.std.specs.Prelude.{ℕ, Bool, ◌^◌, ◌==◌}
use Rattle.std.specs.Int.{bit_at, bit_not, w32}
use Rattle.std.specs.Int.RustNames.{bit_and, bit_or}

-- the source's bit is set
abbrev pub has : ℕ → ℕ → Bool
has word s = bit_at word s == 1

-- the word with the source's bit set
abbrev pub with_bit : ℕ → ℕ → ℕ
with_bit word s = bit_or word (2 ^ s)

-- the word with the source's bit clear
abbrev pub without_bit : ℕ → ℕ → ℕ
without_bit word s = bit_and word (bit_not w32 (2 ^ s))
