-- What a memory reads after a write.
use Rattle.std.specs.Prelude.{ℕ, ◌+◌, ◌≤◌, ◌⊎◌, List}
use Rattle.byteorder.specs.Endian.{little_bytes}
use Rattle.ram_pages.specs.Memory.{written}

-- the memory after the low bytes of a number are written at an address
abbrev pub stored : List ℕ → ℕ → ℕ → ℕ → List ℕ
stored bytes at size value = written bytes at (little_bytes size value)

-- two ranges of addresses have no byte in common
abbrev pub AreApart : ℕ → ℕ → ℕ → ℕ → Type 0
AreApart at size other n = (other + n ≤ at) ⊎ (at + size ≤ other)
