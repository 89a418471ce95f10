-- Fields of a file (gABI, "ELF Header", for 32 bits), and ranges of the RAM.
use Rattle.std.specs.Prelude.{ℕ, Bool, ◌+◌, ◌≤◌, ◌&&◌, nat_le, List, drop, slice_index}
use Rattle.byteorder.specs.Endian.{little_number}

-- the byte at an offset
abbrev pub byte_at : List ℕ → ℕ → ℕ
byte_at file at = slice_index file at

-- the little-endian number of two bytes
abbrev pub u16_at : List ℕ → ℕ → ℕ
u16_at file at = little_number 2 (drop at file)

-- the little-endian number of four bytes
abbrev pub u32_at : List ℕ → ℕ → ℕ
u32_at file at = little_number 4 (drop at file)

-- whether the file is of 32 or of 64 bits
abbrev pub ei_class : List ℕ → ℕ
ei_class file = byte_at file 4

-- in which order the bytes of a number stand
abbrev pub ei_data : List ℕ → ℕ
ei_data file = byte_at file 5

-- what kind of object file it is
abbrev pub e_type : List ℕ → ℕ
e_type file = u16_at file 16

-- the architecture
abbrev pub e_machine : List ℕ → ℕ
e_machine file = u16_at file 18

-- the address at which the program begins
abbrev pub e_entry : List ℕ → ℕ
e_entry file = u32_at file 24

-- the offset of the program header table
abbrev pub e_phoff : List ℕ → ℕ
e_phoff file = u32_at file 28

-- the size of a program header
abbrev pub e_phentsize : List ℕ → ℕ
e_phentsize file = u16_at file 42

-- how many program headers there are
abbrev pub e_phnum : List ℕ → ℕ
e_phnum file = u16_at file 44

-- the address of the RAM's first byte
abbrev pub ram_start : ℕ
ram_start = 0x80000000

-- a range lies in a RAM of so many bytes
abbrev pub lies_in : ℕ → ℕ → ℕ → Bool
lies_in ram at len = nat_le ram_start at && nat_le (at + len) (ram_start + ram)

-- the same as a fact
abbrev pub LiesIn : ℕ → ℕ → ℕ → Type 0
LiesIn ram at len = (ram_start ≤ at) × (at + len ≤ ram_start + ram)
