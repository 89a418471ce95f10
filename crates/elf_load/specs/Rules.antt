-- The rules of a file header, in their order.
use Rattle.std.specs.Prelude.{ℕ, Bool, ◌+◌, ◌*◌, ◌%◌, ◌==◌, ◌&&◌, nat_le, Option, Some, None, List, [], ◌∷◌, length, if◌then◌else◌}
use Rattle.elf_load.specs.declared.error.LoadError.{LoadError}
use Rattle.elf_load.specs.declared.error.LoadError.TheVariants.{Cut, Class, Encoding, FileType, Machine, Entry, Headers}
use Rattle.elf_load.specs.Fields.{ei_class, ei_data, e_type, e_machine, e_entry, e_phoff, e_phentsize, e_phnum, lies_in}

-- of tests with the rules that they keep, the first that fails
abbrev pub first_broken : List (Bool × LoadError) → Option LoadError
first_broken [] = None
first_broken (rule ∷ rules) = if rule.0 then first_broken rules else Some rule.1

-- the hart can begin at an address: it lies in RAM and is a multiple of 4
abbrev pub is_entry : ℕ → ℕ → Bool
is_entry ram entry = lies_in ram entry 1 && entry % 4 == 0

-- the program headers have 32 bytes each, are at most 64, and end within the file
abbrev pub has_table : List ℕ → Bool
has_table file =
    e_phentsize file == 32 && nat_le (e_phnum file) 64
    && nat_le (e_phoff file + 32 * e_phnum file) (length file)

-- a whole header; of 32 bits, little-endian, an executable, for RISC-V; its entry; its table
abbrev pub file_rules : List ℕ → ℕ → List (Bool × LoadError)
file_rules file ram =
    (nat_le 52 (length file), Cut)
    ∷ (ei_class file == 1, Class)
    ∷ (ei_data file == 1, Encoding)
    ∷ (e_type file == 2, FileType)
    ∷ (e_machine file == 243, Machine)
    ∷ (is_entry ram (e_entry file), Entry)
    ∷ (has_table file, Headers)
    ∷ []
