-- What a file gives: pieces and an entry, or the first rule that it breaks.
use Rattle.std.specs.Prelude.{ℕ, Bool, ◌*◌, ◌^◌, ◌%◌, ◌==◌, ◌≡◌, ◌&&◌, nat_le, nat_lt, Option, Some, None, Result, Ok, Err, List, [], ◌∷◌, length, if◌then◌else◌}
use Rattle.std.specs.List.{AllByRecursion}
use Rattle.elf_load.specs.declared.error.LoadError.{LoadError}
use Rattle.elf_load.specs.declared.error.LoadError.TheVariants.{TooLong}
use Rattle.elf_load.specs.declared.pieces.Piece.{Piece}
use Rattle.elf_load.specs.declared.pieces.Loaded.{Loaded}
use Rattle.elf_load.specs.Fields.{byte_at, e_entry, e_phnum, ram_start, LiesIn}
use Rattle.elf_load.specs.Rules.{first_broken, file_rules}
use Rattle.elf_load.specs.Segments.{segments, Gives}

-- the file begins as an ELF file does
abbrev pub is_elf : List ℕ → Bool
is_elf file =
    nat_le 4 (length file) && byte_at file 0 == 0x7f && byte_at file 1 == 0x45
    && byte_at file 2 == 0x4c && byte_at file 3 == 0x46

-- a raw file is one piece at the RAM's start, where it is entered
abbrev pub raw : List ℕ → ℕ → Result Loaded LoadError
raw file ram =
    if nat_lt ram (length file) then Err TooLong
    else Ok (record { entry = ram_start; pieces = record { at = ram_start; bytes = file } ∷ [] })

-- the pieces with the entry
abbrev pub entered : ℕ → Result (List Piece) LoadError → Result Loaded LoadError
entered entry (Ok pieces) = Ok (record { entry = entry; pieces = pieces })
entered entry (Err rule) = Err rule

-- a rule that is broken already, or else what the segments give
abbrev pub executable_unless : Option LoadError → List ℕ → ℕ → Result Loaded LoadError
executable_unless None file ram = entered (e_entry file) (segments file ram (e_phnum file))
executable_unless (Some rule) file ram = Err rule

-- an executable breaks a rule of its header, or one of a segment, or gives the segments' pieces
abbrev pub executable : List ℕ → ℕ → Result Loaded LoadError
executable file ram = executable_unless (first_broken (file_rules file ram)) file ram

-- what a file gives for a RAM of so many MiB
abbrev pub loaded : List ℕ → ℕ → Result Loaded LoadError
loaded file mib = if is_elf file then executable file (mib * 2 ^ 20) else raw file (mib * 2 ^ 20)

-- the answer is that, or want of memory where it is no rule
abbrev pub Loads : Result Loaded LoadError → Result Loaded LoadError → Type 0
Loads given answer = Gives given answer

-- a piece lies in a RAM of so many bytes
abbrev pub IsInside : ℕ → Piece → Type 0
IsInside ram p = LiesIn ram p.at (length p.bytes)

-- the entry and every piece lie in a RAM of so many MiB, and the entry is that of an instruction
pub record LiesInRam (mib : ℕ) (firmware : Loaded) : Type 0 where
  pub entry : LiesIn (mib * 2 ^ 20) firmware.entry 1
  pub aligned : firmware.entry % 4 ≡ 0
  pub pieces : AllByRecursion (IsInside (mib * 2 ^ 20)) firmware.pieces
