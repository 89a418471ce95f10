-- The segments that the program headers describe (gABI, "Program Header"), and their pieces.
use Rattle.std.specs.Prelude.{ℕ, zero, suc, Bool, ◌+◌, ◌-◌, ◌*◌, ◌==◌, ◌&&◌, not, nat_le, ◌≡◌, ◌≢◌, ◌≤◌, true, Option, Some, None, Result, Ok, Err, IsOk, List, [], ◌∷◌, ◌++◌, length, take, drop, replicate, if◌then◌else◌}
use Rattle.elf_load.specs.declared.error.LoadError.{LoadError}
use Rattle.elf_load.specs.declared.error.LoadError.TheVariants.{Sizes, File, Memory, NoMemory}
use Rattle.elf_load.specs.declared.pieces.Piece.{Piece}
use Rattle.elf_load.specs.declared.program_header.ProgramHeader.{ProgramHeader}
use Rattle.elf_load.specs.Fields.{u32_at, e_phoff, lies_in}
use Rattle.elf_load.specs.Rules.{first_broken}

-- the program header at an offset: p_type, p_offset, p_paddr, p_filesz and p_memsz
abbrev pub header_at : List ℕ → ℕ → ProgramHeader
header_at file at = record {
  kind = u32_at file at;
  offset = u32_at file (at + 4);
  address = u32_at file (at + 12);
  file_size = u32_at file (at + 16);
  memory_size = u32_at file (at + 20);
}

-- the program header with this number
abbrev pub header : List ℕ → ℕ → ProgramHeader
header file k = header_at file (e_phoff file + 32 * k)

-- the segment is of the kind that is loaded (PT_LOAD), and has a size in memory
abbrev pub is_loaded : ProgramHeader → Bool
is_loaded h = h.kind == 1 && not (h.memory_size == 0)

-- its bytes in the file are no more than in memory and within the file, and it lies in the RAM
abbrev pub segment_rules : List ℕ → ℕ → ProgramHeader → List (Bool × LoadError)
segment_rules file ram h =
    (nat_le h.file_size h.memory_size, Sizes)
    ∷ (nat_le (h.offset + h.file_size) (length file), File)
    ∷ (lies_in ram h.address h.memory_size, Memory)
    ∷ []

-- the segment's bytes in the file, followed by zeros up to its size in memory
abbrev pub bytes_of : List ℕ → ProgramHeader → List ℕ
bytes_of file h =
    take h.file_size (drop h.offset file) ++ replicate (h.memory_size - h.file_size) 0

-- the segment's piece
abbrev pub piece : List ℕ → ProgramHeader → Piece
piece file h = record { at = h.address; bytes = bytes_of file h }

-- a broken rule, or else what is given
abbrev pub unless_broken : {X : Type 0} → Option LoadError → X → Result X LoadError
unless_broken None x = Ok x
unless_broken (Some rule) x = Err rule

-- the first rule that a segment breaks, where it is loaded
abbrev pub broken_by : List ℕ → ℕ → ProgramHeader → Option LoadError
broken_by file ram h = if is_loaded h then first_broken (segment_rules file ram h) else None

-- the pieces with that of one more segment, where it is loaded
abbrev pub with_piece : List ℕ → List Piece → ProgramHeader → List Piece
with_piece file pieces h = if is_loaded h then pieces ++ piece file h ∷ [] else pieces

-- the rule that is broken first, or else the one that is broken then
abbrev pub first_of : Option LoadError → Option LoadError → Option LoadError
first_of None later = later
first_of (Some rule) later = Some rule

-- the first rule that one of the first n segments breaks
unfoldable pub first_broken_by : List ℕ → ℕ → ℕ → Option LoadError
first_broken_by file ram zero = None
first_broken_by file ram (suc n) =
    first_of (first_broken_by file ram n) (broken_by file ram (header file n))

-- the pieces of the first n segments, in order
unfoldable pub pieces_of : List ℕ → ℕ → List Piece
pieces_of file zero = []
pieces_of file (suc n) = with_piece file (pieces_of file n) (header file n)

-- the pieces of the first n segments, or the first rule that one of them breaks
abbrev pub segments : List ℕ → ℕ → ℕ → Result (List Piece) LoadError
segments file ram n = unless_broken (first_broken_by file ram n) (pieces_of file n)

-- a segment that is loaded has its bytes in the file
abbrev pub HasBytes : List ℕ → ProgramHeader → Type 0
HasBytes file h = is_loaded h ≡ true
    → (h.file_size ≤ h.memory_size) × (h.offset + h.file_size ≤ length file)

-- The answer is what is given. Memory is refused only where no rule is broken.
abbrev pub Gives : {X : Type 0} → Result X LoadError → Result X LoadError → Type 0
Gives given (Ok x) = given ≡ Ok x
Gives given (Err rule) =
    (rule ≢ NoMemory → given ≡ Err rule) × (rule ≡ NoMemory → IsOk given)
