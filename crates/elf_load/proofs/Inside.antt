-- Of an accepted file the entry and every piece lie in the RAM.
use Rattle.std.proofs.Common.{cond, ◌≡◌, ◌≤◌, ◌+◌, ◌-◌, ◌*◌, ◌^◌, ◌%◌, ℕ, zero, suc, Bool, true, false, List, [], ◌∷◌, ◌++◌, length, take, drop, replicate, refl, subst, inl, inr, arith, length-append, length-drop}
use Rattle.std.proofs.lemmas.List.{length-take-le, length-replicate}
use Rattle.std.proofs.lemmas.Bool.{cases_Bool, and_parts, leb-true, ltb-false, eqb-true}
use Rattle.std.specs.Prelude.{IfOk, Option, Some, None, Result, Ok, Err, ◌==◌, nat_le, nat_lt}
use Rattle.std.specs.List.{AllByRecursion}
use Rattle.elf_load.specs.declared.error.LoadError.{LoadError}
use Rattle.elf_load.specs.declared.error.LoadError.TheVariants.{TooLong}
use Rattle.elf_load.specs.declared.pieces.Piece.{Piece}
use Rattle.elf_load.specs.declared.pieces.Loaded.{Loaded}
use Rattle.elf_load.specs.declared.program_header.ProgramHeader.{ProgramHeader}
use Rattle.elf_load.specs.Fields.{u16_at, u32_at, ram_start, lies_in, LiesIn}
use Rattle.elf_load.specs.Rules.{first_broken, is_entry, file_rules}
use Rattle.elf_load.specs.Segments.{header, is_loaded, segment_rules, bytes_of, piece, unless_broken, broken_by, with_piece, first_of, first_broken_by, pieces_of, segments}
use Rattle.elf_load.specs.Load.{is_elf, raw, entered, executable_unless, loaded, Loads, IsInside, LiesInRam}

lies : (ram at len : ℕ) → lies_in ram at len ≡ true → LiesIn ram at len
lies ram at len e = let both : _ = and_parts _ _ e in (leb-true _ _ both.0, leb-true _ _ both.1)

-- where no rule is broken each test holds
pub passes : (rules : List (Bool × LoadError)) → first_broken rules ≡ None → AllByRecursion (λ rule. rule.0 ≡ true) rules
passes [] e = tt
passes ((true, name) ∷ rules) e = (refl, passes rules e)
passes ((false, name) ∷ rules) e = absurd cc

none_broken : {X : Type 0} (broken : Option LoadError) (x y : X) → unless_broken broken x ≡ Ok y → (broken ≡ None) × (x ≡ y)
none_broken None x y e = (refl, cc)
none_broken (Some rule) x y e = absurd cc

pub both_none : (one other : Option LoadError) → first_of one other ≡ None → (one ≡ None) × (other ≡ None)
both_none None other e = (refl, e)
both_none (Some rule) other e = absurd cc

all_more : {X : Type 0} (P : X → Type 0) (xs : List X) (x : X) → AllByRecursion P xs → P x → AllByRecursion P (xs ++ x ∷ [])
all_more P [] x all p = (p, all)
all_more P (one ∷ xs) x all p = (all.0, all_more P xs x all.1 p)

-- a piece is as long as its segment in memory
long : (file : List ℕ) (h : ProgramHeader) → h.file_size ≤ h.memory_size → h.offset + h.file_size ≤ length file → length (bytes_of file h) ≡ h.memory_size
long file h sizes within =
    let front : length (take h.file_size (drop h.offset file)) ≡ h.file_size = length-take-le h.file_size (drop h.offset file) (rw length-drop (omega (arith, within)))
    in rw (length-append (take h.file_size (drop h.offset file)) (replicate (h.memory_size - h.file_size) 0), front, length-replicate {A = ℕ} (h.memory_size - h.file_size) 0) (omega (arith, sizes))

module _ (file : List ℕ) (ram : ℕ) where
  abbrev Inside : List Piece → Type 0
  Inside pieces = AllByRecursion (IsInside ram) pieces

  piece_inside : (h : ProgramHeader) → nat_le h.file_size h.memory_size ≡ true → nat_le (h.offset + h.file_size) (length file) ≡ true → lies_in ram h.address h.memory_size ≡ true → IsInside ram (piece file h)
  piece_inside h sizes within inside =
      let is : length (bytes_of file h) ≡ h.memory_size = long file h (leb-true _ _ sizes) (leb-true _ _ within)
      in rw is (lies ram h.address h.memory_size inside)

  one_inside : (pieces : List Piece) (h : ProgramHeader) → Inside pieces → first_broken (segment_rules file ram h) ≡ None → Inside (pieces ++ piece file h ∷ [])
  one_inside pieces h all e =
      let test : AllByRecursion (λ rule. rule.0 ≡ true) (segment_rules file ram h) = passes (segment_rules file ram h) e
      in all_more (IsInside ram) pieces (piece file h) all (piece_inside h test.0 test.1.0 test.1.1.0)

  segment_inside : (pieces : List Piece) (h : ProgramHeader) → Inside pieces → broken_by file ram h ≡ None → Inside (with_piece file pieces h)
  segment_inside pieces h all e =
      elim (cases_Bool (is_loaded h)) [
        | inl yes_loaded ↦ rw yes_loaded (one_inside pieces h all (rw yes_loaded at e))
        | inr not_loaded ↦ rw not_loaded all
      ]

  pieces_inside : (n : ℕ) → first_broken_by file ram n ≡ None → Inside (pieces_of file n)
  unfolding first_broken_by pieces_of
  pieces_inside zero e = tt
  pieces_inside (suc n) e =
      let none = both_none (first_broken_by file ram n) (broken_by file ram (header file n)) e in
      segment_inside (pieces_of file n) (header file n) (pieces_inside n none.0) none.1

  segments_inside : (n : ℕ) (pieces : List Piece) → segments file ram n ≡ Ok pieces → Inside pieces
  segments_inside n pieces e =
      let k : (first_broken_by file ram n ≡ None) × (pieces_of file n ≡ pieces) = none_broken _ _ _ e
      in subst Inside k.1 (pieces_inside n k.0)

  -- the entry of a file header that breaks no rule
  entry_inside : first_broken (file_rules file ram) ≡ None → is_entry ram (u32_at file 24) ≡ true
  entry_inside e =
      let test : AllByRecursion (λ rule. rule.0 ≡ true) (file_rules file ram) = passes (file_rules file ram) e
      in test.1.1.1.1.1.0

  abbrev Fits : Loaded → Type 0
  Fits firmware = LiesIn ram firmware.entry 1 × (firmware.entry % 4 ≡ 0) × Inside firmware.pieces

  entered_fits : (entry : ℕ) (found : Result (List Piece) LoadError) (firmware : Loaded) → is_entry ram entry ≡ true → ((pieces : List Piece) → found ≡ Ok pieces → Inside pieces) → entered entry found ≡ Ok firmware → Fits firmware
  entered_fits entry (Err rule) firmware is all e = absurd cc
  entered_fits entry (Ok pieces) firmware is all e =
      let both : (lies_in ram entry 1 ≡ true) × ((entry % 4 == 0) ≡ true) = and_parts _ _ is
      in let same : record { entry = entry; pieces = pieces } ≡ firmware = cc
      in subst Fits same (lies ram entry 1 both.0, eqb-true _ _ both.1, all pieces refl)

  executable_fits : (broken : Option LoadError) (firmware : Loaded) → first_broken (file_rules file ram) ≡ broken → executable_unless broken file ram ≡ Ok firmware → Fits firmware
  executable_fits None firmware is e = entered_fits (u32_at file 24) (segments file ram (u16_at file 44)) firmware (entry_inside is) (segments_inside (u16_at file 44)) e
  executable_fits (Some rule) firmware is e = absurd cc

  abbrev as_it_is : Loaded
  as_it_is = record { entry = ram_start; pieces = record { at = ram_start; bytes = file } ∷ [] }

  not_too_long : (long : Bool) (firmware : Loaded) → cond long (Err TooLong) (Ok as_it_is) ≡ Ok firmware → (long ≡ false) × (as_it_is ≡ firmware)
  not_too_long true firmware e = absurd cc
  not_too_long false firmware e = (refl, cc)

  raw_fits : (firmware : Loaded) → 1 ≤ ram → raw file ram ≡ Ok firmware → Fits firmware
  raw_fits firmware some e =
      let k : (nat_lt ram (length file) ≡ false) × (as_it_is ≡ firmware) = not_too_long _ firmware e
      in let short : length file ≤ ram = ltb-false _ _ k.0
      in subst Fits k.1 ((omega arith, omega (arith, some)), refl, ((omega arith, omega (arith, short)), tt))

-- a choice between two answers that both fit
either_fits : (P : Loaded → Type 0) (b : Bool) (one other : Result Loaded LoadError) (firmware : Loaded) → (one ≡ Ok firmware → P firmware) → (other ≡ Ok firmware → P firmware) → cond b one other ≡ Ok firmware → P firmware
either_fits P true one other firmware f g e = f e
either_fits P false one other firmware f g e = g e

pub lies_in_ram : (file : List ℕ) (mib : ℕ) (firmware : Loaded) → 1 ≤ mib → loaded file mib ≡ Ok firmware → LiesInRam mib firmware
lies_in_ram file mib firmware some e =
    let fits : Fits file (mib * 2 ^ 20) firmware = either_fits (Fits file (mib * 2 ^ 20)) (is_elf file) _ _ firmware (executable_fits file (mib * 2 ^ 20) _ firmware refl) (raw_fits file (mib * 2 ^ 20) firmware (omega (arith, some))) e
    in record { entry = fits.0; aligned = fits.1; pieces = fits.2 }

-- the same of an answer
pub answer_lies : (file : List ℕ) (mib : ℕ) (answer : Result Loaded LoadError) → Loads (loaded file mib) answer → IfOk answer (λ firmware. 1 ≤ mib → LiesInRam mib firmware)
answer_lies file mib (Ok firmware) is = λ some. lies_in_ram file mib firmware some is
answer_lies file mib (Err rule) is = tt
