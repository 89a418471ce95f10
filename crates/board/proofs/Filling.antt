-- Pieces copied into RAM, one after another.
use Rattle.std.proofs.Common.{◌≡◌, ℕ, ◌≤◌, ◌<◌, ◌+◌, ◌-◌, ◌++◌, List, length, take, drop, get_or, arith, length-append, length-drop}
use Rattle.std.proofs.lemmas.List.{drop_more, length-take-le}
use Rattle.std.proofs.Math.ListN.{drop_of_length-le}
use Rattle.std.specs.List.{AllByRecursion}
use Rattle.ram_pages.specs.Memory.{ram_start, written, LiesIn}
use Rattle.elf_load.specs.declared.pieces.Piece.{Piece}
use Rattle.board.specs.Firmware.{filled}

-- a write keeps the size
pub written_length : (ram : List ℕ) (at : ℕ) (fresh : List ℕ) → LiesIn ram at (length fresh)
    → length (written ram at fresh) ≡ length ram
written_length ram at fresh h =
    let place = at - ram_start in
    let front : length (take place ram) ≡ place = length-take-le place ram (omega arith) in
    omega (
      arith,
      length-append (take place ram) (fresh ++ drop (place + length fresh) ram),
      length-append fresh (drop (place + length fresh) ram),
      length-drop (place + length fresh) ram,
    )

-- what is left to copy, after one piece more
pub fill_next : (ram ram' r : List ℕ) (ps : List Piece) (k : ℕ) (p : Piece) → k < length ps → p ≡ get_or ps k p
    → ram' ≡ written ram p.at p.bytes → filled ram (drop k ps) ≡ r → filled ram' (drop (k + 1) ps) ≡ r
unfolding filled
fill_next ram ram' r ps k p within is copied before =
    let here = rw (drop_more ps k p within, ← is) at before in
    rw copied here

-- nothing is left
pub fill_done : (ram r : List ℕ) (ps : List Piece) (k : ℕ) → length ps ≤ k → filled ram (drop k ps) ≡ r → ram ≡ r
unfolding filled
fill_done ram r ps k all before = rw (drop_of_length-le ps all) at before

pub all_next : (P : Piece → Type 0) (ps : List Piece) (k : ℕ) (p : Piece) → k < length ps → p ≡ get_or ps k p
    → AllByRecursion P (drop k ps) → P p × AllByRecursion P (drop (k + 1) ps)
all_next P ps k p within is all = rw (drop_more ps k p within, ← is) at all
