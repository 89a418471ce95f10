-- A firmware in RAM.
use Rattle.std.specs.Prelude.{ℕ, List, [], ◌∷◌}
use Rattle.ram_pages.specs.Memory.{written}
use Rattle.elf_load.specs.declared.pieces.Piece.{Piece}

-- RAM with pieces copied in, one after another
unfoldable pub filled : List ℕ → List Piece → List ℕ
filled ram [] = ram
filled ram (p ∷ ps) = filled (written ram p.at p.bytes) ps
