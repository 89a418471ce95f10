use Rattle.std.proofs.Common.{◌≡◌, ◌*◌, ◌^◌, length, drop}
use Rattle.std.specs.List.{AllByRecursion}
use Rattle.ram_pages.specs.Memory.{zeros}
use Rattle.elf_load.specs.Load.{IsInside}
use Rattle.board.specs.Firmware.{filled}
use Rattle.board.proofs.firmware.ram_with.Given as goal

-- the pieces that are left still have to be copied into the RAM, and lie in it
abbrev pub invariant-loop-piece : goal.invariant-loop-piece
invariant-loop-piece l = record {
  filled : filled l.ram (drop l.piece-index l.pieces) ≡ filled (zeros l.mib) l.pieces;
  size : length l.ram ≡ l.mib * 2 ^ 20;
  inside : AllByRecursion (IsInside (l.mib * 2 ^ 20)) (drop l.piece-index l.pieces);
}
