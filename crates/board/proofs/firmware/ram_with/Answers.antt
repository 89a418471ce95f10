use Rattle.std.proofs.Common.{rules, ◌*◌, ◌^◌}
use Rattle.elf_load.specs.Load.{IsInside}
use Rattle.board.proofs.Filling.{fill_next, fill_done, all_next}
use Rattle.board.proofs.firmware.ram_with.Goals as goal

pub fill-requires : goal.fill-requires
fill-requires c =
    let inside = (all_next (IsInside (c.args.mib * 2 ^ 20)) c.args.pieces.now c.loop-piece.piece-index c.piece-item.result c.loop-piece-test.true c.piece-item.is c.loop-piece.invariant.inside).0 in
    rw c.loop-piece.invariant.size inside

pub loop-piece-preserved : goal.loop-piece-preserved
loop-piece-preserved c =
    let ps = c.args.pieces.now in
    let k = c.loop-piece.piece-index in
    let p = c.piece-item.result in
    record {
      filled = fill_next c.loop-piece.ram c.fill.new.ram _ ps k p c.loop-piece-test.true c.piece-item.is c.in_ok-fill.ensures.ok c.loop-piece.invariant.filled;
      size = search rules;
      inside = (all_next (IsInside (c.args.mib * 2 ^ 20)) ps k p c.loop-piece-test.true c.piece-item.is c.loop-piece.invariant.inside).1;
    }

pub returns : goal.returns
returns c = fill_done c.loop-piece.ram _ c.args.pieces.now c.loop-piece.piece-index c.loop-piece-test.false c.loop-piece.invariant.filled
