use Rattle.std.proofs.Common.{arith, length}
use Rattle.ram_pages.proofs.Paging.{length-joined}
use Rattle.ram_pages.proofs.Standing.{length-joined_laid}
use Rattle.ram_pages.proofs.fresh.u64_with.Goals as goal

pub overflow_add-place : goal.overflow_add-place
overflow_add-place c =
    omega (arith, length-joined c.args.pages.now c.requires.whole, length-joined_laid c.args.fresh.now c.args.pages.now (length c.args.pages.now) c.requires.whole c.requires.fresh)
