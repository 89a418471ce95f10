use Rattle.std.proofs.Common.{ap, length}
use Rattle.ram_pages.specs.Paging.{joined}
use Rattle.ram_pages.proofs.Standing.{ArePages-laid}
use Rattle.ram_pages.proofs.fresh.settle.Goals as goal

pub returns-clause-whole : goal.returns-clause-whole
returns-clause-whole c =
    rw c.lay_each.ensures (ArePages-laid c.args.fresh.items c.args.pages.now (length c.args.pages.now) c.requires.whole c.requires.fresh)

pub returns-clause-bytes : goal.returns-clause-bytes
returns-clause-bytes c = ap joined c.lay_each.ensures
