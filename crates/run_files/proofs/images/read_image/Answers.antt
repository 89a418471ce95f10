use Rattle.run_files.proofs.FileHeld.{file-image, file-fault}
use Rattle.run_files.proofs.images.read_image.Goals as goal

pub returns-in-Ok-clause-ok : goal.returns-in-Ok-clause-ok
returns-in-Ok-clause-ok g c =
    file-image ((g.W.World.ledger c.args.world.now).names c.args.name.now)
    c.deref.result.now c.in-Ok.file.items c.args.header.now c.image_of.result
    c.deref.ensures.value c.in-Ok.ensures.whole c.in-Ok.ensures.short c.image_of.ensures.given

pub returns-in-Ok-clause-refused : goal.returns-in-Ok-clause-refused
returns-in-Ok-clause-refused g c =
    file-fault ((g.W.World.ledger c.args.world.now).names c.args.name.now)
    c.deref.result.now c.in-Ok.file.items c.args.header.now c.image_of.result
    c.deref.ensures.value c.in-Ok.ensures.whole c.in-Ok.ensures.short c.image_of.ensures.given
