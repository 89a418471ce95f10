use Rattle.run_files.proofs.FileHeld.{file-firmware, file-refused}
use Rattle.run_files.proofs.firmware.read_firmware.Goals as goal

pub returns-in-Ok-clause-ok : goal.returns-in-Ok-clause-ok
returns-in-Ok-clause-ok g c =
    file-firmware ((g.W.World.ledger c.args.world.now).names c.args.name.now)
    c.deref.result.now c.in-Ok.file.items c.args.ram_mib c.firmware_of.result
    c.deref.ensures.value c.in-Ok.ensures.whole c.in-Ok.ensures.short c.firmware_of.ensures.ok

pub returns-in-Ok-clause-refused : goal.returns-in-Ok-clause-refused
returns-in-Ok-clause-refused g c =
    file-refused ((g.W.World.ledger c.args.world.now).names c.args.name.now)
    c.deref.result.now c.in-Ok.file.items c.args.ram_mib c.firmware_of.result
    c.deref.ensures.value c.in-Ok.ensures.whole c.firmware_of.ensures.refused
