use Rattle.std.proofs.Common.{subst}
use Rattle.reverse_seek.specs.Script.{Reads}
use Rattle.reverse_seek.proofs.Opening.{started, reset-begins}
use Rattle.reverse_seek.proofs.walk.Walk.open.Goals as goal

pub read-requires-clause-begins : goal.read-requires-clause-begins
read-requires-clause-begins g c =
    reset-begins c.in_ok-machine.machine c.of.result c.args.firmware.now c.in_ok-machine.ensures

pub returns-clause-script : goal.returns-clause-script
returns-clause-script g c =
    subst (λ z. Reads z c.args.log.items c.in_ok-script.script c.in_ok-script.refusal)
    (started c.in_ok-machine.machine c.of.result _ c.args.firmware.now c.in_ok-machine.ensures c.of.ensures)
    c.in_ok-script.ensures.reads
