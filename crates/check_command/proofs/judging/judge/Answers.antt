use Rattle.std.proofs.Common.{ℕ, Err, refl, ap, subst}
use Rattle.outside.specs.Causes.{Rose}
use Rattle.event_log.specs.Reading.{ahead}
use Rattle.commands.specs.Asking.{replaying_of, image_outcome_of}
use Rattle.commands.proofs.Replayed.{Begins, image-cause}
use Rattle.check_command.specs.Checks.{judged}
use Rattle.check_command.proofs.Judged.{judged-cause, image-judged, as-judged}
use Rattle.check_command.proofs.judging.judge.Goals as goal

pub returns-in-Err-read_image-clause-judges : goal.returns-in-Err-read_image-clause-judges
returns-in-Err-read_image-clause-judges g c = λ name.
    let k = c.in-Ok.ensures.header in
    let words = replaying_of name c.args.bios.now in
    let old = g.W.World.ledger c.args.world.now in
    let new = g.W.World.ledger c.read_image.new.world in
    let failed = Rose c.args.log.now.faults c.header.new.self.faults in
    as-judged words (ahead c.args.log.now) old new failed (Err c.image_outcome.result)
    (Err (image_outcome_of c.in-Err-read_image.fault)) (ap Err c.image_outcome.ensures)
    (image-judged words (ahead c.args.log.now) old new failed c.in-Err-read_image.fault
    (image-cause words (ahead c.args.log.now) (ahead c.header.new.self) c.in-Ok.header
    old new failed c.in-Err-read_image.fault k.1 k.2.bytes refl
    c.in-Err-read_image.ensures.refused
    (λ e. c.in-Err-read_image.ensures.unopened (ap Err e))
    (λ e. c.in-Err-read_image.ensures.unread (ap Err e))))

pub returns-clause-judges : goal.returns-clause-judges
returns-clause-judges g c = λ name.
    let k = c.in-Ok.ensures.header in
    let words = replaying_of name c.args.bios.now in
    let old = g.W.World.ledger c.args.world.now in
    let new = g.W.World.ledger c.read_image.new.world in
    let failed = Rose c.args.log.now.faults c.replay_one.new.log.faults in
    let begins : Begins words (ahead c.args.log.now) (old.names words.bios) c.in-Ok.header
    c.in-Ok-read_image.firmware (ahead c.header.new.self) = record {
      is = k.1;
      passed = k.2.bytes;
      words = refl;
      image = c.in-Ok-read_image.ensures.ok;
      disk = c.in-Ok-read_image.ensures.disk;
    } in
    as-judged words (ahead c.args.log.now) old new failed c.judged.result
    (judged c.replay_one.result) c.judged.ensures
    (judged-cause words (ahead c.args.log.now) c.in-Ok.header c.in-Ok-read_image.firmware
    c.header.new.self c.replay_one.new.log old new failed c.replay_one.result begins
    c.replay_one.ensures.replays
    (λ rose. subst (λ (n : ℕ). Rose n c.replay_one.new.log.faults) k.0.faults rose))
