use Rattle.std.proofs.Common.{ℕ, [], ◌∷◌, Err, sym, ap, ◌∙◌, subst}
use Rattle.outside.specs.Causes.{Rose}
use Rattle.outside.proofs.OpeningLemmas.{OpensFront-after, OpensFront-longer}
use Rattle.outside.specs.Ledger.{Ledger}
use Rattle.outside.specs.Roles.{at}
use Rattle.outside.specs.declared.roles.Role.TheVariants.{ConsoleOut}
use Rattle.event_log.specs.Reading.{ahead}
use Rattle.commands.specs.Asking.{replay_asked, replay_outcome_of, image_outcome_of}
use Rattle.run_files.specs.Files.{firmware_opening}
use Rattle.commands.specs.Openings.{console_openings}
use Rattle.commands.proofs.Replayed.{words-cause, image-cause, played-cause, played-shown, as-outcome, Begins}
use Rattle.commands.proofs.replaying.replay_log.Goals as goal

pub returns-in-Some-clause-cause : goal.returns-in-Some-clause-cause
returns-in-Some-clause-cause g c =
    let k = c.in-Ok.ensures.header in
    words-cause (replay_asked c.args.words.now) (ahead c.args.log.now) (ahead c.header.new.self)
    c.in-Ok.header
    (g.W.World.ledger c.args.world.now) (g.W.World.ledger c.args.world.now)
    (Rose c.args.log.now.faults c.header.new.self.faults) c.in-Some.difference
    k.1 k.2.bytes (sym c.word_difference.ensures ∙ c.in-Some.is)

pub returns-in-Ok-read_image-clause-cause : goal.returns-in-Ok-read_image-clause-cause
returns-in-Ok-read_image-clause-cause g c =
    let k = c.in-Ok.ensures.header in
    let words = replay_asked c.args.words.now in
    let old = g.W.World.ledger c.args.world.now in
    let new = g.W.World.ledger c.show.new.world in
    let failed = Rose c.args.log.now.faults c.show.new.log.faults in
    let begins : Begins words (ahead c.args.log.now) (old.names words.bios) c.in-Ok.header
    c.in-Ok-read_image.firmware (ahead c.header.new.self) = record {
      is = k.1;
      passed = k.2.bytes;
      words = sym c.word_difference.ensures ∙ c.in-None.is;
      image = c.in-Ok-read_image.ensures.ok;
      disk = c.in-Ok-read_image.ensures.disk;
    } in
    as-outcome words (ahead c.args.log.now) old new failed c.replay_outcome.result
    (replay_outcome_of c.show.result) c.replay_outcome.ensures
    (played-cause words (ahead c.args.log.now) c.in-Ok.header c.in-Ok-read_image.firmware
    c.header.new.self c.show.new.log
    old (g.W.World.ledger c.read_image.new.world) new failed c.show.result begins
    c.show.ensures.shown
    (ap (λ (l : Ledger). at l.faults ConsoleOut) c.in-Ok-read_image.ensures.rest)
    (λ rose. subst (λ (n : ℕ). Rose n c.show.new.log.faults) k.0.faults rose))

pub returns-in-Ok-read_image-clause-shown : goal.returns-in-Ok-read_image-clause-shown
returns-in-Ok-read_image-clause-shown g c = λ more.
    let k = c.in-Ok.ensures.header in
    let words = replay_asked c.args.words.now in
    let old = g.W.World.ledger c.args.world.now in
    let begins : Begins words (ahead c.args.log.now) (old.names words.bios) c.in-Ok.header
    c.in-Ok-read_image.firmware (ahead c.header.new.self) = record {
      is = k.1;
      passed = k.2.bytes;
      words = sym c.word_difference.ensures ∙ c.in-None.is;
      image = c.in-Ok-read_image.ensures.ok;
      disk = c.in-Ok-read_image.ensures.disk;
    } in
    played-shown words (ahead c.args.log.now) c.in-Ok.header c.in-Ok-read_image.firmware
    c.header.new.self c.show.new.log
    old (g.W.World.ledger c.read_image.new.world) (g.W.World.ledger c.show.new.world) c.show.result
    begins c.show.ensures.shown
    (ap (λ (l : Ledger). at l.opened ConsoleOut) c.in-Ok-read_image.ensures.rest) more

pub returns-in-Err-read_image-clause-cause : goal.returns-in-Err-read_image-clause-cause
returns-in-Err-read_image-clause-cause g c =
    let k = c.in-Ok.ensures.header in
    let words = replay_asked c.args.words.now in
    let old = g.W.World.ledger c.args.world.now in
    let new = g.W.World.ledger c.read_image.new.world in
    let failed = Rose c.args.log.now.faults c.header.new.self.faults in
    as-outcome words (ahead c.args.log.now) old new failed c.image_outcome.result
    (image_outcome_of c.in-Err-read_image.fault) c.image_outcome.ensures
    (image-cause words (ahead c.args.log.now) (ahead c.header.new.self) c.in-Ok.header
    old new failed c.in-Err-read_image.fault
    k.1 k.2.bytes (sym c.word_difference.ensures ∙ c.in-None.is)
    c.in-Err-read_image.ensures.refused
    (λ e. c.in-Err-read_image.ensures.unopened (ap Err e))
    (λ e. c.in-Err-read_image.ensures.unread (ap Err e)))

pub returns-in-Ok-read_image-clause-openings : goal.returns-in-Ok-read_image-clause-openings
returns-in-Ok-read_image-clause-openings g c =
    OpensFront-after _ _ _ (firmware_opening c.args.words.now.bios.now ∷ []) console_openings
    c.in-Ok-read_image.ensures.opened c.show.ensures.openings

pub returns-in-Err-read_image-clause-openings : goal.returns-in-Err-read_image-clause-openings
returns-in-Err-read_image-clause-openings g c =
    OpensFront-longer _ _ (firmware_opening c.args.words.now.bios.now ∷ []) console_openings
    c.read_image.ensures.openings
