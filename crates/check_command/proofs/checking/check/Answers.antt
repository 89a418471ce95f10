use Rattle.std.proofs.Common.{◌<◌, ◌∙◌, ℕ, List, [], ◌∷◌, Some, ap, sym, subst}
use Rattle.outside.specs.Ledger.{Ledger}
use Rattle.outside.specs.Openings.{OpensFront}
use Rattle.outside.specs.Roles.{at}
use Rattle.outside.specs.Told.{TakesFront}
use Rattle.outside.specs.declared.openings.Opening.TheVariants.{Source}
use Rattle.outside.specs.declared.roles.Role.TheVariants.{ConsoleOut, LogIn}
use Rattle.outside.proofs.OpeningLemmas.{OpensFront-after}
use Rattle.run_files.specs.Files.{firmware_opening}
use Rattle.commands.specs.Asking.{replaying_of}
use Rattle.commands.specs.Openings.{console_openings, played_openings}
use Rattle.check_command.proofs.Judged.{both-some}
use Rattle.check_command.proofs.Checked.{console-untouched, judged-openings, accepted-log, told-cause, untold-cause}
use Rattle.check_command.proofs.checking.check.Goals as goal

pub returns-clause-cause : goal.returns-clause-cause
returns-clause-cause g c =
    let words = replaying_of c.args.log.now c.args.bios.now in
    let old = g.W.World.ledger c.args.world.now in
    let opened = g.W.World.ledger c.open_log.new.world in
    let back = g.W.World.ledger c.take_source.new.self in
    let same = console-untouched old opened (g.W.World.ledger c.judge-verdict.new.world) back
    words.log (g.W.Source.Source.faults c.into_inner.result)
    (g.W.Source.Source.left c.into_inner.result) c.in-Ok.ensures.opened
    c.in-Ok-verdict.ensures.rest c.take_source.ensures.back in
    told-cause words c.in-Ok-verdict.tally old back (g.W.World.ledger c.print.new.world)
    c.as_str.result.now c.print.result c.quiet_outcome.result
    (accepted-log words c.in-Ok-verdict.tally old opened c.in-Ok.reader
    c.in-Ok.ensures.opened c.in-Ok.ensures.reader (c.in-Ok-verdict.ensures.judges words.log))
    same.0 (c.as_str.ensures.value ∙ c.in-Ok-line.ensures) c.print.ensures.whole
    c.print.ensures.failed c.quiet_outcome.ensures

pub returns-clause-shown : goal.returns-clause-shown
returns-clause-shown g c = λ more.
    let words = replaying_of c.args.log.now c.args.bios.now in
    let old = g.W.World.ledger c.args.world.now in
    let new = g.W.World.ledger c.print.new.world in
    let opened = g.W.World.ledger c.open_log.new.world in
    let same = console-untouched old opened (g.W.World.ledger c.judge-verdict.new.world)
    (g.W.World.ledger c.take_source.new.self) words.log
    (g.W.Source.Source.faults c.into_inner.result) (g.W.Source.Source.left c.into_inner.result)
    c.in-Ok.ensures.opened c.in-Ok-verdict.ensures.rest c.take_source.ensures.back in
    let front = subst (λ (z : List ℕ). TakesFront (Some []) (at new.last ConsoleOut) z)
    (c.as_str.ensures.value ∙ c.in-Ok-line.ensures)
    (c.print.ensures.front
    (subst (λ (n : ℕ). n < at new.opened ConsoleOut) (sym same.1) more)) in
    both-some (old.names words.log) (old.names words.bios)
    (λ bytes file a. (c.in-Ok-verdict.tally, a, front))
    (accepted-log words c.in-Ok-verdict.tally old opened c.in-Ok.reader
    c.in-Ok.ensures.opened c.in-Ok.ensures.reader (c.in-Ok-verdict.ensures.judges words.log))

-- the log was opened, then the firmware, then the console
pub returns-clause-openings : goal.returns-clause-openings
returns-clause-openings g c =
    let bios = c.args.bios.now in
    let last = g.W.World.ledger c.print.new.world in
    OpensFront-after _ _ _ (Source LogIn (Some c.args.log.now) ∷ []) (played_openings bios)
    (ap (λ (l : Ledger). l.openings) c.in-Ok.ensures.opened)
    (OpensFront-after _ _ _ (firmware_opening bios ∷ []) console_openings
    c.in-Ok-verdict.ensures.opened
    (subst (λ z. OpensFront z last.openings console_openings)
    (ap (λ (l : Ledger). l.openings) c.take_source.ensures.back) c.print.ensures.openings))

pub returns-in-Err-clause-cause : goal.returns-in-Err-clause-cause
returns-in-Err-clause-cause g c =
    let words = replaying_of c.args.log.now c.args.bios.now in
    let old = g.W.World.ledger c.args.world.now in
    untold-cause words old (g.W.World.ledger c.open_log.new.world)
    (g.W.World.ledger c.judge-verdict.new.world) (g.W.World.ledger c.take_source.new.self)
    c.in-Ok.reader c.judge-verdict.new.log
    (g.W.Source.Source.faults c.into_inner.result) (g.W.Source.Source.left c.into_inner.result)
    c.in-Err.outcome c.in-Ok.ensures.opened c.in-Ok.ensures.reader c.in-Err.ensures.rest
    c.take_source.ensures.back c.into_inner.ensures.faults (c.in-Err.ensures.judges words.log)

-- the log was opened, then the firmware or not
pub returns-in-Err-clause-openings : goal.returns-in-Err-clause-openings
returns-in-Err-clause-openings g c =
    judged-openings c.args.log.now c.args.bios.now (g.W.World.ledger c.args.world.now)
    (g.W.World.ledger c.open_log.new.world) (g.W.World.ledger c.judge-verdict.new.world) _ _ _
    c.in-Ok.ensures.opened c.in-Err.ensures.openings c.take_source.ensures.back

-- the same where no memory was left for the line
pub returns-in_default-clause-openings : goal.returns-in_default-clause-openings
returns-in_default-clause-openings g c =
    judged-openings c.args.log.now c.args.bios.now (g.W.World.ledger c.args.world.now)
    (g.W.World.ledger c.open_log.new.world) (g.W.World.ledger c.judge-verdict.new.world) _ _ _
    c.in-Ok.ensures.opened c.in-Ok-verdict.ensures.openings c.take_source.ensures.back
