use Rattle.std.proofs.Common.{ℕ, [], ◌∷◌, ◌≡◌, ◌<◌, ap, sym, subst}
use Rattle.outside.specs.Ledger.{Ledger}
use Rattle.outside.proofs.OpeningLemmas.{OpensFront-after, OpensFront-longer}
use Rattle.run_files.specs.Files.{firmware_opening}
use Rattle.commands.specs.Openings.{device_openings}
use Rattle.outside.specs.Roles.{at}
use Rattle.outside.specs.declared.roles.Role.TheVariants.{LogOut}
use Rattle.commands.specs.Asking.{asked}
use Rattle.commands.proofs.Ran.{Gives, run-cause, run-logged}
use Rattle.commands.proofs.Counting.{run-named}
use Rattle.commands.proofs.recording.run.Goals as goal

pub returns-clause-cause : goal.returns-clause-cause
returns-clause-cause g c =
    let old = g.W.World.ledger c.args.world.now in
    let mid = g.W.World.ledger c.read_firmware.new.world in
    let gives = subst (λ (mib : ℕ). Gives (old.names c.args.words.now.bios.now) mib
    c.in-Ok.firmware) c.from-ram_mib.ensures c.in-Ok.ensures.ok in
    run-cause (asked c.args.words.now) old mid (g.W.World.ledger c.record.new.world)
    c.in-Ok.firmware c.header-header.result
    c.record.result c.ending_outcome.result c.ending_outcome.ensures gives c.header-header.ensures
    c.record.ensures.whole c.record.ensures.stopped
    c.record.ensures.unopened c.record.ensures.input_fault c.record.ensures.console_fault
    c.record.ensures.log_fault c.in-Ok.ensures.kept c.in-Ok.ensures.rest

pub returns-clause-log : goal.returns-clause-log
returns-clause-log g c = λ more.
    let old = g.W.World.ledger c.args.world.now in
    let mid = g.W.World.ledger c.read_firmware.new.world in
    let new = g.W.World.ledger c.record.new.world in
    let gives = subst (λ (mib : ℕ). Gives (old.names c.args.words.now.bios.now) mib
    c.in-Ok.firmware) c.from-ram_mib.ensures c.in-Ok.ensures.ok in
    let opened : at mid.opened LogOut ≡ at old.opened LogOut = ap
    (λ (l : Ledger). at l.opened LogOut) c.in-Ok.ensures.rest in
    run-logged (old.names c.args.words.now.bios.now) (asked c.args.words.now) c.in-Ok.firmware
    c.header-header.result old mid new gives c.header-header.ensures c.in-Ok.ensures.rest
    (c.record.ensures.front (subst (λ (n : ℕ). n < at new.opened LogOut) (sym opened) more))

pub returns-in-Err-clause-openings : goal.returns-in-Err-clause-openings
returns-in-Err-clause-openings g c =
    OpensFront-longer _ _ (firmware_opening c.args.words.now.bios.now ∷ [])
    (device_openings c.args.words.now.log.now) c.read_firmware.ensures.openings

pub returns-clause-openings : goal.returns-clause-openings
returns-clause-openings g c =
    OpensFront-after _ _ _ (firmware_opening c.args.words.now.bios.now ∷ [])
    (device_openings c.args.words.now.log.now) c.in-Ok.ensures.opened c.record.ensures.openings

pub returns-clause-kept : goal.returns-clause-kept
returns-clause-kept g c =
    run-named (g.W.World.ledger c.args.world.now) (g.W.World.ledger c.read_firmware.new.world)
    (g.W.World.ledger c.record.new.world) c.record.result c.ending_outcome.result
    (record {
      read = c.in-Ok.ensures.kept;
      only_read = c.in-Ok.ensures.rest;
      only_recorded = c.record.ensures.rest;
    })
    c.record.ensures.kept c.ending_outcome.ensures
