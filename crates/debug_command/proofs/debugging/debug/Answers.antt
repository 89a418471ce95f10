use Rattle.std.proofs.Common.{[], ◌∷◌, Some, Err, ap}
use Rattle.outside.specs.declared.openings.Opening.TheVariants.{Source}
use Rattle.outside.specs.declared.roles.Role.TheVariants.{LogIn}
use Rattle.outside.proofs.OpeningLemmas.{OpensFront-after, OpensFront-longer}
use Rattle.run_files.specs.Files.{firmware_opening}
use Rattle.commands.specs.Asking.{image_outcome_of}
use Rattle.debug_command.specs.Debugs.{stream_openings}
use Rattle.debug_command.proofs.Held.{as-outcome, held-cause, held-shown}
use Rattle.debug_command.proofs.Files.{has-header, header-fits, image-cause, begun, files-read}
use Rattle.debug_command.proofs.debugging.debug.Goals as goal

-- ---- the log isn't read

pub returns-in-Err-clause-openings : goal.returns-in-Err-clause-openings
returns-in-Err-clause-openings g c =
    OpensFront-longer _ _ (Source LogIn (Some c.args.log.now) ∷ [])
    (firmware_opening c.args.bios.now ∷ stream_openings) c.read_file.ensures.openings

-- ---- its header is refused

pub returns-in-Err-read_header-clause-openings : goal.returns-in-Err-read_header-clause-openings
returns-in-Err-read_header-clause-openings g c =
    OpensFront-longer _ _ (Source LogIn (Some c.args.log.now) ∷ [])
    (firmware_opening c.args.bios.now ∷ stream_openings) c.in-Ok.ensures.openings

-- ---- the firmware isn't the image

pub returns-in-Err-read_image-clause-cause : goal.returns-in-Err-read_image-clause-cause
returns-in-Err-read_image-clause-cause g c =
    let log = c.args.log.now in
    let bios = c.args.bios.now in
    let old = g.W.World.ledger c.args.world.now in
    let mid = g.W.World.ledger c.read_file.new.world in
    let new = g.W.World.ledger c.read_image.new.world in
    let bytes = c.in-Ok.bytes.items in
    let h = c.in-Ok-read_header.header in
    as-outcome log bios old new c.image_outcome.result
    (image_outcome_of c.in-Err-read_image.fault) c.image_outcome.ensures
    (image-cause log bios bytes h old mid new c.in-Err-read_image.fault
    c.in-Ok.ensures.short
    (has-header bytes c.deref.result.now h c.deref.ensures.value c.in-Ok-read_header.ensures)
    c.in-Ok.ensures.whole c.in-Err-read_image.ensures.refused c.in-Ok.ensures.kept
    c.in-Ok.ensures.rest
    (λ e. c.in-Err-read_image.ensures.unopened (ap Err e))
    (λ e. c.in-Err-read_image.ensures.unread (ap Err e)))

pub returns-in-Err-read_image-clause-openings : goal.returns-in-Err-read_image-clause-openings
returns-in-Err-read_image-clause-openings g c =
    OpensFront-after _ _ _ (Source LogIn (Some c.args.log.now) ∷ [])
    (firmware_opening c.args.bios.now ∷ stream_openings) c.in-Ok.ensures.opened
    (OpensFront-longer _ _ (firmware_opening c.args.bios.now ∷ []) stream_openings
    c.read_image.ensures.openings)

-- ---- a session was held

-- the header and the log's length, for the session
pub hold-requires-clause-log : goal.hold-requires-clause-log
hold-requires-clause-log g c κs within =
    let bytes = c.in-Ok.bytes.items in
    let h = c.in-Ok-read_header.header in
    header-fits bytes h
    (has-header bytes c.deref.result.now h c.deref.ensures.value c.in-Ok-read_header.ensures)

pub returns-in-Ok-read_image-clause-cause : goal.returns-in-Ok-read_image-clause-cause
returns-in-Ok-read_image-clause-cause g c =
    let log = c.args.log.now in
    let bios = c.args.bios.now in
    let old = g.W.World.ledger c.args.world.now in
    let first = g.W.World.ledger c.read_file.new.world in
    let mid = g.W.World.ledger c.read_image.new.world in
    let new = g.W.World.ledger c.hold.new.world in
    let bytes = c.in-Ok.bytes.items in
    let h = c.in-Ok-read_header.header in
    let f = c.in-Ok-read_image.firmware in
    let begins = begun log bios bytes h f old first c.in-Ok.ensures.whole c.in-Ok.ensures.short
    (has-header bytes c.deref.result.now h c.deref.ensures.value c.in-Ok-read_header.ensures)
    c.in-Ok.ensures.rest c.in-Ok-read_image.ensures.ok c.in-Ok-read_image.ensures.disk in
    held-cause log bios bytes h f old mid new c.hold.result c.session_outcome.result begins
    (files-read old first mid c.in-Ok.ensures.rest c.in-Ok-read_image.ensures.rest)
    c.hold.ensures.held c.session_outcome.ensures

pub returns-in-Ok-read_image-clause-shown : goal.returns-in-Ok-read_image-clause-shown
returns-in-Ok-read_image-clause-shown g c = λ more.
    let log = c.args.log.now in
    let bios = c.args.bios.now in
    let old = g.W.World.ledger c.args.world.now in
    let first = g.W.World.ledger c.read_file.new.world in
    let mid = g.W.World.ledger c.read_image.new.world in
    let new = g.W.World.ledger c.hold.new.world in
    let bytes = c.in-Ok.bytes.items in
    let h = c.in-Ok-read_header.header in
    let f = c.in-Ok-read_image.firmware in
    let begins = begun log bios bytes h f old first c.in-Ok.ensures.whole c.in-Ok.ensures.short
    (has-header bytes c.deref.result.now h c.deref.ensures.value c.in-Ok-read_header.ensures)
    c.in-Ok.ensures.rest c.in-Ok-read_image.ensures.ok c.in-Ok-read_image.ensures.disk in
    held-shown (old.names log) (old.names bios) bytes h f old mid new c.hold.result begins
    (files-read old first mid c.in-Ok.ensures.rest c.in-Ok-read_image.ensures.rest)
    c.hold.ensures.held more

pub returns-in-Ok-read_image-clause-openings : goal.returns-in-Ok-read_image-clause-openings
returns-in-Ok-read_image-clause-openings g c =
    OpensFront-after _ _ _ (Source LogIn (Some c.args.log.now) ∷ [])
    (firmware_opening c.args.bios.now ∷ stream_openings) c.in-Ok.ensures.opened
    (OpensFront-after _ _ _ (firmware_opening c.args.bios.now ∷ []) stream_openings
    c.in-Ok-read_image.ensures.opened c.hold.ensures.openings)
