use Rattle.std.proofs.Common.{◌≡◌, ap, ◌∙◌, sym, arith}
use Rattle.outside.specs.Causes.{one_more}
use Rattle.outside.proofs.OpeningLemmas.{OpensFront-all}
use Rattle.board.specs.Reset.{start_of}
use Rattle.commands.specs.Openings.{device_openings}
use Rattle.outside.specs.Ledger.{Ledger}
use Rattle.outside.specs.Roles.{at}
use Rattle.outside.specs.declared.roles.Role.TheVariants.{LogOut}
use Rattle.commands.proofs.Fresh.{recorded-whole, recorded-front, recorded-stop, opens-no-stop}
use Rattle.event_log.specs.HeaderFormat.{header_text}
use Rattle.commands.proofs.Counting.{recorded-kept}
use Rattle.commands.proofs.devices.record.Goals as goal

pub returns-clause-whole : goal.returns-clause-whole
returns-clause-whole g c =
    recorded-whole c.args.header.now c.args.firmware.now (g.W.World.ledger c.args.world.now)
    (g.W.World.ledger c.open.new.world) (g.W.World.ledger c.close.new.world) c.in-Ok.parts
    c.record_one-end.new.parts c.record_one-end.result c.recording_end.result c.in-Ok.ensures.fresh
    c.record_one-end.ensures c.close.ensures c.recording_end.ensures

pub returns-clause-front : goal.returns-clause-front
returns-clause-front g c = λ more.
    recorded-front c.args.header.now c.args.firmware.now (g.W.World.ledger c.args.world.now)
    (g.W.World.ledger c.open.new.world) (g.W.World.ledger c.close.new.world) c.in-Ok.parts
    c.record_one-end.new.parts c.record_one-end.result c.in-Ok.ensures.fresh
    c.record_one-end.ensures c.close.ensures

pub returns-in-Err-clause-stopped : goal.returns-in-Err-clause-stopped
returns-in-Err-clause-stopped g c = λ stood. opens-no-stop c.in-Err.end _ c.in-Err.ensures.fault

pub returns-clause-stopped : goal.returns-clause-stopped
returns-clause-stopped g c = λ stood.
    recorded-stop c.args.header.now c.args.firmware.now (g.W.World.ledger c.args.world.now)
    (g.W.World.ledger c.open.new.world) (g.W.World.ledger c.close.new.world) c.in-Ok.parts
    c.record_one-end.new.parts c.record_one-end.result c.recording_end.result c.in-Ok.ensures.fresh
    (ap (λ (l : Ledger). at l.faults LogOut) c.in-Ok.ensures.opened)
    c.record_one-end.ensures c.close.ensures c.recording_end.ensures stood

pub returns-clause-openings : goal.returns-clause-openings
returns-clause-openings g c =
    OpensFront-all _ _ (device_openings c.args.log.now)
    (ap (λ (l : Ledger). l.openings) c.close.ensures
    ∙ ap (λ (l : Ledger). l.openings) c.in-Ok.ensures.opened)

-- the log was opened
pub returns-clause-untouched : goal.returns-clause-untouched
returns-clause-untouched g c = λ unopened few.
    let old = g.W.World.ledger c.args.world.now in
    let more : at (g.W.World.ledger c.close.new.world).opened LogOut ≡ one_more (at old.opened LogOut)
    = ap (λ (l : Ledger). at l.opened LogOut) c.close.ensures
    ∙ ap (λ (l : Ledger). at l.opened LogOut) c.in-Ok.ensures.opened in
    let stays : one_more (at old.opened LogOut) ≡ at old.opened LogOut = sym more ∙ unopened in
    absurd (omega (arith, stays, few))

pub returns-clause-kept : goal.returns-clause-kept
returns-clause-kept g c =
    recorded-kept (start_of c.args.header.now c.args.firmware.now) (header_text c.args.header.now)
    (g.W.World.ledger c.args.world.now) (g.W.World.ledger c.open.new.world)
    (g.W.World.ledger c.close.new.world) c.in-Ok.parts c.record_one-end.new.parts
    c.record_one-end.result c.recording_end.result c.in-Ok.ensures.fresh
    (record {
      opening = ap (λ (l : Ledger). l.opening_faults) c.in-Ok.ensures.opened;
      faults = ap (λ (l : Ledger). l.faults) c.in-Ok.ensures.opened;
    })
    c.record_one-end.ensures c.close.ensures c.recording_end.ensures
