use Rattle.std.proofs.Common.{◌≡◌, ◌∷◌, Err, Some, None, ap, ◌∙◌}
use Rattle.outside.specs.Ledger.{Ledger}
use Rattle.outside.specs.declared.openings.Opening.TheVariants.{Sink, Clock}
use Rattle.outside.specs.declared.roles.Role.TheVariants.{ConsoleOut, LogOut}
use Rattle.outside.proofs.OpeningLemmas.{OpensFront-take}
use Rattle.commands.specs.Openings.{device_openings}
use Rattle.commands.proofs.Opened.{unopened, refused}
use Rattle.commands.proofs.devices.open.Goals as goal

-- the console's input was opened, and given back
pub returns-in-Err-sink-clause-openings : goal.returns-in-Err-sink-clause-openings
returns-in-Err-sink-clause-openings g c =
    let first = g.W.World.ledger c.source.new.self in
    let second = g.W.World.ledger c.sink.new.self in
    let same : second ≡ first = unopened first second c.in-Err-sink.field-0
    (λ failed. let k = c.in-Err-sink.ensures.named (ap Err failed) in absurd cc)
    (λ memory. c.in-Err-sink.ensures.memory (ap Err memory)) in
    OpensFront-take _ _ (device_openings c.args.log.now) 1
    (ap (λ (l : Ledger). l.openings) c.take_source.ensures.back
    ∙ ap (λ (l : Ledger). l.openings) same
    ∙ ap (λ (l : Ledger). l.openings) c.in-Ok.ensures.opened)

-- all but the log was opened, and given back
pub returns-in-Err-sink-2-clause-openings : goal.returns-in-Err-sink-2-clause-openings
returns-in-Err-sink-2-clause-openings g c =
    let third = g.W.World.ledger c.clock-clock.new.self in
    let last = g.W.World.ledger c.sink-2.new.self in
    let same : last.openings ≡ third.openings = refused third last c.in-Err-sink-2.error
    (Sink LogOut (Some c.args.log.now))
    (λ failed. c.in-Err-sink-2.ensures.failed (ap Err failed))
    (λ memory. c.in-Err-sink-2.ensures.memory (ap Err memory)) in
    OpensFront-take _ _ (device_openings c.args.log.now) 3
    (ap (λ (l : Ledger). l.openings) c.take_clock.ensures.back
    ∙ ap (λ (l : Ledger). l.openings) c.take_sink.ensures.back
    ∙ ap (λ (l : Ledger). l.openings) c.take_source-in-Err-sink-2.ensures.back
    ∙ same
    ∙ ap (λ (l : Ledger). l.openings) c.clock-clock.ensures.opened
    ∙ ap (λ (l : Ledger). Clock ∷ l.openings) c.in-Ok-sink.ensures.opened
    ∙ ap (λ (l : Ledger). Clock ∷ Sink ConsoleOut None ∷ l.openings) c.in-Ok.ensures.opened)
