use Rattle.std.proofs.Common.{Err, ap, sym, subst, ◌∙◌}
use Rattle.outside.specs.Ledger.{StartsEmpty, sink_back}
use Rattle.outside.specs.declared.roles.Role.TheVariants.{ConsoleOut}
use Rattle.board.specs.Reset.{start_of}
use Rattle.commands.proofs.Played.{shows-over, shows-nothing}
use Rattle.commands.proofs.replaying.show.Goals as goal

pub returns-in-Err-clause-shown : goal.returns-in-Err-clause-shown
returns-in-Err-clause-shown g c =
    shows-nothing c.args.header.now c.args.firmware.now c.args.log.now
    (g.W.World.ledger c.args.world.now) (g.W.World.ledger c.sink.new.self) c.in-Err.field-0
    (λ failed. let k = c.in-Err.ensures.named (ap Err failed) in absurd cc)
    (λ memory. c.in-Err.ensures.memory (ap Err memory))

pub returns-clause-shown : goal.returns-clause-shown
returns-clause-shown g c =
    shows-over (start_of c.args.header.now c.args.firmware.now) c.args.log.now
    c.replay_one-end.new.log
    (g.W.World.ledger c.args.world.now) (g.W.World.ledger c.sink.new.self)
    (g.W.World.ledger c.take_sink.new.self)
    (g.W.Sink.Sink.taken c.new-out.result) (g.W.Sink.Sink.taken c.replay_one-end.new.out)
    (g.W.Sink.Sink.faults c.new-out.result) (g.W.Sink.Sink.faults c.replay_one-end.new.out)
    c.replay_one-end.result
    (subst (λ k. StartsEmpty (g.W.Sink.Sink.taken k)) (sym c.new-out.ensures) c.in-Ok.ensures.empty)
    (ap (λ k. g.W.Sink.Sink.faults k) c.new-out.ensures ∙ c.in-Ok.ensures.fresh)
    c.replay_one-end.ensures.replays c.in-Ok.ensures.opened
    (c.take_sink.ensures.back ∙ ap (λ k. sink_back (g.W.World.ledger c.sink.new.self) ConsoleOut
    (g.W.Sink.Sink.faults k) (g.W.Sink.Sink.taken k)) c.into_inner.ensures)
