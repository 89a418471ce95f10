use Rattle.std.proofs.Common.{ℕ, List, length, Some, Err, refl, sym, ap, ◌∙◌, subst}
use Rattle.outside.specs.Ledger.{StartsEmpty, sink_back}
use Rattle.outside.specs.declared.roles.Role.TheVariants.{ConsoleOut}
use Rattle.board.specs.Reset.{start_of}
use Rattle.reverse_seek.specs.Backing.{Backing, backing}
use Rattle.monitor.specs.Serving.{heard, written}
use Rattle.debug_command.proofs.Streams.{held-over, input-alone, sound-image}
use Rattle.debug_command.proofs.debugging.hold.Goals as goal

pub returns-in-Err-sink-clause-openings : goal.returns-in-Err-sink-clause-openings
returns-in-Err-sink-clause-openings g c =
    input-alone (g.W.World.ledger c.args.world.now) (g.W.World.ledger c.source.new.self)
    (g.W.World.ledger c.sink.new.self) (g.W.World.ledger c.take_source.new.self)
    c.in-Err-sink.field-0 (g.W.Source.Source.faults c.in-Ok.source)
    (g.W.Source.Source.left c.in-Ok.source) c.in-Ok.ensures.opened
    (λ failed. let k = c.in-Err-sink.ensures.named (ap Err failed) in absurd cc)
    (λ memory. c.in-Err-sink.ensures.memory (ap Err memory)) c.take_source.ensures.back

-- an image in memory, as it is seen
abbrev sure : List ℕ → Backing
sure bytes = backing (Some bytes) (length bytes) 0

pub returns-clause-held : goal.returns-clause-held
returns-clause-held g c =
    held-over (start_of c.args.header.now c.args.firmware.now) c.args.log.items
    c.debug_log-end.result.0 (g.W.World.ledger c.args.world.now)
    (g.W.World.ledger c.source.new.self) (g.W.World.ledger c.sink.new.self)
    (g.W.World.ledger c.take_source-2.new.self) (g.W.World.ledger c.take_sink.new.self)
    (heard (g.W.Source.Source.left c.in-Ok.source) (g.W.Source.Source.faults c.in-Ok.source))
    (heard (g.W.Source.Source.left c.debug_log-end.new.input)
    (g.W.Source.Source.faults c.debug_log-end.new.input))
    (written (g.W.Sink.Sink.taken c.new-out.result) (g.W.Sink.Sink.faults c.new-out.result))
    (written (g.W.Sink.Sink.taken c.debug_log-end.new.out)
    (g.W.Sink.Sink.faults c.debug_log-end.new.out))
    c.in-Ok.ensures.holds c.in-Ok.ensures.fresh
    (subst (λ k. StartsEmpty (g.W.Sink.Sink.taken k)) (sym c.new-out.ensures)
    c.in-Ok-sink.ensures.empty)
    (ap (λ k. g.W.Sink.Sink.faults k) c.new-out.ensures ∙ c.in-Ok-sink.ensures.fresh)
    (sound-image c.debug_log-end.result.0 (sure c.new-disk.result)
    (sure c.debug_log-end.result.1) refl refl c.debug_log-end.ensures.image)
    c.debug_log-end.ensures.session c.in-Ok.ensures.opened c.in-Ok-sink.ensures.opened
    c.take_source-2.ensures.back
    (c.take_sink.ensures.back ∙ ap (λ k. sink_back (g.W.World.ledger c.take_source-2.new.self)
    ConsoleOut (g.W.Sink.Sink.faults k) (g.W.Sink.Sink.taken k)) c.into_inner.ensures)
