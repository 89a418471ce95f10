use Rattle.std.proofs.Common.{Err, subst}
use Rattle.event_log.specs.Reading.{Reader, reading, Parses}
use Rattle.event_log.proofs.Flow.{parsed_bad}
use Rattle.event_log.proofs.read_ahead.ReadAhead.next.Goals as goal

pub returns-in-Err-Bad-clause-event : goal.returns-in-Err-Bad-clause-event
returns-in-Err-Bad-clause-event g c =
    let old : Reader = reading (g.S.Source.left c.args.source.now) (g.S.Source.faults c.args.source.now) c.args.self.now in
    let left = g.S.Source.left c.loop-found.source in
    let faults = g.S.Source.faults c.loop-found.source in
    let bad = subst (λ e. Parses c.loop-found.self c.parsed.new.self (Err e)) c.in-Err-Bad.field-0-is c.in-Err-Bad.ensures.event in
    parsed_bad old left faults c.loop-found.self c.parsed.new.self c.loop-found.invariant.runs c.loop-found.invariant.stays
    c.in-Err-Bad.offset c.in-Err-Bad.rule bad
