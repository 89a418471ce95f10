use Rattle.std.proofs.Common.{subst, Ok}
use Rattle.event_log.specs.Reading.{Reader, reading, Waits}
use Rattle.event_log.proofs.Flow.{parsed_head, parsed_head_fault}
use Rattle.event_log.proofs.read_ahead.ReadAhead.header.Goals as goal

pub returns-in-Ok-clause-header : goal.returns-in-Ok-clause-header
returns-in-Ok-clause-header g c =
    let left = g.S.Source.left c.wait_for.new.source in
    let faults = g.S.Source.faults c.wait_for.new.source in
    let old : Reader = reading (g.S.Source.left c.args.source.now) (g.S.Source.faults c.args.source.now) c.args.self.now in
    let mid : Reader = reading left faults c.wait_for.new.self in
    let waits = subst (λ b. Waits old mid 98 (Ok b)) c.if-not-branch.false c.in_ok-wait_for.ensures.bytes in
    parsed_head old left faults c.wait_for.new.self c.parsed_header.new.self c.in-Ok.header c.requires waits.0 waits.1 c.in-Ok.ensures.header

pub returns-in-Err-clause-header : goal.returns-in-Err-clause-header
returns-in-Err-clause-header g c =
    let left = g.S.Source.left c.wait_for.new.source in
    let faults = g.S.Source.faults c.wait_for.new.source in
    let old : Reader = reading (g.S.Source.left c.args.source.now) (g.S.Source.faults c.args.source.now) c.args.self.now in
    let mid : Reader = reading left faults c.wait_for.new.self in
    let waits = subst (λ b. Waits old mid 98 (Ok b)) c.if-not-branch.false c.in_ok-wait_for.ensures.bytes in
    parsed_head_fault old left faults c.wait_for.new.self c.parsed_header.new.self c.in-Err.fault waits.0 waits.1 waits.2 c.in-Err.ensures.header
