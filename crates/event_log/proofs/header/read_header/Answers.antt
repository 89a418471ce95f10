use Rattle.std.proofs.Common.{arith, subst}
use Rattle.event_log.specs.Grammar.{Meets}
use Rattle.event_log.specs.HeaderFormat.{header}
use Rattle.event_log.proofs.Exact.{read_meets}
use Rattle.event_log.proofs.Widths.{cut_short, header_width}
use Rattle.event_log.proofs.HeaderLaws.{spells_header, header_drop}
use Rattle.event_log.proofs.header.read_header.Goals as goal

pub unreachable-requires : goal.unreachable-requires
unreachable-requires c =
    let is = rw c.in-Err-Cut.field-0-is at (rw c.in-Err-Cut.is at c.header_of.ensures) in
    let short = cut_short header 98 c.args.bytes.now header_width (subst (Meets header c.args.bytes.now) is (read_meets header c.args.bytes.now)) in
    omega (arith, short, c.if-bytes-lt-LENGTH.false)

pub returns-in-Ok : goal.returns-in-Ok
returns-in-Ok c =
    let is = rw c.in-Ok.is at c.header_of.ensures in
    let t = spells_header c.args.bytes.now c.in-Ok.header c.in-Ok.field-0-1.now (λ i. omega (arith, c.type_inv.bytes i))
    (subst (Meets header c.args.bytes.now) is (read_meets header c.args.bytes.now)) in
    (t.0, header_drop c.in-Ok.header c.args.bytes.now c.in-Ok.field-0-1.now t.0 t.1)

pub returns-in-Err-Bad : goal.returns-in-Err-Bad
returns-in-Err-Bad c =
    let is = rw c.in-Err-Bad.field-0-is at (rw c.in-Err-Bad.is at c.header_of.ensures) in
    (c.if-bytes-lt-LENGTH.false, subst (Meets header c.args.bytes.now) is (read_meets header c.args.bytes.now))
