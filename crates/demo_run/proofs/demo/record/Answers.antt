use Rattle.std.proofs.Common.{◌∙◌, ℕ, List, ap, sym, replicate}
use Rattle.std.specs.Prelude.{Some, option_map}
use Rattle.event_log.specs.HeaderFormat.{header_text}
use Rattle.board.specs.Reset.{start_of}
use Rattle.rr_engine.specs.Stand.{Devices}
use Rattle.demo_run.proofs.DemoRuns.{recorded}
use Rattle.demo_run.proofs.demo.record.Goals as goal

pub returns-clause-recording : goal.returns-clause-recording
returns-clause-recording g c =
    let parts = sym c.parts.view_is in
    recorded (start_of c.args.header.now c.args.firmware.now) (header_text c.args.header.now)
    c.in_ok-log.log.items c.in_ok-console.console.items _ c.record_one-end.new.parts
    c.parts.inside.clock c.in-End.reason c.in-End.code
    (c.new-6.ensures ∙ c.new-5.ensures)
    (c.new-4.ensures ∙ c.new-3.ensures)
    (ap (λ (xs : List ℕ). Some xs) (c.new-2.ensures ∙ c.new.ensures.items))
    (ap (option_map (λ n. replicate n 0)) c.new-7.ensures)
    (ap (λ (d : Devices). d.log) parts ∙ sym c.into_inner.ensures ∙ c.in_ok-log.ensures)
    (ap (λ (d : Devices). d.console) parts ∙ sym c.into_inner-2.ensures ∙ c.in_ok-console.ensures)
    (ap (λ (d : Devices). d.gave) parts)
    (sym c.is_counted.ensures ∙ c.if-not-is_counted.false)
    c.in-End.ensures
