use Rattle.std.proofs.Common.{refl, sym, ap, ◌∙◌}
use Rattle.event_log.specs.HeaderFormat.{header_text}
use Rattle.io_workers.specs.Intake.{intake}
use Rattle.rr_engine.specs.Feed.{source_feed}
use Rattle.rr_engine.specs.Stand.{Stand, stand}
use Rattle.rr_engine.proofs.Wholes.{no-header, run-broken, rest-broken, run-whole, fresh, starts, unread-sound, sent-rests}
use Rattle.rr_engine.proofs.recording.Recorder+Pieces.record.Goals as goal

pub returns-in-Err : goal.returns-in-Err
returns-in-Err g c =
    no-header (stand source_feed c.args.self.now c.args.parts.now)
    (stand source_feed c.begin.new.self c.begin.new.parts)
    (intake c.args.parts.now.input c.args.parts.now.input_faults c.args.self.now.inputs)
    (intake c.begin.new.parts.input c.begin.new.parts.input_faults c.begin.new.self.inputs)
    (header_text c.args.header.now) c.in-Err.broke refl refl c.in-Err.ensures.sent

pub returns-in-Err-run : goal.returns-in-Err-run
returns-in-Err-run g c =
    let p = stand source_feed c.args.self.now c.args.parts.now in
    let i = intake c.args.parts.now.input c.args.parts.now.input_faults c.args.self.now.inputs in
    run-broken p
    (stand source_feed c.begin.new.self c.begin.new.parts)
    (stand source_feed c.run.new.self c.run.new.parts) i
    (intake c.run.new.parts.input c.run.new.parts.input_faults c.run.new.self.inputs)
    (header_text c.args.header.now) c.in-Err-run.broke
    (fresh p i refl c.requires.unread) refl c.in-Ok.ensures.sent c.in-Ok.ensures.held c.in-Err-run.ensures.goes

pub returns-in-Err-finish : goal.returns-in-Err-finish
returns-in-Err-finish g c =
    let p = stand source_feed c.args.self.now c.args.parts.now in
    let i = intake c.args.parts.now.input c.args.parts.now.input_faults c.args.self.now.inputs in
    rest-broken p
    (stand source_feed c.begin.new.self c.begin.new.parts)
    (stand source_feed c.run.new.self c.run.new.parts)
    (stand source_feed c.finish.new.self c.finish.new.parts) i
    (intake c.finish.new.parts.input c.finish.new.parts.input_faults c.finish.new.self.inputs)
    (header_text c.args.header.now) c.in-Err-finish.broke
    (fresh p i refl c.requires.unread) refl c.in-Ok.ensures.sent c.in-Ok.ensures.held c.in-Ok-run.ensures.goes c.in-Err-finish.ensures

pub returns : goal.returns
returns g c =
    let p = stand source_feed c.args.self.now c.args.parts.now in
    let i = intake c.args.parts.now.input c.args.parts.now.input_faults c.args.self.now.inputs in
    run-whole p
    (stand source_feed c.begin.new.self c.begin.new.parts)
    (stand source_feed c.run.new.self c.run.new.parts)
    (stand source_feed c.finish.new.self c.finish.new.parts) i
    (intake c.finish.new.parts.input c.finish.new.parts.input_faults c.finish.new.self.inputs)
    (header_text c.args.header.now) c.in-Some.ending
    (fresh p i refl c.requires.unread) refl c.in-Ok.ensures.sent c.in-Ok.ensures.held c.in-Ok-run.ensures.goes c.in-Ok-finish.ensures
    (sym c.in-Some.ensures) c.in-Ok-run.ensures.rests

pub run-requires : goal.run-requires
run-requires g c =
    let p = stand source_feed c.args.self.now c.args.parts.now in
    let q = stand source_feed c.begin.new.self c.begin.new.parts in
    let i = intake c.args.parts.now.input c.args.parts.now.input_faults c.args.self.now.inputs in
    let sent = c.in-Ok.ensures.sent in
    record {
      works = sent.3;
      going = ap (λ (z : Stand). z.machine.control.ended) sent.1 ∙ c.requires.going;
      rests = sent-rests p q (header_text c.args.header.now) sent
          (starts p c.requires.going c.requires.shut (unread-sound i c.requires.unread));
    }
