use Rattle.std.proofs.Common.{rules, ◌≡◌, ◌<◌, length, refl, sym, ◌∙◌, subst, arith}
use Rattle.monitor.specs.Serving.{Serves, SessionLeaves, desk_of, written, heard, most}
use Rattle.monitor.proofs.Ending.{served-none, served-on, fresh-is, ends-at-close, ends-over, ends-in-bytes}
use Rattle.monitor.proofs.Images.{closed-leaves, halted-leaves}
use Rattle.monitor.proofs.sessions.session.Goals as goal

pub loop-keeping-init : goal.loop-keeping-init
loop-keeping-init g c = record {
  served = served-none c.args.timeline.now.script (desk_of c.args.timeline.now c.new-keeping.result)
      (heard (g.I.Source.left c.args.input.now) (g.I.Source.faults c.args.input.now))
      (written (g.S.Sink.taken c.args.out.now) (g.S.Sink.faults c.args.out.now))
      (fresh-is c.args.timeline.now.at _ _ c.new-keeping.result.quit c.requires c.new-keeping.ensures.breaks c.new-keeping.ensures.line c.new-keeping.ensures.quit);
  script = refl;
  image = refl;
  role = refl;
}

pub returns-then-is_empty-clause-serves : goal.returns-then-is_empty-clause-serves
returns-then-is_empty-clause-serves g c =
    let none : length c.in-Ok.piece ≡ 0 = search rules in
    subst (λ z. Serves c.args.timeline.now.script z
    (heard (g.I.Source.left c.args.input.now) (g.I.Source.faults c.args.input.now))
    (heard (g.I.Source.left c.read_piece.new.input) (g.I.Source.faults c.read_piece.new.input))
    (written (g.S.Sink.taken c.args.out.now) (g.S.Sink.faults c.args.out.now))
    (written (g.S.Sink.taken c.close.new.out) (g.S.Sink.faults c.close.new.out)))
    (sym c.closed.ensures)
    (ends-at-close c.args.timeline.now.script c.loop-keeping.timeline.script (desk_of c.loop-keeping.timeline c.loop-keeping.keeping) (desk_of c.close.new.timeline c.close.new.keeping)
    (desk_of c.close.new.timeline c.close.new.keeping) c.loop-keeping.count c.room_after.result c.in-Ok.piece c.close.result
    (heard (g.I.Source.left c.args.input.now) (g.I.Source.faults c.args.input.now))
    (heard (g.I.Source.left c.loop-keeping.input) (g.I.Source.faults c.loop-keeping.input))
    (heard (g.I.Source.left c.read_piece.new.input) (g.I.Source.faults c.read_piece.new.input))
    (written (g.S.Sink.taken c.args.out.now) (g.S.Sink.faults c.args.out.now))
    (written (g.S.Sink.taken c.loop-keeping.out) (g.S.Sink.faults c.loop-keeping.out))
    (written (g.S.Sink.taken c.close.new.out) (g.S.Sink.faults c.close.new.out))
    c.loop-keeping.invariant.served c.loop-keeping.invariant.script c.in-Ok.ensures none c.close.ensures.says)

pub returns-then-count-eq-MOST-clause-serves : goal.returns-then-count-eq-MOST-clause-serves
returns-then-count-eq-MOST-clause-serves g c =
    let some : 0 < length c.in-Ok.piece = search rules in
    ends-over c.args.timeline.now.script (desk_of c.loop-keeping.timeline c.loop-keeping.keeping) c.loop-keeping.count c.room_after.result c.in-Ok.piece
    (heard (g.I.Source.left c.args.input.now) (g.I.Source.faults c.args.input.now))
    (heard (g.I.Source.left c.loop-keeping.input) (g.I.Source.faults c.loop-keeping.input))
    (heard (g.I.Source.left c.read_piece.new.input) (g.I.Source.faults c.read_piece.new.input))
    (written (g.S.Sink.taken c.args.out.now) (g.S.Sink.faults c.args.out.now))
    (written (g.S.Sink.taken c.loop-keeping.out) (g.S.Sink.faults c.loop-keeping.out))
    c.loop-keeping.invariant.served c.loop-keeping-test.true c.in-Ok.ensures (omega (arith, c.if-count-eq-MOST.true))
    c.room_after.ensures.within some

pub returns-in-Err-clause-serves : goal.returns-in-Err-clause-serves
returns-in-Err-clause-serves g c =
    let less : c.loop-keeping.count < most = omega (arith, c.if-count-eq-MOST.false, c.loop-keeping.invariant.served.within) in
    subst (λ z. Serves c.args.timeline.now.script z
    (heard (g.I.Source.left c.args.input.now) (g.I.Source.faults c.args.input.now))
    (heard (g.I.Source.left c.read_piece.new.input) (g.I.Source.faults c.read_piece.new.input))
    (written (g.S.Sink.taken c.args.out.now) (g.S.Sink.faults c.args.out.now))
    (written (g.S.Sink.taken c.take_bytes.new.out) (g.S.Sink.faults c.take_bytes.new.out)))
    (sym c.halted.ensures)
    (ends-in-bytes c.args.timeline.now.script c.loop-keeping.timeline.script (desk_of c.loop-keeping.timeline c.loop-keeping.keeping) (desk_of c.take_bytes.new.timeline c.take_bytes.new.self)
    c.loop-keeping.count c.room_after.result c.in-Ok.piece c.as_slice-bytes.result.now c.in-Err.halt
    (heard (g.I.Source.left c.args.input.now) (g.I.Source.faults c.args.input.now))
    (heard (g.I.Source.left c.loop-keeping.input) (g.I.Source.faults c.loop-keeping.input))
    (heard (g.I.Source.left c.read_piece.new.input) (g.I.Source.faults c.read_piece.new.input))
    (written (g.S.Sink.taken c.args.out.now) (g.S.Sink.faults c.args.out.now))
    (written (g.S.Sink.taken c.loop-keeping.out) (g.S.Sink.faults c.loop-keeping.out))
    (written (g.S.Sink.taken c.take_bytes.new.out) (g.S.Sink.faults c.take_bytes.new.out))
    c.loop-keeping.invariant.served c.loop-keeping.invariant.script c.as_slice-bytes.ensures c.in-Ok.ensures
    (c.room_after.ensures.rest less) c.in-Err.ensures.says)

pub loop-keeping-preserved : goal.loop-keeping-preserved
loop-keeping-preserved g c =
    let less : c.loop-keeping.count < most = omega (arith, c.if-count-eq-MOST.false, c.loop-keeping.invariant.served.within) in
    record {
      served = served-on c.args.timeline.now.script c.loop-keeping.timeline.script (desk_of c.loop-keeping.timeline c.loop-keeping.keeping) (desk_of c.take_bytes.new.timeline c.take_bytes.new.self)
          c.loop-keeping.count c.room_after.result c.in-Ok.piece c.as_slice-bytes.result.now
          (heard (g.I.Source.left c.args.input.now) (g.I.Source.faults c.args.input.now))
          (heard (g.I.Source.left c.loop-keeping.input) (g.I.Source.faults c.loop-keeping.input))
          (heard (g.I.Source.left c.read_piece.new.input) (g.I.Source.faults c.read_piece.new.input))
          (written (g.S.Sink.taken c.args.out.now) (g.S.Sink.faults c.args.out.now))
          (written (g.S.Sink.taken c.loop-keeping.out) (g.S.Sink.faults c.loop-keeping.out))
          (written (g.S.Sink.taken c.take_bytes.new.out) (g.S.Sink.faults c.take_bytes.new.out))
          tt c.loop-keeping.invariant.served c.loop-keeping.invariant.script c.as_slice-bytes.ensures c.in-Ok.ensures
          (c.room_after.ensures.rest less) c.in_default.ensures.says;
      script = c.in_default.ensures.script ∙ c.loop-keeping.invariant.script;
      image = c.in_default.ensures.image ∙ c.loop-keeping.invariant.image;
      role = c.in_default.ensures.role ∙ c.loop-keeping.invariant.role;
    }

pub returns-then-is_empty-clause-image : goal.returns-then-is_empty-clause-image
returns-then-is_empty-clause-image g c =
    subst (λ z. SessionLeaves z c.args.timeline.now.image c.close.new.timeline.image) (sym c.closed.ensures)
    (closed-leaves c.close.result c.args.timeline.now.image c.loop-keeping.timeline.image c.close.new.timeline.image
    c.loop-keeping.invariant.image c.close.ensures.image)

pub returns-in-Err-clause-image : goal.returns-in-Err-clause-image
returns-in-Err-clause-image g c =
    subst (λ z. SessionLeaves z c.args.timeline.now.image c.take_bytes.new.timeline.image) (sym c.halted.ensures)
    (halted-leaves c.in-Err.halt c.args.timeline.now.image c.loop-keeping.timeline.image c.take_bytes.new.timeline.image
    c.loop-keeping.invariant.image c.in-Err.ensures.image)
