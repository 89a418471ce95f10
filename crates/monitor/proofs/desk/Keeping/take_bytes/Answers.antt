use Rattle.std.proofs.Common.{rules, ◌≡◌, refl, ◌∙◌}
use Rattle.std.specs.Prelude.{Err}
use Rattle.monitor.specs.Serving.{desk_of, written}
use Rattle.monitor.proofs.Fed.{went-none, quit-at, halts-at, went-at}
use Rattle.monitor.proofs.Images.{text-leaves}
use Rattle.monitor.proofs.desk.Keeping.take_bytes.Goals as goal

pub loop-byte-init : goal.loop-byte-init
loop-byte-init g c = record {
  went = went-none c.args.timeline.now.script (desk_of c.args.timeline.now c.args.self.now)
      (written (g.S.Sink.taken c.args.out.now) (g.S.Sink.faults c.args.out.now));
  script = refl;
  image = refl;
  role = refl;
}

pub returns-then-self-clause-says : goal.returns-then-self-clause-says
returns-then-self-clause-says g c =
    quit-at c.args.timeline.now.script (desk_of c.args.timeline.now c.args.self.now) (desk_of c.loop-byte.timeline c.loop-byte.self)
    c.args.bytes.now c.loop-byte.byte-index
    (written (g.S.Sink.taken c.args.out.now) (g.S.Sink.faults c.args.out.now))
    (written (g.S.Sink.taken c.loop-byte.out) (g.S.Sink.faults c.loop-byte.out)) tt
    c.loop-byte.invariant.went c.if-self.true

pub returns-in_err-take_byte-clause-says : goal.returns-in_err-take_byte-clause-says
returns-in_err-take_byte-clause-says g c =
    let why : c.from_residual.result ≡ Err c.in_err-take_byte.field-0.0 = search rules in
    rw why (halts-at c.args.timeline.now.script c.loop-byte.timeline.script (desk_of c.args.timeline.now c.args.self.now)
    (desk_of c.loop-byte.timeline c.loop-byte.self) (desk_of c.take_byte.new.timeline c.take_byte.new.self)
    (desk_of c.take_byte.new.timeline c.take_byte.new.self) c.args.bytes.now c.loop-byte.byte-index c.in_err-take_byte.field-0.0
    (written (g.S.Sink.taken c.args.out.now) (g.S.Sink.faults c.args.out.now))
    (written (g.S.Sink.taken c.loop-byte.out) (g.S.Sink.faults c.loop-byte.out))
    (written (g.S.Sink.taken c.take_byte.new.out) (g.S.Sink.faults c.take_byte.new.out))
    c.loop-byte-test.true c.loop-byte.invariant.script c.loop-byte.invariant.went c.if-self.false
    c.in_err-take_byte.ensures.says)

pub loop-byte-preserved : goal.loop-byte-preserved
loop-byte-preserved g c = record {
  went = went-at c.args.timeline.now.script c.loop-byte.timeline.script (desk_of c.args.timeline.now c.args.self.now)
      (desk_of c.loop-byte.timeline c.loop-byte.self) (desk_of c.take_byte.new.timeline c.take_byte.new.self)
      c.args.bytes.now c.loop-byte.byte-index
      (written (g.S.Sink.taken c.args.out.now) (g.S.Sink.faults c.args.out.now))
      (written (g.S.Sink.taken c.loop-byte.out) (g.S.Sink.faults c.loop-byte.out))
      (written (g.S.Sink.taken c.take_byte.new.out) (g.S.Sink.faults c.take_byte.new.out)) tt
      c.loop-byte-test.true c.loop-byte.invariant.script c.loop-byte.invariant.went c.if-self.false
      c.in_ok-take_byte.ensures.says;
  script = c.in_ok-take_byte.ensures.script ∙ c.loop-byte.invariant.script;
  image = c.in_ok-take_byte.ensures.image ∙ c.loop-byte.invariant.image;
  role = c.in_ok-take_byte.ensures.role ∙ c.loop-byte.invariant.role;
}

pub returns-in_err-take_byte-clause-image : goal.returns-in_err-take_byte-clause-image
returns-in_err-take_byte-clause-image g c =
    let why : c.from_residual.result ≡ Err c.in_err-take_byte.field-0.0 = search rules in
    rw why (text-leaves (Err c.in_err-take_byte.field-0.0) c.args.timeline.now.image c.loop-byte.timeline.image c.take_byte.new.timeline.image
    c.loop-byte.invariant.image c.in_err-take_byte.ensures.image)
