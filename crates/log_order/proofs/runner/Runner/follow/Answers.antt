use Rattle.std.proofs.Common.{rules, ◌≡◌, ◌^◌, ◌<◌, length, refl, arith}
use Rattle.std.specs.Prelude.{Err, IsSome}
use Rattle.log_order.proofs.Following.{followed-none, followed-more, judged-wrong, judged-more}
use Rattle.log_order.proofs.runner.Runner.follow.Goals as goal

pub events-init : goal.events-init
events-init g c = record {
  followed = followed-none c.args.bytes.now c.args.self.now c.requires.bytes c.requires.new;
  turns = refl;
}

pub returns-in_err-place-clause-judged : goal.returns-in_err-place-clause-judged
returns-in_err-place-clause-judged g c =
    let why : c.from_residual.result ≡ Err c.in_err-place.field-0.0 = search rules in
    rw why (judged-wrong c.args.bytes.now c.args.self.now.machine c.events.place c.events.self
    c.follow_one.new.self c.in_err-place.field-0.0 c.events.invariant.followed
    c.in_err-place.ensures.follows)

pub events-preserved : goal.events-preserved
events-preserved g c =
    let next = c.in_ok-place.place in
    let fits : next < 2 ^ 64 = omega (arith, c.in_ok-place.ensures.ahead) in
    record {
      followed = followed-more c.args.bytes.now c.args.self.now.machine c.events.place next
          c.events.self c.follow_one.new.self c.events.invariant.followed
          c.in_ok-place.ensures.follows c.in_ok-place.ensures.ahead.1 fits;
      turns = omega (arith, c.events.invariant.turns, c.in_ok-place.ensures.turns);
    }

pub returns-then-place-bytes-clause-judged : goal.returns-then-place-bytes-clause-judged
returns-then-place-bytes-clause-judged g c =
    let ended : IsSome c.events.self.machine.control.ended = search rules in
    let more : c.events.place < length c.args.bytes.now = omega arith in
    judged-more c.args.bytes.now c.args.self.now.machine c.events.place c.events.self
    c.refuse.new.self c.events.invariant.followed ended more c.refuse.ensures
