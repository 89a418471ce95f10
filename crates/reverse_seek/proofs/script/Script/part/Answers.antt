use Rattle.std.proofs.Common.{rules, ◌<◌, ◌^◌, ap, ◌∙◌, arith}
use Rattle.std.specs.Prelude.{IsSome}
use Rattle.board.specs.State.{State}
use Rattle.reverse_seek.proofs.Parting.{parted-more, wrong-part, whole-part, part-beyond}
use Rattle.reverse_seek.proofs.Lying.{all-passed, all-more}
use Rattle.reverse_seek.proofs.script.Script.part.Goals as goal

pub returns-in-Err-Refused-clause-is : goal.returns-in-Err-Refused-clause-is
returns-in-Err-Refused-clause-is g c =
    wrong-part c.args.log.now c.args.machine c.events.end c.events.last c.events.runner c.follow_one.new.self
    c.in-Err-Refused.field-0 c.into_refusal-refusal.result c.events.invariant.parted c.in-Err-Refused.ensures.follows
    c.in-Err-Refused.field-0-is c.into_refusal-refusal.ensures

pub events-preserved : goal.events-preserved
events-preserved g c =
    let next = c.in-Ok.next in
    let fits : next < 2 ^ 64 = omega (arith, c.in-Ok.ensures.ahead) in
    record {
      parted = parted-more c.args.log.now c.args.machine c.events.end next c.events.last c.count-last-in-events.result
          c.events.runner c.follow_one.new.self c.events.invariant.parted c.in-Ok.ensures.follows
          c.in-Ok.ensures.ahead.1 fits
          (c.count-last-in-events.ensures.count ∙ ap (λ (z : State). z.devices.time.count) c.machine-in-events.ensures)
          c.count-last-in-events.ensures.few;
      lying = all-more c.args.log.now c.args.machine c.events.end next c.events.runner c.follow_one.new.self _ c.in-Ok.ensures.follows
          (all-passed c.args.log.now c.args.machine _ c.events.end c.events.last c.events.runner _ _ c.events.invariant.parted c.machine.ensures c.events.invariant.lying c.in_ok-pass.ensures);
    }

pub returns-then-end-log-clause-is : goal.returns-then-end-log-clause-is
returns-then-end-log-clause-is g c =
    let ended : IsSome c.events.runner.machine.control.ended = search rules in
    part-beyond c.args.log.now c.args.machine c.events.end c.events.last c.events.runner c.refuse.new.self
    c.into_refusal-refusal-then-end-log.result c.events.invariant.parted ended (omega arith) c.refuse.ensures
    c.into_refusal-refusal-then-end-log.ensures

pub returns-clause-is : goal.returns-clause-is
returns-clause-is g c =
    let ended : IsSome c.events.runner.machine.control.ended = search rules in
    whole-part c.args.log.now c.args.machine c.events.end c.events.last c.events.runner
    c.into_refusal-refusal-2.result c.events.invariant.parted ended (omega arith) c.into_refusal-refusal-2.ensures

pub returns-in-Err-Refused-clause-ways : goal.returns-in-Err-Refused-clause-ways
returns-in-Err-Refused-clause-ways g c =
    all-passed c.args.log.now c.args.machine _ c.events.end c.events.last c.events.runner _ _ c.events.invariant.parted
    c.machine.ensures c.events.invariant.lying c.in_ok-pass.ensures
