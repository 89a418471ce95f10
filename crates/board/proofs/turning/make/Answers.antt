use Rattle.std.proofs.Common.{◌∙◌, refl, arith}
use Rattle.board.specs.State.{State}
use Rattle.board.proofs.StepFacts.{stops, turns, turned-is}
use Rattle.board.proofs.turning.make.Goals as goal

pub returns-in-NeedClock-clause-step : goal.returns-in-NeedClock-clause-step
returns-in-NeedClock-clause-step c =
    let same = c.attempt-done.ensures.clock c.in-NeedClock.is in
    let g : State = record { hart = c.args.hart.now; devices = c.args.devices.now; control = c.args.control.now } in
    (stops g ((c.attempt-done.ensures.reached (λ e. grind arith)).0 ∙ c.in-NeedClock.is), rw same.0 (rw same.1 refl))

pub returns-in_default-clause-step : goal.returns-in_default-clause-step
returns-in_default-clause-step c =
    let g : State = record { hart = c.args.hart.now; devices = c.args.devices.now; control = c.args.control.now } in
    let r = c.attempt-done.ensures.reached c.in_default.not-NoMemory in
    let clear = c.requires.clear in (
      turns g c.attempt-done.result c.in_default.not-NeedClock r.0 clear,
      c.settle.ensures ∙ turned-is g c.attempt-done.result c.attempt-done.new.hart c.attempt-done.new.devices c.in_default.not-NeedClock c.in_default.not-NoMemory r,
    )
