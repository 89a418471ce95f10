use Rattle.std.proofs.Common.{◌≡◌, ◌+◌, ◌-◌, arith, refl}
use Rattle.plain_turns.proofs.InRow.{turns, no_turns}
use Rattle.plain_turns.proofs.turns.run.Goals as goal

pub loop-left-init : goal.loop-left-init
loop-left-init c =
    let none : c.args.most - c.args.most ≡ 0 = omega arith in
    rw none (record {
      bound = refl;
      within = omega arith;
      turns = no_turns c.args.hart.now c.args.memory.now;
      aligned = omega arith;
      csrs = refl;
      mode = refl;
    })

pub loop-left-preserved : goal.loop-left-preserved
loop-left-preserved c =
    let within = c.loop-left.invariant.within in
    let some = c.loop-left-test.true in
    let more : c.args.most - (c.loop-left.left - 1) ≡ (c.args.most - c.loop-left.left) + 1 = omega (arith, within, some) in
    rw more (grind (arith, turns))
