use Rattle.std.proofs.Common.{rules, ◌≡◌, ◌∙◌, sym, arith}
use Rattle.clint_rtc.proofs.Stays.{due_stays, ahead_stays}
use Rattle.clint_rtc.proofs.clint.Clint.stays_for.Goals as goal

pub returns-then-mtip : goal.returns-then-mtip
returns-then-mtip c later w = due_stays c.args.self.now c.args.clock (sym c.mtip.ensures ∙ c.if-mtip.true) later

pub returns : goal.returns
returns c later w =
    ahead_stays c.args.self.now c.args.clock c.saturating_sub.result later (sym c.mtip.ensures ∙ c.if-mtip.false) w (search rules)
