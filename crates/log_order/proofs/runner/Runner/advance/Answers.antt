use Rattle.std.proofs.Common.{rules, refl}
use Rattle.log_order.proofs.Feeding.{going, turns-counts}
use Rattle.log_order.proofs.Advancing.{advances-some}
use Rattle.log_order.proofs.runner.Runner.advance.Goals as goal

pub returns-in_err-count-clause-turns : goal.returns-in_err-count-clause-turns
returns-in_err-count-clause-turns g c =
    let runner = c.self.inside in
    turns-counts c.args.self.now (going c.run.new.self runner.index) 4294967295 runner.index
    c.args.steps.now c.run.new.steps runner.machine c.run.new.self c.run.result
    (search rules) c.run.ensures refl

pub returns-clause-ran : goal.returns-clause-ran
returns-clause-ran g c =
    let runner = c.self.inside in
    advances-some c.args.self.now c.count_event.new.self c.in_ok-count.count runner.index
    runner.machine c.run.new.self c.due.ensures.counts (search rules) (search rules)
    c.in_ok-count.ensures.0 c.in_ok-count.ensures.1 (search rules)

pub returns-clause-turns : goal.returns-clause-turns
returns-clause-turns g c =
    let runner = c.self.inside in
    turns-counts c.args.self.now c.count_event.new.self 4294967295 runner.index c.args.steps.now
    c.run.new.steps runner.machine c.run.new.self c.run.result (search rules) c.run.ensures
    (search rules)
