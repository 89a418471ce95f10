use Rattle.std.proofs.Common.{rules, ◌≡◌, refl}
use Rattle.std.specs.Prelude.{None}
use Rattle.event_log.specs.declared.event.Event.TheVariants as event
use Rattle.board.specs.Runs.{step}
use Rattle.log_order.proofs.Feeding.{going, fewer-ran, more-due, turns-ok, turns-wrong, turns-counts}
use Rattle.log_order.proofs.runner.Runner.feed_turns.Goals.{else-ran-count-via-then-ran-count+else-not-is_run, else-ran-count-via-else-ran-count}
use Rattle.log_order.proofs.runner.Runner.feed_turns.Goals as goal

pub returns-in_default-clause-turns : goal.returns-in_default-clause-turns
returns-in_default-clause-turns g c =
    let runner = c.self.inside in
    turns-counts c.args.self.now (going c.run.new.self runner.index) c.args.count runner.index
    c.args.steps.now c.run.new.steps runner.machine c.run.new.self c.run.result
    (search rules) c.run.ensures refl

pub returns-then-not-is_run-clause-fed : goal.returns-then-not-is_run-clause-fed
returns-then-not-is_run-clause-fed g c =
    let runner = c.self.inside in
    turns-ok c.args.self.now c.count_event.new.self c.args.count c.in-Ok.ran c.args.offset
    runner.index runner.machine c.run.new.self (search rules) c.in-Ok.ensures.0
    c.in-Ok.ensures.1 c.if-ran-count.true (search rules) (search rules)

pub returns-then-not-is_run-clause-turns : goal.returns-then-not-is_run-clause-turns
returns-then-not-is_run-clause-turns g c =
    let runner = c.self.inside in
    turns-counts c.args.self.now c.count_event.new.self c.args.count runner.index c.args.steps.now
    c.run.new.steps runner.machine c.run.new.self c.run.result (search rules) c.run.ensures
    (search rules)

pub returns-clause-fed : goal.returns-clause-fed
returns-clause-fed g c =
    let runner = c.self.inside in
    let stopped : step runner.machine (event.Instruction c.args.count) ≡ None =
    elim c.else-ran-count.branch [
      | else-ran-count-via-then-ran-count+else-not-is_run w ↦
          more-due c.args.count runner.machine c.run.new.self c.in-Ok.ensures.0 (search rules)
      | else-ran-count-via-else-ran-count w ↦
          fewer-ran c.args.count c.in-Ok.ran runner.machine c.in-Ok.ensures.1
          w.if-ran-count.false
    ] in
    let joined : c.else-ran-count.self ≡ going c.run.new.self runner.index =
    elim c.else-ran-count.branch [
      | else-ran-count-via-then-ran-count+else-not-is_run w ↦ search rules
      | else-ran-count-via-else-ran-count w ↦ search rules
    ] in
    turns-wrong c.args.self.now c.keep.new.self c.args.count c.args.offset runner.index
    c.untaken-shown.result runner.machine c.run.new.self c.due-due.result c.found-found.result
    (search rules) stopped c.in-Ok.ensures.0 c.due-due.ensures.due (search rules) (search rules)
    (rw joined at c.keep.ensures)

pub returns-clause-turns : goal.returns-clause-turns
returns-clause-turns g c =
    let runner = c.self.inside in
    let joined : c.else-ran-count.self.machine ≡ c.run.new.self =
    elim c.else-ran-count.branch [
      | else-ran-count-via-then-ran-count+else-not-is_run w ↦ search rules
      | else-ran-count-via-else-ran-count w ↦ search rules
    ] in
    turns-counts c.args.self.now c.keep.new.self c.args.count runner.index c.args.steps.now
    c.run.new.steps runner.machine c.run.new.self c.run.result (search rules) c.run.ensures
    (rw c.keep.ensures joined)
