use Rattle.std.proofs.Common.{rules, ◌≡◌}
use Rattle.log_order.proofs.Feeding.{going, fed-ok, fed-wrong, fed-halts, fed-counts}
use Rattle.log_order.proofs.runner.Runner.feed_with.Goals.{in-CharRead-3, in-Net-3, in-Instruction-3}
use Rattle.log_order.proofs.runner.Runner.feed_with.Goals as goal

pub returns-in-Ok-clause-fed : goal.returns-in-Ok-clause-fed
returns-in-Ok-clause-fed c =
    let runner = c.self.inside in
    fed-ok c.args.self.now c.count_event.new.self c.args.e c.args.offset runner.index runner.machine
    c.accept.new.self c.requires.no_turn (search rules) c.in-Ok.ensures (search rules)

pub returns-in-Ok-clause-turns : goal.returns-in-Ok-clause-turns
returns-in-Ok-clause-turns c =
    let runner = c.self.inside in
    fed-counts c.args.self.now c.count_event.new.self c.args.e runner.index runner.machine
    c.accept.new.self c.requires.no_turn (search rules) c.in-Ok.ensures (search rules)

pub returns-in-Err-Wrong-clause-fed : goal.returns-in-Err-Wrong-clause-fed
returns-in-Err-Wrong-clause-fed c =
    let runner = c.self.inside in
    let answers = rw c.in-Err-Wrong.field-0-is at c.in-Err-Wrong.ensures in
    fed-wrong c.args.self.now c.keep.new.self c.args.e c.args.offset runner.index
    c.untaken-shown.result runner.machine c.accept.new.self c.in-Err-Wrong.due
    c.found-found.result c.requires.no_turn (search rules) answers (search rules)
    c.untaken-shown.ensures (search rules)

pub returns-in-Err-NoMemory-clause-fed : goal.returns-in-Err-NoMemory-clause-fed
returns-in-Err-NoMemory-clause-fed c =
    let runner = c.self.inside in
    let answers = rw c.in-Err-NoMemory.field-0-is at c.in-Err-NoMemory.ensures in
    let joined : c.match-e-3.self ≡ going c.accept.new.self runner.index =
    elim c.match-e-3.branch [
      | in-CharRead-3 w ↦ search rules
      | in-Net-3 w ↦ search rules
      | in-Instruction-3 w ↦ search rules
    ] in
    fed-halts c.args.self.now c.match-e-3.self c.args.e c.args.offset runner.index runner.machine
    c.accept.new.self c.requires.no_turn (search rules) answers joined
