use Rattle.std.proofs.Common.{rules, arith, ◌∙◌}
use Rattle.board.proofs.Sprints.{counted_turns, counted_later, none_made, levels_uncounted, free_then}
use Rattle.board.proofs.machine.Machine.sprint.Goals as goal

pub returns-then-made-eq0-clause-turns : goal.returns-then-made-eq0-clause-turns
returns-then-made-eq0-clause-turns g c =
    let m = c.run_uncounted-made.ensures in
    let all = counted_turns c.args.self.now c.run_uncounted-made.new.self c.room-room.result c.run_uncounted-made.result c.room-room.ensures.room m in (
      search rules,
      none_made c.args.self.now c.run_uncounted-made.new.self c.room-room.result c.run_uncounted-made.result c.if-made-eq0.true m ∙ all.0,
      all.1,
      grind arith,
    )

pub returns-then-made-eq0-clause-free : goal.returns-then-made-eq0-clause-free
returns-then-made-eq0-clause-free g c h =
    let m = c.run_uncounted-made.ensures in
    let all = counted_turns c.args.self.now c.run_uncounted-made.new.self c.room-room.result c.run_uncounted-made.result c.room-room.ensures.room m in
    free_then c.args.self.now c.run_uncounted-made.new.self c.room-room.result c.run_uncounted-made.result (c.room-room.ensures.room (grind arith)) (grind arith)
    c.run_uncounted-made.new.self.hart c.run_uncounted-made.new.self.devices.ram all.2
    (none_made c.args.self.now c.run_uncounted-made.new.self c.room-room.result c.run_uncounted-made.result c.if-made-eq0.true m)

pub count_up-requires-clause-levels : goal.count_up-requires-clause-levels
count_up-requires-clause-levels g c =
    levels_uncounted c.args.self.now c.run_uncounted-made.new.self c.room-room.result c.run_uncounted-made.result c.requires c.run_uncounted-made.ensures

pub returns-clause-turns : goal.returns-clause-turns
returns-clause-turns g c =
    let m = c.run_uncounted-made.ensures in
    let all = counted_turns c.args.self.now c.run_uncounted-made.new.self c.room-room.result c.run_uncounted-made.result c.room-room.ensures.room m in (
      search rules,
      c.count_up.ensures ∙ counted_later c.args.self.now c.run_uncounted-made.new.self c.room-room.result c.run_uncounted-made.result m ∙ all.0,
      all.1,
      grind arith,
    )

pub returns-clause-free : goal.returns-clause-free
returns-clause-free g c h =
    let m = c.run_uncounted-made.ensures in
    let all = counted_turns c.args.self.now c.run_uncounted-made.new.self c.room-room.result c.run_uncounted-made.result c.room-room.ensures.room m in
    free_then c.args.self.now c.count_up.new.self c.room-room.result c.run_uncounted-made.result (c.room-room.ensures.room (grind arith)) (grind arith)
    c.run_uncounted-made.new.self.hart c.run_uncounted-made.new.self.devices.ram all.2
    (c.count_up.ensures ∙ counted_later c.args.self.now c.run_uncounted-made.new.self c.room-room.result c.run_uncounted-made.result m)
