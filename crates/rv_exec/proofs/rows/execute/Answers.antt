use Rattle.rv_exec.proofs.Clock.{answer-clock}
use Rattle.rv_exec.proofs.Unchanged.{unchanged}
use Rattle.rv_exec.proofs.rows.execute.Goals as goal

pub returns-clause-unchanged : goal.returns-clause-unchanged
returns-clause-unchanged g c =
    unchanged g.B.Bus.answers c.args.h.now c.args.bus.now c.args.ins c.args.word
    c.perform.result c.perform.new.h c.perform.new.bus
    c.perform.ensures.meaning c.perform.ensures.memory

pub returns-clause-clock : goal.returns-clause-clock
returns-clause-clock g c =
    answer-clock g.B.Bus.answers c.args.h.now c.args.bus.now c.args.ins c.args.word
    c.perform.result c.perform.new.h c.perform.new.bus
    c.perform.ensures.meaning c.perform.ensures.memory
