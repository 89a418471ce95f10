use Rattle.std.proofs.Common.{refl, sym}
use Rattle.rr_engine.specs.Stand.{stand}
use Rattle.rr_engine.proofs.Owing.{owes_exception, owes_interrupt}
use Rattle.rr_engine.proofs.Rounding.{inner-round}
use Rattle.rr_engine.proofs.recorder.Recorder.round.Goals as goal

pub enter-requires-clause-owed : goal.enter-requires-clause-owed
enter-requires-clause-owed g c = owes_exception c.args.self.now.machine (sym c.in-Exception.ensures.due)

pub returns-in-Exception : goal.returns-in-Exception
returns-in-Exception g c =
    inner-round (stand g.I.Inputs.feed c.args.self.now c.args.parts.now)
    (stand g.I.Inputs.feed c.enter.new.self c.enter.new.parts) _ _ tt refl tt
    c.in-Exception.ensures.counts c.requires c.enter.ensures

pub enter-requires-in-Interrupt-clause-owed : goal.enter-requires-in-Interrupt-clause-owed
enter-requires-in-Interrupt-clause-owed g c = owes_interrupt c.args.self.now.machine (sym c.in-Interrupt.ensures.due)

pub returns-in-Interrupt : goal.returns-in-Interrupt
returns-in-Interrupt g c =
    inner-round (stand g.I.Inputs.feed c.args.self.now c.args.parts.now)
    (stand g.I.Inputs.feed c.enter-in-Interrupt.new.self c.enter-in-Interrupt.new.parts) _ _ tt refl tt
    c.in-Interrupt.ensures.counts c.requires c.enter-in-Interrupt.ensures
