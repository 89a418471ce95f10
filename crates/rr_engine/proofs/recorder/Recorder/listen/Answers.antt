use Rattle.rr_engine.specs.declared.inputs.Trouble.TheVariants as trouble_is
use Rattle.rr_engine.specs.Stand.{stand}
use Rattle.rr_engine.proofs.Taking.{window-breaks, window-fills, window-no-memory, window-stops, trouble-is}
use Rattle.rr_engine.proofs.recorder.Recorder.listen.Goals as goal

pub returns-in-Err : goal.returns-in-Err
returns-in-Err g c =
    window-breaks g.I.Inputs.feed c.args.self.now c.args.parts.now c.receive-items.new.self
    c.receive-items.new.inputs c.receive-items.ensures.rest c.receive-items.result.items.items
    c.receive-items.result.trouble c.receive-items.ensures.receives
    (stand g.I.Inputs.feed c.take_in.new.self c.take_in.new.parts) c.in-Err.broke c.in-Err.ensures.some
    c.in-Err.ensures.goes

pub returns-in-None : goal.returns-in-None
returns-in-None g c =
    window-fills g.I.Inputs.feed c.args.self.now c.args.parts.now c.receive-items.new.self
    c.receive-items.new.inputs c.receive-items.ensures.rest c.receive-items.result.items.items
    c.receive-items.result.trouble c.receive-items.ensures.receives
    (stand g.I.Inputs.feed c.take_in.new.self c.take_in.new.parts) c.args.idle c.in-None.is c.requires.idle
    c.receive-items.ensures.quiet c.receive-items.ensures.sound c.in-Ok.ensures.goes c.in-Ok.ensures.took

pub returns-in-Some-ConsoleRead : goal.returns-in-Some-ConsoleRead
returns-in-Some-ConsoleRead g c =
    window-stops g.I.Inputs.feed c.args.self.now c.args.parts.now c.receive-items.new.self
    c.receive-items.new.inputs c.receive-items.ensures.rest c.receive-items.result.items.items
    c.receive-items.result.trouble c.receive-items.ensures.receives
    (stand g.I.Inputs.feed c.take_in.new.self c.take_in.new.parts)
    (stand g.I.Inputs.feed c.stop.new.self c.stop.new.parts) c.or_memory.result c.stop.result
    (trouble-is c.receive-items.result.trouble c.in-Some-ConsoleRead.field-0 trouble_is.ConsoleRead
    c.in-Some-ConsoleRead.is (rw c.in-Some-ConsoleRead.is at c.in-Some-ConsoleRead.field-0-is))
    c.in-Ok.ensures.goes c.in-Ok.ensures.took c.or_memory.ensures c.stop.ensures

pub returns-in-Some-NoMemory : goal.returns-in-Some-NoMemory
returns-in-Some-NoMemory g c =
    window-no-memory g.I.Inputs.feed c.args.self.now c.args.parts.now c.receive-items.new.self
    c.receive-items.new.inputs c.receive-items.ensures.rest c.receive-items.result.items.items
    c.receive-items.result.trouble c.receive-items.ensures.receives
    (stand g.I.Inputs.feed c.take_in.new.self c.take_in.new.parts) c.in-Ok.ensures.goes
