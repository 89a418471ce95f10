use Rattle.rrvm.proofs.top.answer.Goals as goal

-- the words ask for a recording
pub returns-in-Record-clause-untouched : goal.returns-in-Record-clause-untouched
returns-in-Record-clause-untouched g c = rw c.in-Record.is c.run.ensures.untouched
