use Rattle.std.proofs.Common.{map, string_bytes}
use Rattle.command_line.specs.Line.{seen_line, quiet_in}
use Rattle.rrvm.proofs.Checking.{accepts-told, rejects-told}
use Rattle.rrvm.proofs.Debugging.{holds-accepted, holds-refused}
use Rattle.rrvm.proofs.Statuses.{quiet-told, unfaulted-told}
use Rattle.rrvm.proofs.Telling.{told-explained, told-shows, told-openings}
use Rattle.rrvm.proofs.top.rrvm_quiet.Goals as goal

pub returns-clause-explained : goal.returns-clause-explained
returns-clause-explained g c =
    told-explained (map string_bytes c.args.words.now) (seen_line c.read_quiet-line.result)
    (quiet_in c.args.words.now)
    (g.W.World.ledger c.args.world.now) (g.W.World.ledger c.answer-outcome.new.world)
    (g.W.World.ledger c.tell-told.new.world)
    c.answer-outcome.result c.tell-told.result c.status.result
    c.read_quiet-line.ensures.value c.answer-outcome.ensures.rest c.tell-told.ensures.rest
    c.tell-told.ensures.which c.answer-outcome.ensures.cause c.answer-outcome.ensures.kept
    c.tell-told.ensures.front
    c.tell-told.ensures.whole
    c.status.ensures

pub returns-clause-shown : goal.returns-clause-shown
returns-clause-shown g c =
    told-shows (seen_line c.read_quiet-line.result) (quiet_in c.args.words.now)
    (g.W.World.ledger c.args.world.now) (g.W.World.ledger c.answer-outcome.new.world)
    (g.W.World.ledger c.tell-told.new.world)
    c.read_quiet-line.ensures.value c.tell-told.ensures.rest
    c.answer-outcome.ensures.shown

pub returns-clause-passed : goal.returns-clause-passed
returns-clause-passed g c =
    quiet-told (map string_bytes c.args.words.now) (returns-clause-explained g c)

pub returns-clause-openings : goal.returns-clause-openings
returns-clause-openings g c =
    told-openings (seen_line c.read_quiet-line.result) (quiet_in c.args.words.now)
    (g.W.World.ledger c.args.world.now) (g.W.World.ledger c.answer-outcome.new.world)
    (g.W.World.ledger c.tell-told.new.world)
    c.read_quiet-line.ensures.value c.answer-outcome.ensures.openings c.tell-told.ensures.openings

pub returns-clause-unfaulted : goal.returns-clause-unfaulted
returns-clause-unfaulted g c = unfaulted-told (returns-clause-explained g c)

pub returns-clause-checks : goal.returns-clause-checks
returns-clause-checks g c = accepts-told (returns-clause-explained g c)

pub returns-clause-checks_wrong : goal.returns-clause-checks_wrong
returns-clause-checks_wrong g c = rejects-told (returns-clause-explained g c)

pub returns-clause-debugs : goal.returns-clause-debugs
returns-clause-debugs g c = holds-accepted (returns-clause-explained g c)

pub returns-clause-debugs_wrong : goal.returns-clause-debugs_wrong
returns-clause-debugs_wrong g c = holds-refused (returns-clause-explained g c)
