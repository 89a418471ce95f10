use Rattle.std.proofs.Common.{map, string_bytes, subst}
use Rattle.command_line.specs.Line.{seen_line, line_in}
use Rattle.command_line.specs.Words.{IsLineInRange}
use Rattle.rrvm.proofs.Completing.{replays-told, refuses-told, long-told}
use Rattle.rrvm.proofs.ReplayedAlike.{replayable-told}
use Rattle.rrvm.proofs.Checking.{accepts-told, rejects-told}
use Rattle.rrvm.proofs.Debugging.{holds-accepted, holds-refused}
use Rattle.rrvm.proofs.Statuses.{bad-firmware-told, guest-ended-told, passed-told, unfaulted-told}
use Rattle.rrvm.proofs.Telling.{told-explained, told-log, told-shows, told-openings, told-untouched}
use Rattle.rrvm.proofs.top.rrvm_main.Goals as goal

pub returns-clause-explained : goal.returns-clause-explained
returns-clause-explained g c =
    told-explained (map string_bytes c.args.words.now) (seen_line c.read_line-line.result)
    (line_in c.args.words.now)
    (g.W.World.ledger c.args.world.now) (g.W.World.ledger c.answer-outcome.new.world)
    (g.W.World.ledger c.tell-told.new.world)
    c.answer-outcome.result c.tell-told.result c.status.result
    c.read_line-line.ensures.value c.answer-outcome.ensures.rest c.tell-told.ensures.rest
    c.tell-told.ensures.which c.answer-outcome.ensures.cause c.answer-outcome.ensures.kept
    c.tell-told.ensures.front
    c.tell-told.ensures.whole
    c.status.ensures

pub returns-clause-log : goal.returns-clause-log
returns-clause-log g c =
    told-log (seen_line c.read_line-line.result) (line_in c.args.words.now)
    (g.W.World.ledger c.args.world.now) (g.W.World.ledger c.answer-outcome.new.world)
    (g.W.World.ledger c.tell-told.new.world)
    c.read_line-line.ensures.value c.tell-told.ensures.rest c.answer-outcome.ensures.log

pub returns-clause-shown : goal.returns-clause-shown
returns-clause-shown g c =
    told-shows (seen_line c.read_line-line.result) (line_in c.args.words.now)
    (g.W.World.ledger c.args.world.now) (g.W.World.ledger c.answer-outcome.new.world)
    (g.W.World.ledger c.tell-told.new.world)
    c.read_line-line.ensures.value c.tell-told.ensures.rest c.answer-outcome.ensures.shown

pub returns-clause-replays : goal.returns-clause-replays
returns-clause-replays g c = replays-told (returns-clause-explained g c)

pub returns-clause-refuses : goal.returns-clause-refuses
returns-clause-refuses g c = refuses-told (returns-clause-explained g c)

pub returns-clause-too_long : goal.returns-clause-too_long
returns-clause-too_long g c = long-told (returns-clause-explained g c)

pub returns-clause-bad_firmware : goal.returns-clause-bad_firmware
returns-clause-bad_firmware g c = bad-firmware-told (returns-clause-explained g c)

pub returns-clause-guest : goal.returns-clause-guest
returns-clause-guest g c = guest-ended-told (returns-clause-explained g c)

pub returns-clause-passed : goal.returns-clause-passed
returns-clause-passed g c = passed-told (returns-clause-explained g c)

pub returns-clause-unfaulted : goal.returns-clause-unfaulted
returns-clause-unfaulted g c = unfaulted-told (returns-clause-explained g c)

pub returns-clause-openings : goal.returns-clause-openings
returns-clause-openings g c =
    told-openings (seen_line c.read_line-line.result) (line_in c.args.words.now)
    (g.W.World.ledger c.args.world.now) (g.W.World.ledger c.answer-outcome.new.world)
    (g.W.World.ledger c.tell-told.new.world)
    c.read_line-line.ensures.value c.answer-outcome.ensures.openings c.tell-told.ensures.openings

pub returns-clause-untouched : goal.returns-clause-untouched
returns-clause-untouched g c =
    told-untouched (seen_line c.read_line-line.result) (line_in c.args.words.now)
    (g.W.World.ledger c.args.world.now) (g.W.World.ledger c.answer-outcome.new.world)
    (g.W.World.ledger c.tell-told.new.world)
    c.read_line-line.ensures.value c.tell-told.ensures.rest c.answer-outcome.ensures.untouched

pub returns-clause-replayable : goal.returns-clause-replayable
returns-clause-replayable g c = replayable-told (returns-clause-explained g c)
    (subst IsLineInRange c.read_line-line.ensures.value c.read_line-line.ensures.range)

pub returns-clause-checks : goal.returns-clause-checks
returns-clause-checks g c = accepts-told (returns-clause-explained g c)

pub returns-clause-checks_wrong : goal.returns-clause-checks_wrong
returns-clause-checks_wrong g c = rejects-told (returns-clause-explained g c)

pub returns-clause-debugs : goal.returns-clause-debugs
returns-clause-debugs g c = holds-accepted (returns-clause-explained g c)

pub returns-clause-debugs_wrong : goal.returns-clause-debugs_wrong
returns-clause-debugs_wrong g c = holds-refused (returns-clause-explained g c)
