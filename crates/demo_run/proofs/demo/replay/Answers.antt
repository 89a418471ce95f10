use Rattle.std.proofs.Common.{◌∙◌, sym}
use Rattle.board.specs.Reset.{start_of}
use Rattle.rr_engine.specs.Replaying.{played}
use Rattle.demo_run.proofs.DemoRuns.{copy-starts, recorded-from, repeats, ends-whole, shown-again, counted-again}
use Rattle.demo_run.proofs.demo.replay.Goals as goal

pub open-requires-clause-header : goal.open-requires-clause-header
open-requires-clause-header g c =
    let recorded = c.args.recorded.now in
    copy-starts c.args.firmware.now recorded.log.items c.deref.result.now recorded.console.items
    c.requires.recorded c.deref.ensures.value

pub replay_one-end-requires-clause-firmware : goal.replay_one-end-requires-clause-firmware
replay_one-end-requires-clause-firmware g c =
    let recorded = c.args.recorded.now in
    (recorded-from c.args.firmware.now recorded.log.items c.deref.result.now recorded.console.items
    c.in_ok-header.header c.requires.recorded c.deref.ensures.value
    c.in_ok-header.ensures.header).0

pub unreachable-requires : goal.unreachable-requires
unreachable-requires g c =
    let h = c.in_ok-header.header in
    let recorded = c.args.recorded.now in
    let old = c.in_ok-header.log in
    let new = c.replay_one-end.new.log in
    let out = c.replay_one-end.new.out in
    ends-whole (start_of h c.args.firmware.now) h recorded.log.items recorded.console.items
    (played old c.new-out.result 0) (played new out 0) c.replay_one-end.result
    (repeats c.args.firmware.now h recorded.log.items c.deref.result.now recorded.console.items
    old new c.new-out.result out c.requires.recorded c.requires.short c.deref.ensures.value
    c.in_ok-header.ensures.header c.in_ok-header.ensures.behind
    (c.new-out.ensures ∙ c.new.ensures) c.into_inner.ensures.faults)
    c.replay_one-end.ensures.replays c.in_default.not-End c.in_default.not-NoMemory

pub returns-in_ok-console-in-End-clause-console : goal.returns-in_ok-console-in-End-clause-console
returns-in_ok-console-in-End-clause-console g c =
    let h = c.in_ok-header.header in
    let recorded = c.args.recorded.now in
    let old = c.in_ok-header.log in
    let new = c.replay_one-end.new.log in
    let out = c.replay_one-end.new.out in
    shown-again (start_of h c.args.firmware.now) h recorded.log.items recorded.console.items
    c.in_ok-console-in-End.console.items (played old c.new-out.result 0) (played new out 0)
    c.in-End.reason c.in-End.code c.in-End.accepted c.in-End.turns
    (repeats c.args.firmware.now h recorded.log.items c.deref.result.now recorded.console.items
    old new c.new-out.result out c.requires.recorded c.requires.short c.deref.ensures.value
    c.in_ok-header.ensures.header c.in_ok-header.ensures.behind
    (c.new-out.ensures ∙ c.new.ensures) c.into_inner.ensures.faults)
    c.in-End.ensures.replays (sym c.into_inner-in-End.ensures ∙ c.in_ok-console-in-End.ensures)

pub returns-in_ok-console-in-End-clause-turns : goal.returns-in_ok-console-in-End-clause-turns
returns-in_ok-console-in-End-clause-turns g c = λ events has.
    let h = c.in_ok-header.header in
    let recorded = c.args.recorded.now in
    let old = c.in_ok-header.log in
    let new = c.replay_one-end.new.log in
    let out = c.replay_one-end.new.out in
    counted-again c.args.firmware.now h recorded.log.items recorded.console.items
    (played old c.new-out.result 0) (played new out 0)
    c.in-End.reason c.in-End.code c.in-End.accepted c.in-End.turns events
    (repeats c.args.firmware.now h recorded.log.items c.deref.result.now recorded.console.items
    old new c.new-out.result out c.requires.recorded c.requires.short c.deref.ensures.value
    c.in_ok-header.ensures.header c.in_ok-header.ensures.behind
    (c.new-out.ensures ∙ c.new.ensures) c.into_inner.ensures.faults)
    c.in-End.ensures.replays has
