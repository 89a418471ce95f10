use Rattle.std.proofs.Common.{◌≡◌, ◌+◌, ◌-◌, ◌∙◌, ap, sym, arith, drop, map, length, ◌≤◌}
use Rattle.virtio_net.specs.declared.packet.Packet.{Packet}
use Rattle.virtio_net.specs.Card.{bytes_of}
use Rattle.virtio_net.specs.Packets.{fill_of, refilled}
use Rattle.virtio_net.proofs.Backlogs.{rest_none, rest_some, at_some}
use Rattle.virtio_net.proofs.Refills.{refilled_dead, refilled_empty, refilled_more, refilled_none, refilled_stop}
use Rattle.virtio_net.proofs.receive.refill.Goals as goal

pub returns-in_default-clause-refilled : goal.returns-in_default-clause-refilled
returns-in_default-clause-refilled c =
    let items = c.args.backlog.now.items in
    let packets = map bytes_of (drop c.loop.gone items) in
    let none = ap (map bytes_of) (rest_none items c.loop.gone c.in_default.ensures) in
    sym (refilled_empty (c.args.most - c.loop.counter) c.loop.draft.bytes c.loop.transport packets none) ∙ c.loop.invariant.ahead

pub returns-then-not-live-clause-refilled : goal.returns-then-not-live-clause-refilled
returns-then-not-live-clause-refilled c =
    let packets = map bytes_of (drop c.loop.gone c.args.backlog.now.items) in
    sym (refilled_dead (c.args.most - c.loop.counter) c.loop.draft.bytes c.loop.transport packets (sym c.if-not-live.ensures)) ∙ c.loop.invariant.ahead

pub fill_next-requires-clause-length : goal.fill_next-requires-clause-length
fill_next-requires-clause-length c =
    let short = at_some (λ (p : Packet). length (bytes_of p) ≤ 1514) c.args.backlog.now.items c.loop.gone c.in-Some.packet.now c.in-Some.ensures c.requires in
    omega (arith, short.1, ap length c.as_slice.ensures.value)

pub returns-then-not-branch-clause-refilled : goal.returns-then-not-branch-clause-refilled
returns-then-not-branch-clause-refilled c =
    let items = c.args.backlog.now.items in
    let p = c.in-Some.packet.now in
    let packets = map bytes_of (drop c.loop.gone items) in
    let others = map bytes_of (drop (c.loop.gone + 1) items) in
    let are = ap (map bytes_of) (rest_some items c.loop.gone p c.in-Some.ensures) in
    let is = c.in_ok-fill_next.ensures.ok ∙ ap (fill_of c.loop.draft.bytes c.loop.transport) c.as_slice.ensures.value in
    sym (refilled_stop (c.args.most - c.loop.counter) c.loop.draft.bytes c.fill_next.new.draft.bytes c.loop.transport c.fill_next.new.transport packets (bytes_of p) others c.in_ok-fill_next.field-0 (omega arith) are (sym c.if-not-live.ensures) is c.if-not-branch.true)
    ∙ c.loop.invariant.ahead

pub loop-preserved : goal.loop-preserved
loop-preserved c =
    let items = c.args.backlog.now.items in
    let p = c.in-Some.packet.now in
    let packets = map bytes_of (drop c.loop.gone items) in
    let others = map bytes_of (drop (c.loop.gone + 1) items) in
    let are = ap (map bytes_of) (rest_some items c.loop.gone p c.in-Some.ensures) in
    let is = c.in_ok-fill_next.ensures.ok ∙ ap (fill_of c.loop.draft.bytes c.loop.transport) c.as_slice.ensures.value in
    let left : c.args.most - (c.loop.counter + 1) ≡ c.args.most - c.loop.counter - 1 = omega arith in
    let here = at_some (λ (p : Packet). length (bytes_of p) ≤ 1514) items c.loop.gone p c.in-Some.ensures c.requires in
    record {
      before = c.fill_next.ensures.before ∙ c.loop.invariant.before;
      ahead =
          ap (λ m. refilled m (record { ram = c.fill_next.new.draft.bytes; transport = c.fill_next.new.transport; packets = others })) left
          ∙ sym (refilled_more (c.args.most - c.loop.counter) c.loop.draft.bytes c.fill_next.new.draft.bytes c.loop.transport c.fill_next.new.transport packets (bytes_of p) others c.in_ok-fill_next.field-0 (omega arith) are (sym c.if-not-live.ensures) is c.if-not-branch.false)
          ∙ c.loop.invariant.ahead;
      few = omega (arith, c.loop.invariant.few);
      within = omega (arith, here.0);
    }

pub returns-clause-refilled : goal.returns-clause-refilled
returns-clause-refilled c =
    sym (refilled_none (c.args.most - c.loop.counter) _ (omega arith)) ∙ c.loop.invariant.ahead
