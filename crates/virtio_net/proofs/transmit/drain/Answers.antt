use Rattle.std.proofs.Common.{◌≡◌, ◌+◌, ◌-◌, ◌∙◌, ap, sym, arith, map, List, length, take, ◌≤◌}
use Rattle.std.proofs.lemmas.List.{length-take, take-take}
use Rattle.virtio_net.specs.Card.{bytes_of}
use Rattle.virtio_net.specs.Packets.{drained, onto_sent}
use Rattle.virtio_net.proofs.Sends.{drained_dead, drained_more, drained_none, drained_stop}
use Rattle.virtio_net.proofs.transmit.drain.Goals as goal

-- what stood at the front of the front still stands there
kept_on : {X : Type 0} (old xs ys : List X) → take (length old) xs ≡ old → take (length xs) ys ≡ xs → take (length old) ys ≡ old
kept_on old xs ys was is =
    let fits : length old ≤ length xs = omega (arith, ap length was, length-take (length old) xs) in
    sym (take-take (length old) (length xs) ys fits) ∙ ap (take (length old)) is ∙ was

pub returns-then-not-live-clause-ok : goal.returns-then-not-live-clause-ok
returns-then-not-live-clause-ok c =
    sym (drained_dead (c.args.most - c.loop.counter) c.loop.draft.bytes c.loop.transport (map bytes_of c.loop.sent.items) (sym c.if-not-live.ensures)) ∙ c.loop.invariant.ahead

pub returns-then-not-branch-clause-ok : goal.returns-then-not-branch-clause-ok
returns-then-not-branch-clause-ok c =
    sym (drained_stop (c.args.most - c.loop.counter) c.loop.draft.bytes c.send_next.new.draft.bytes c.loop.transport c.send_next.new.transport (map bytes_of c.loop.sent.items) (map bytes_of c.send_next.new.sent.items) c.in_ok-send_next.field-0 (omega arith) (sym c.if-not-live.ensures) c.in_ok-send_next.ensures.sent c.if-not-branch.true)
    ∙ c.loop.invariant.ahead

pub loop-preserved : goal.loop-preserved
loop-preserved c =
    let left : c.args.most - (c.loop.counter + 1) ≡ c.args.most - c.loop.counter - 1 = omega arith in
    record {
      before = c.send_next.ensures.before ∙ c.loop.invariant.before;
      ahead =
          ap (λ m. onto_sent (map bytes_of c.send_next.new.sent.items) (drained m c.send_next.new.draft.bytes c.send_next.new.transport)) left
          ∙ sym (drained_more (c.args.most - c.loop.counter) c.loop.draft.bytes c.send_next.new.draft.bytes c.loop.transport c.send_next.new.transport (map bytes_of c.loop.sent.items) (map bytes_of c.send_next.new.sent.items) c.in_ok-send_next.field-0 (omega arith) (sym c.if-not-live.ensures) c.in_ok-send_next.ensures.sent c.if-not-branch.false)
          ∙ c.loop.invariant.ahead;
      kept = kept_on c.args.sent.now.items c.loop.sent.items c.send_next.new.sent.items c.loop.invariant.kept c.in_ok-send_next.ensures.kept;
    }

pub returns-clause-ok : goal.returns-clause-ok
returns-clause-ok c =
    sym (drained_none (c.args.most - c.loop.counter) c.loop.draft.bytes c.loop.transport (map bytes_of c.loop.sent.items) (omega arith)) ∙ c.loop.invariant.ahead
