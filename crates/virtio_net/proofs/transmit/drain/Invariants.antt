use Rattle.std.proofs.Common.{◌≡◌, ◌-◌, take, length, map}
use Rattle.virtio_net.specs.Card.{bytes_of}
use Rattle.virtio_net.specs.Packets.{drained, onto_sent}
use Rattle.virtio_net.proofs.transmit.drain.Given as goal

-- the packets so far and those to come are those of the notify
abbrev pub invariant-loop : goal.invariant-loop
invariant-loop l = record {
  before : l.draft.before ≡ l.initial.draft.before;
  ahead : onto_sent (map bytes_of l.sent.items) (drained (l.most - l.counter) l.draft.bytes l.transport)
      ≡ onto_sent (map bytes_of l.initial.sent.items) (drained l.most l.initial.draft.bytes l.initial.transport);
  kept : take (length l.initial.sent.items) l.sent.items ≡ l.initial.sent.items;
}
