use Rattle.std.proofs.Common.{◌≡◌, ◌≤◌, ◌-◌, drop, length, map}
use Rattle.virtio_net.specs.Card.{bytes_of}
use Rattle.virtio_net.specs.Packets.{refilled}
use Rattle.virtio_net.proofs.receive.refill.Given as goal

-- what the packets that are left do from here is what all do
abbrev pub invariant-loop : goal.invariant-loop
invariant-loop l = record {
  before : l.draft.before ≡ l.initial.draft.before;
  ahead : refilled (l.most - l.counter) (record { ram = l.draft.bytes; transport = l.transport; packets = map bytes_of (drop l.gone l.backlog.items) })
      ≡ refilled l.most (record { ram = l.initial.draft.bytes; transport = l.initial.transport; packets = map bytes_of l.backlog.items });
  few : l.gone ≤ l.counter;
  within : l.gone ≤ length l.backlog.items;
}
