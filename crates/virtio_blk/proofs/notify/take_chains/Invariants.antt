use Rattle.std.proofs.Common.{◌≡◌, ◌-◌, ◌+◌, ◌≤◌, length, take, map, true}
use Rattle.std.specs.List.{All}
use Rattle.vio_mmio.specs.Registers.{live_of}
use Rattle.virtio_blk.specs.Notify.{flight_of, notified, onto_flights}
use Rattle.virtio_blk.specs.Requests.{KindFits}
use Rattle.virtio_blk.proofs.notify.take_chains.Given as goal

-- the requests so far and those to come are those of the notify
abbrev pub invariant-loop : goal.invariant-loop
invariant-loop l = record {
  ahead : onto_flights (map flight_of l.parsed.items) (notified l.draft.bytes l.sectors (l.most - l.counter) l.id l.transport)
      ≡ onto_flights (map flight_of l.initial.parsed.items) (notified l.draft.bytes l.sectors l.most l.next l.initial.transport);
  id : l.id ≡ l.next + l.counter;
  live : live_of l.transport 0 ≡ true;
  fit : All (λ p. KindFits p.kind l.sectors) l.parsed.items;
  count : length l.parsed.items ≤ length l.initial.parsed.items + l.counter;
  kept : take (length l.initial.parsed.items) l.parsed.items ≡ l.initial.parsed.items;
}
