use Rattle.std.proofs.Common.{◌≡◌, ◌-◌}
use Rattle.vio_mmio.specs.Descriptors.{onto, walk, chain_of}
use Rattle.vio_mmio.proofs.chain.read_chain.Given as goal

-- the ranges so far, and then those that follow, are those of the head
abbrev pub invariant-loop : goal.invariant-loop
invariant-loop l = record {
  ahead : onto l.found.readable.items l.found.writable.items (walk l.draft.bytes l.queue (l.end - l.counter) l.number l.late) ≡ chain_of l.draft.bytes l.queue l.head;
  end : l.end ≡ l.queue.size;
  head : l.found.head ≡ l.head;
}
