-- The registers of a device over memory-mapped registers, and its queues (virtio 1.2, 4.2.2).
use Rattle.std.specs.Prelude.{ℕ, ◌^◌, Bool, false, ◌&&◌, nat_lt, nat_eq, not, if◌then◌else◌, bit_and, bit_or, bit_xor}
use Rattle.vio_mmio.specs.declared.queue.Queue.{Queue}

-- what the registers hold, and the queues 0 and 1; device is the DeviceID, and features are offered
pub record Registers : Type 0 where
  pub device : ℕ
  pub queues : ℕ
  pub features : ℕ
  pub device_features_sel : ℕ
  pub driver_features : ℕ
  pub driver_features_sel : ℕ
  pub queue_sel : ℕ
  pub interrupt_status : ℕ
  pub status : ℕ
  pub first : Queue
  pub second : Queue

-- the bits of the device status (2.1) that play a part
abbrev pub driver_ok : ℕ
driver_ok = 0x04

abbrev pub features_ok : ℕ
features_ok = 0x08

abbrev pub device_needs_reset : ℕ
device_needs_reset = 0x40

-- the feature VERSION_1 (6), which every driver has to accept
abbrev pub version_1 : ℕ
version_1 = 2 ^ 32

-- the bits of InterruptStatus (4.2.2): a buffer was used, or the configuration changed
abbrev pub used_buffer : ℕ
used_buffer = 0x1

abbrev pub configuration_change : ℕ
configuration_change = 0x2

-- all bits of a register but these
abbrev pub all_but : ℕ → ℕ
all_but bits = bit_xor bits 0xffffffff

-- some bits of a mask are set
abbrev pub has : ℕ → ℕ → Bool
has word mask = not (nat_eq (bit_and word mask) 0)

-- a queue before its driver says anything
abbrev pub fresh_queue : Queue
fresh_queue = record {
  size = 0;
  ready = false;
  descriptors = 0;
  available = 0;
  used = 0;
  seen = 0;
  gone = 0;
}

-- the registers after a reset
abbrev pub reset_of : ℕ → ℕ → ℕ → Registers
reset_of device queues features = record {
  device = device;
  queues = queues;
  features = features;
  device_features_sel = 0;
  driver_features = 0;
  driver_features_sel = 0;
  queue_sel = 0;
  interrupt_status = 0;
  status = 0;
  first = fresh_queue;
  second = fresh_queue;
}

-- the queue of a number
abbrev pub queue_of : Registers → ℕ → Queue
queue_of t q = if nat_eq q 0 then t.first else t.second

-- with the queue of a number replaced
abbrev pub with_queue : Registers → ℕ → Queue → Registers
with_queue t q queue =
    if nat_eq q 0 then record t { first = queue } else record t { second = queue }

-- a queue is live: it exists, its driver made it ready and gave it a size, and the device runs
abbrev pub live_of : Registers → ℕ → Bool
live_of t q =
    nat_lt q t.queues && (queue_of t q).ready && not (nat_eq (queue_of t q).size 0)
    && has t.status driver_ok && not (has t.status device_needs_reset)

-- the device asks for a reset (2.1.2)
abbrev pub in_need : Registers → Registers
in_need t = record t {
  status = bit_or t.status device_needs_reset;
  interrupt_status = bit_or t.interrupt_status configuration_change;
}

-- the device asks for an interrupt
abbrev pub has_interrupt : Registers → Bool
has_interrupt t = not (nat_eq t.interrupt_status 0)
