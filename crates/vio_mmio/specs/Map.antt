-- The register map (virtio 1.2, table 4.1 of 4.2.2), and reading and writing by it.
use Rattle.std.specs.Prelude.{ℕ, ◌+◌, ◌*◌, ◌/◌, ◌%◌, ◌^◌, Bool, ◌&&◌, ◌||◌, ◌==◌, nat_lt, nat_eq, not, if◌then◌else◌, bit_and, bit_or, Option, Some, None, List, [], ◌∷◌}
use Rattle.vio_mmio.specs.declared.queue.Queue.{Queue}
use Rattle.vio_mmio.specs.declared.register.Register.{Register}
use Rattle.vio_mmio.specs.declared.register.Register.TheVariants.{MagicValue, Version, DeviceId, VendorId, DeviceFeatures, DeviceFeaturesSel, DriverFeatures, DriverFeaturesSel, QueueSel, QueueNumMax, QueueNum, QueueReady, QueueNotify, InterruptStatus, InterruptAck, Status, QueueDescLow, QueueDescHigh, QueueDriverLow, QueueDriverHigh, QueueDeviceLow, QueueDeviceHigh, ConfigGeneration}
use Rattle.vio_mmio.specs.declared.transport.Effect.{Effect}
use Rattle.vio_mmio.specs.declared.transport.Effect.TheVariants.{Nothing, Notify, Reset}
use Rattle.vio_mmio.specs.Registers.{Registers, all_but, device_needs_reset, features_ok, queue_of, reset_of, version_1, with_queue}

-- each offset with its register; the driver area is the available ring, the device area the used
abbrev pub map : List (ℕ × Register)
map =
    (0x000, MagicValue)
    ∷ (0x004, Version)
    ∷ (0x008, DeviceId)
    ∷ (0x00c, VendorId)
    ∷ (0x010, DeviceFeatures)
    ∷ (0x014, DeviceFeaturesSel)
    ∷ (0x020, DriverFeatures)
    ∷ (0x024, DriverFeaturesSel)
    ∷ (0x030, QueueSel)
    ∷ (0x034, QueueNumMax)
    ∷ (0x038, QueueNum)
    ∷ (0x044, QueueReady)
    ∷ (0x050, QueueNotify)
    ∷ (0x060, InterruptStatus)
    ∷ (0x064, InterruptAck)
    ∷ (0x070, Status)
    ∷ (0x080, QueueDescLow)
    ∷ (0x084, QueueDescHigh)
    ∷ (0x090, QueueDriverLow)
    ∷ (0x094, QueueDriverHigh)
    ∷ (0x0a0, QueueDeviceLow)
    ∷ (0x0a4, QueueDeviceHigh)
    ∷ (0x0fc, ConfigGeneration)
    ∷ []

-- the first register of a list at an offset
abbrev pub at_offset : List (ℕ × Register) → ℕ → Option Register
at_offset [] off = None
at_offset (row ∷ rows) off = if row.0 == off then Some row.1 else at_offset rows off

-- the register at an offset
abbrev pub register_at : ℕ → Option Register
register_at off = at_offset map off

-- the half of 64 bits that a selector shows, and 0 beyond them
abbrev pub part_of : ℕ → ℕ → ℕ
part_of x selector =
    if nat_eq selector 0 then x % 2 ^ 32 else (if nat_eq selector 1 then x / 2 ^ 32 else 0)

-- a number of 64 bits whose low half is written
abbrev pub low_written : ℕ → ℕ → ℕ
low_written x low = x / 2 ^ 32 * 2 ^ 32 + low

-- a number of 64 bits whose high half is written
abbrev pub high_written : ℕ → ℕ → ℕ
high_written x high = x % 2 ^ 32 + high * 2 ^ 32

-- whether the queue that QueueSel names exists
abbrev pub selects : Registers → Bool
selects t = nat_lt t.queue_sel t.queues

-- what a register shows; those that are written alone show 0
abbrev pub shown : Registers → Register → ℕ
shown t MagicValue = 0x74726976
shown t Version = 0x2
shown t DeviceId = t.device
shown t VendorId = 0x4d565252
shown t DeviceFeatures = part_of t.features t.device_features_sel
shown t DeviceFeaturesSel = 0
shown t DriverFeatures = 0
shown t DriverFeaturesSel = 0
shown t QueueSel = 0
shown t QueueNumMax = if selects t then 0x40 else 0
shown t QueueNum = 0
shown t QueueReady = if selects t && (queue_of t t.queue_sel).ready then 1 else 0
shown t QueueNotify = 0
shown t InterruptStatus = t.interrupt_status
shown t InterruptAck = 0
shown t Status = t.status
shown t QueueDescLow = 0
shown t QueueDescHigh = 0
shown t QueueDriverLow = 0
shown t QueueDriverHigh = 0
shown t QueueDeviceLow = 0
shown t QueueDeviceHigh = 0
shown t ConfigGeneration = 0

-- what a read gives: 0 where no register is
abbrev pub read_of : Registers → Option Register → ℕ
read_of t (Some register) = shown t register
read_of t None = 0

-- the word at an offset
abbrev pub read : Registers → ℕ → ℕ
read t off = read_of t (register_at off)

-- the sizes that a queue may be given: powers of 2 up to QueueNumMax
abbrev pub is_queue_num : ℕ → Bool
is_queue_num n =
    nat_eq n 0x1 || nat_eq n 0x2 || nat_eq n 0x4 || nat_eq n 0x8 || nat_eq n 0x10 || nat_eq n 0x20
    || nat_eq n 0x40

-- a queue after a word is put into one of its registers
abbrev pub queue_put : Queue → ℕ → Register → Queue
queue_put q value QueueNum = if is_queue_num value then record q { size = value } else q
queue_put q value QueueReady = record q { ready = value % 2 == 1 }
queue_put q value QueueDescLow = record q { descriptors = low_written q.descriptors value }
queue_put q value QueueDescHigh = record q { descriptors = high_written q.descriptors value }
queue_put q value QueueDriverLow = record q { available = low_written q.available value }
queue_put q value QueueDriverHigh = record q { available = high_written q.available value }
queue_put q value QueueDeviceLow = record q { used = low_written q.used value }
queue_put q value QueueDeviceHigh = record q { used = high_written q.used value }
queue_put q value other = q

-- with a word put into a register of the queue that QueueSel names, if it exists
abbrev pub put_selected : Registers → ℕ → Register → Registers
put_selected t value register =
    if selects t then with_queue t t.queue_sel (queue_put (queue_of t t.queue_sel) value register)
    else t

-- the features that a driver accepts may be so: all are offered, and VERSION_1 is among them
abbrev pub is_agreed : ℕ → ℕ → Bool
is_agreed offered driver =
    nat_eq (bit_and driver offered) driver && not (nat_eq (bit_and driver version_1) 0)

-- the status after a write that isn't 0: DEVICE_NEEDS_RESET stays, the other bits are taken, and
-- FEATURES_OK is left out where the features aren't agreed
abbrev pub kept_status : Registers → ℕ → ℕ
kept_status t value =
    let taken =
    bit_or (bit_and t.status device_needs_reset) (bit_and value (all_but device_needs_reset)) in
    if is_agreed t.features t.driver_features then taken else bit_and taken (all_but features_ok)

-- the driver's features after a half is written, which a selector names
abbrev pub features_written : ℕ → ℕ → ℕ → ℕ
features_written x selector value =
    if nat_eq selector 0 then low_written x value
    else (if nat_eq selector 1 then high_written x value else x)

-- the status after a write, of which 0 resets the device
abbrev pub status_written : Registers → ℕ → Registers
status_written t value =
    if nat_eq value 0 then reset_of t.device t.queues t.features
    else record t { status = kept_status t value }

-- the registers after a word is put into one; those that are read alone stay
abbrev pub put : Registers → ℕ → Register → Registers
put t value MagicValue = t
put t value Version = t
put t value DeviceId = t
put t value VendorId = t
put t value DeviceFeatures = t
put t value DeviceFeaturesSel = record t { device_features_sel = value }
put t value DriverFeatures = record t {
  driver_features = features_written t.driver_features t.driver_features_sel value;
}
put t value DriverFeaturesSel = record t { driver_features_sel = value }
put t value QueueSel = record t { queue_sel = value }
put t value QueueNumMax = t
put t value QueueNum = put_selected t value QueueNum
put t value QueueReady = put_selected t value QueueReady
put t value QueueNotify = t
put t value InterruptStatus = t
put t value InterruptAck = record t {
  interrupt_status = bit_and t.interrupt_status (all_but value);
}
put t value Status = status_written t value
put t value QueueDescLow = put_selected t value QueueDescLow
put t value QueueDescHigh = put_selected t value QueueDescHigh
put t value QueueDriverLow = put_selected t value QueueDriverLow
put t value QueueDriverHigh = put_selected t value QueueDriverHigh
put t value QueueDeviceLow = put_selected t value QueueDeviceLow
put t value QueueDeviceHigh = put_selected t value QueueDeviceHigh
put t value ConfigGeneration = t

-- the registers after a write, which does nothing where no register is
abbrev pub written_of : Registers → ℕ → Option Register → Registers
written_of t value (Some register) = put t value register
written_of t value None = t

-- the registers after a write at an offset
abbrev pub written : Registers → ℕ → ℕ → Registers
written t off value = written_of t value (register_at off)

-- what a word put into a register asks of the device
abbrev pub asks : ℕ → Option Register → Effect
asks value (Some QueueNotify) = Notify value
asks value (Some Status) = if nat_eq value 0 then Reset else Nothing
asks value other = Nothing

-- what a write at an offset asks of the device
abbrev pub effect_of : ℕ → ℕ → Effect
effect_of off value = asks value (register_at off)
