-- The registers of the block device (virtio 1.2, 5.2.4).
use Rattle.std.specs.Prelude.{ℕ, ◌-◌, ◌*◌, ◌/◌, ◌%◌, ◌^◌, nat_lt, if◌then◌else◌}
use Rattle.vio_mmio.specs.Registers.{Registers}
use Rattle.vio_mmio.specs.Map.{read}

-- the number of some bytes of the capacity, a little-endian number of eight bytes
abbrev pub capacity_part : ℕ → ℕ → ℕ → ℕ
capacity_part sectors place size =
    if nat_lt place 8 then (sectors / 2 ^ (8 * place)) % 2 ^ (8 * size) else 0

-- the value of a register; the capacity stands from 0x100 on
abbrev pub block_register : Registers → ℕ → ℕ → ℕ → ℕ
block_register t sectors off size =
    if nat_lt off 0x100 then read t off else capacity_part sectors (off - 0x100) size
