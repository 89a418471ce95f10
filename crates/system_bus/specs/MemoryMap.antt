-- Where the devices lie (this machine's own, after QEMU's virt), and which accesses they allow.
use Rattle.std.specs.Prelude.{ℕ, ◌+◌, ◌-◌, ◌==◌, Bool, ◌&&◌, nat_le, nat_lt, Option, Some, None, List, [], ◌∷◌, if◌then◌else◌}
use Rattle.system_bus.specs.declared.memory_map.Region.{Region}
use Rattle.system_bus.specs.declared.memory_map.Region.TheVariants.{Finisher, Rtc, Clint, Plic, Uart}
use Rattle.system_bus.specs.declared.memory_map.Register.{Register}

-- a region with the address of its first byte, and its size
pub record Range : Type 0 where
  pub start : ℕ
  pub size : ℕ
  pub region : Region

abbrev pub range : ℕ → ℕ → Region → Range
range start size region = record { start = start; size = size; region = region }

-- a region allows an access of so many bytes at an offset: the UART's registers are bytes [16550],
-- and those of each other device words
abbrev pub allows : Region → ℕ → ℕ → Bool
allows Finisher offset size = size == 4
allows Rtc offset size = size == 4
allows Clint offset size = size == 4
allows Plic offset size = size == 4
allows Uart offset size = size == 1

-- the regions of the devices
abbrev pub map : List Range
map =
    range 0x00100000 0x1000 Finisher
    ∷ range 0x00101000 0x1000 Rtc
    ∷ range 0x02000000 0x10000 Clint
    ∷ range 0x0c000000 0x400000 Plic
    ∷ range 0x10000000 0x100 Uart
    ∷ []

-- an address lies in a region
abbrev pub is_within : Range → ℕ → Bool
is_within r at = nat_le r.start at && nat_lt at (r.start + r.size)

-- what an access of so many bytes at an offset of a region reaches, where the region allows it
abbrev pub accessed : Region → ℕ → ℕ → Option Register
accessed region offset size =
    if allows region offset size
    then Some (record { region = region; offset = offset; size = size }) else None

-- the register at an address of the first region that it lies in
abbrev pub register_in : List Range → ℕ → ℕ → Option Register
register_in [] at size = None
register_in (r ∷ rs) at size =
    if is_within r at then accessed r.region (at - r.start) size else register_in rs at size

-- the register that an access of so many bytes at an address is to, where the map has one
unfoldable pub register_at : ℕ → ℕ → Option Register
register_at at size = register_in map at size
