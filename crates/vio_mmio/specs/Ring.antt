-- The rings of a split queue (virtio 1.2, 2.7.6 and 2.7.8), over one list of bytes. The available
-- ring has flags and an index of 2 bytes each, and 2 bytes for each head; the used ring has flags and
-- an index of 2 bytes each, and 8 bytes for each entry, a head and a length.
use Rattle.std.specs.Prelude.{◌≡◌, ℕ, ◌+◌, ◌*◌, ◌-◌, ◌%◌, ◌^◌, List, length, Bool, ◌&&◌, nat_le, nat_lt, nat_eq, not, bit_and, true, false, if◌then◌else◌, Option, Some, None, Result, Ok, Err}
use Rattle.ram_pages.specs.Memory.{number_at, ram_start, written}
use Rattle.byteorder.specs.Endian.{little_bytes}
use Rattle.vio_mmio.specs.declared.queue.Queue.{Queue}
use Rattle.vio_mmio.specs.declared.error.BadKind.{BadKind}
use Rattle.vio_mmio.specs.declared.error.BadKind.TheVariants.{Ring}
use Rattle.vio_mmio.specs.declared.error.QueueError.{QueueError}
use Rattle.vio_mmio.specs.declared.error.QueueError.TheVariants.{Bad, NoMemory}

-- whether a range of addresses lies in a memory
abbrev pub lies_in : List ℕ → ℕ → ℕ → Bool
lies_in bytes at len = nat_le ram_start at && nat_le (at + len) (ram_start + length bytes)

-- how many heads the driver has shown that weren't taken, modulo 2^16
abbrev pub lead : List ℕ → Queue → ℕ
lead bytes q = (number_at bytes (q.available + 2) 2 + 2 ^ 16 - q.seen) % 2 ^ 16

-- the head that comes next, if any, or that the ring is broken
unfoldable pub next_head_of : List ℕ → Queue → Result (Option ℕ) BadKind
next_head_of bytes q =
    if not (lies_in bytes q.available (4 + 2 * q.size)) then Err Ring
    else (if nat_lt q.size (lead bytes q) then Err Ring
    else (if nat_eq (lead bytes q) 0 then Ok None
    else Ok (Some (number_at bytes (q.available + 4 + 2 * (q.seen % q.size)) 2))))

-- the flag by which a driver asks for no interrupt (2.7.6)
abbrev pub no_interrupt : ℕ
no_interrupt = 0x1

-- whether the driver wants an interrupt for a used entry; it does where these flags don't lie in the
-- memory
abbrev pub is_wanted : List ℕ → Queue → Bool
is_wanted bytes q =
    if lies_in bytes q.available 2
    then nat_eq (bit_and (number_at bytes q.available 2) no_interrupt) 0
    else true

-- whether the used ring lies in the memory
abbrev pub has_used : List ℕ → Queue → Bool
has_used bytes q = lies_in bytes q.used (4 + 8 * q.size)

-- the memory with a used entry, and then the used index, written
abbrev pub with_entry : List ℕ → Queue → ℕ → ℕ → List ℕ
with_entry bytes q head len =
    let entry = q.used + 4 + 8 * (q.gone % q.size) in
    let named = written bytes entry (little_bytes 4 head) in
    let told = written named (entry + 4) (little_bytes 4 len) in
    written told (q.used + 2) (little_bytes 2 ((q.gone + 1) % 2 ^ 16))

-- what a push of a used entry leaves
abbrev pub IsPushed : List ℕ → List ℕ → Queue → ℕ → ℕ → Result (Unit {0}) QueueError → Type 0
IsPushed old new q head len (Ok done) = (has_used old q ≡ true) × (new ≡ with_entry old q head len)
IsPushed old new q head len (Err (Bad kind)) = (has_used old q ≡ false) × (kind ≡ Ring) × (new ≡ old)
IsPushed old new q head len (Err NoMemory) = has_used old q ≡ true
