-- Chains of descriptors (virtio 1.2, 2.7.5), over one list of bytes.
use Rattle.std.specs.Prelude.{◌≡◌, ℕ, zero, suc, ◌+◌, ◌*◌, List, [], ◌∷◌, ◌++◌, Bool, false, ◌&&◌, ◌||◌, nat_lt, not, if◌then◌else◌, bit_or, ◌%◌, ◌^◌, Option, Some, None, Result, Ok, Err}
use Rattle.ram_pages.specs.Memory.{number_at}
use Rattle.vio_mmio.specs.declared.queue.Queue.{Queue}
use Rattle.vio_mmio.specs.declared.error.BadKind.{BadKind}
use Rattle.vio_mmio.specs.declared.error.BadKind.TheVariants.{Index, Loop, Indirect, Order, Range, Ring}
use Rattle.vio_mmio.specs.declared.error.QueueError.{QueueError}
use Rattle.vio_mmio.specs.declared.error.QueueError.TheVariants.{Bad, NoMemory}
use Rattle.vio_mmio.specs.declared.chain.Segment.{Segment}
use Rattle.vio_mmio.specs.declared.chain.Descriptor.{Descriptor}
use Rattle.vio_mmio.specs.declared.chain.Chain.{Chain}
use Rattle.vio_mmio.specs.Ring.{lies_in, next_head_of, is_wanted}
use Rattle.vio_mmio.specs.Registers.{Registers, has, queue_of, used_buffer, with_queue}

-- the flags of a descriptor (2.7.5)
abbrev pub flag_next : ℕ
flag_next = 0x1

abbrev pub flag_write : ℕ
flag_write = 0x2

abbrev pub flag_indirect : ℕ
flag_indirect = 0x4

-- another descriptor follows
abbrev pub goes_on : Descriptor → Bool
goes_on d = has d.flags flag_next

-- the device writes its range
abbrev pub is_writable : Descriptor → Bool
is_writable d = has d.flags flag_write

-- it names a table of its own
abbrev pub is_indirect : Descriptor → Bool
is_indirect d = has d.flags flag_indirect

-- its range
abbrev pub segment_of : Descriptor → Segment
segment_of d = record { at = d.at; len = d.len }

-- the entry of a number in the table
abbrev pub descriptor_at : List ℕ → Queue → ℕ → Descriptor
descriptor_at bytes q number =
    let place = q.descriptors + 16 * number in
    record {
      at = number_at bytes place 8;
      len = number_at bytes (place + 8) 4;
      flags = number_at bytes (place + 12) 2;
      next = number_at bytes (place + 14) 2;
    }

-- the descriptor of a number, or the first rule that it breaks; one before it is writable where
-- late
unfoldable pub checked : List ℕ → Queue → ℕ → Bool → Result Descriptor BadKind
checked bytes q number late =
    let d = descriptor_at bytes q number in
    if not (nat_lt number q.size) then Err Index
    else (if not (lies_in bytes (q.descriptors + 16 * number) 16) then Err Ring
    else (if is_indirect d then Err Indirect
    else (if late && not (is_writable d) then Err Order
    else (if not (lies_in bytes d.at d.len) then Err Range
    else Ok d))))

-- the ranges of a chain
pub record Parts : Type 0 where
  pub readable : List Segment
  pub writable : List Segment

-- the range of a descriptor, if it is of this kind
abbrev pub readable_of : Descriptor → List Segment
readable_of d = if is_writable d then [] else segment_of d ∷ []

abbrev pub writable_of : Descriptor → List Segment
writable_of d = if is_writable d then segment_of d ∷ [] else []

-- with these ranges before those that are found
abbrev pub onto : List Segment → List Segment → Result Parts BadKind → Result Parts BadKind
onto readable writable (Ok rest) =
    Ok (record { readable = readable ++ rest.readable; writable = writable ++ rest.writable })
onto readable writable (Err kind) = Err kind

-- what follows from a descriptor on, where rest says what follows behind it
abbrev pub behind :
    Bool → (ℕ → Bool → Result Parts BadKind) → Result Descriptor BadKind → Result Parts BadKind
behind late rest (Err kind) = Err kind
behind late rest (Ok d) =
    onto (readable_of d) (writable_of d)
    (if goes_on d then rest d.next (late || is_writable d)
    else Ok (record { readable = []; writable = [] }))

-- what follows from a number on, where at most so many descriptors may come
unfoldable pub walk : List ℕ → Queue → ℕ → ℕ → Bool → Result Parts BadKind
walk bytes q zero number late = if nat_lt number q.size then Err Loop else Err Index
walk bytes q (suc left) number late =
    behind late (λ next writable. walk bytes q left next writable) (checked bytes q number late)

-- the chain of a head, or the first rule that it breaks
abbrev pub chain_of : List ℕ → Queue → ℕ → Result Parts BadKind
chain_of bytes q head = walk bytes q q.size head false

-- what is found is this, unless memory ran out
abbrev pub GivesChain : Result Chain QueueError → Result Parts BadKind → Type 0
GivesChain (Ok chain) found =
    found ≡ Ok (record { readable = chain.readable.items; writable = chain.writable.items })
GivesChain (Err (Bad kind)) found = found ≡ Err kind
GivesChain (Err NoMemory) found = Unit {0}

-- a head with its chain
abbrev pub with_head : ℕ → Result Parts BadKind → Result (Option (ℕ × Parts)) BadKind
with_head head (Ok parts) = Ok (Some (head, parts))
with_head head (Err kind) = Err kind

-- the head that the ring shows, with its chain
abbrev pub behind_head :
    List ℕ → Queue → Result (Option ℕ) BadKind → Result (Option (ℕ × Parts)) BadKind
behind_head bytes q (Ok None) = Ok None
behind_head bytes q (Ok (Some head)) = with_head head (chain_of bytes q head)
behind_head bytes q (Err kind) = Err kind

-- the next chain that the driver shows, if any, or the first rule that breaks
abbrev pub next_of : List ℕ → Queue → Result (Option (ℕ × Parts)) BadKind
next_of bytes q = behind_head bytes q (next_head_of bytes q)

-- what is found is this, unless memory ran out
abbrev pub GivesNext :
    Result (Option Chain) QueueError → Result (Option (ℕ × Parts)) BadKind → Type 0
GivesNext (Ok None) found = found ≡ Ok None
GivesNext (Ok (Some chain)) found =
    found ≡ Ok (Some (
      chain.head,
      record { readable = chain.readable.items; writable = chain.writable.items },
    ))
GivesNext (Err (Bad kind)) found = found ≡ Err kind
GivesNext (Err NoMemory) found = Unit {0}

-- a queue whose next head was taken
abbrev pub taken : Queue → Queue
taken q = record q { seen = (q.seen + 1) % 2 ^ 16 }

-- where a chain was found its head is taken, and else nothing changes
abbrev pub TakesNext : Registers → Registers → ℕ → Result (Option Chain) QueueError → Type 0
TakesNext old new q (Ok (Some chain)) = new ≡ with_queue old q (taken (queue_of old q))
TakesNext old new q (Ok None) = new ≡ old
TakesNext old new q (Err e) = new ≡ old

-- the registers after a used entry, where the driver wants an interrupt or doesn't
abbrev pub pushed : Registers → ℕ → Bool → Registers
pushed t q wanted =
    let queue = queue_of t q in
    let after = with_queue t q (record queue { gone = (queue.gone + 1) % 2 ^ 16 }) in
    if wanted then record after { interrupt_status = bit_or t.interrupt_status used_buffer } else after

-- what a push of a used entry leaves of the registers
abbrev pub Pushes : Registers → Registers → List ℕ → ℕ → Result (Unit {0}) QueueError → Type 0
Pushes old new bytes q (Ok done) = new ≡ pushed old q (is_wanted bytes (queue_of old q))
Pushes old new bytes q (Err e) = new ≡ old
