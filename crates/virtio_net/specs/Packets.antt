-- Packets in chains (virtio 1.2, 5.1.6), over one list of bytes.
use Rattle.std.specs.Prelude.{◌≡◌, ℕ, zero, suc, ◌+◌, List, [], ◌∷◌, ◌++◌, length, drop, Bool, true, false, ◌&&◌, nat_le, nat_lt, if◌then◌else◌, Option, Some, None, Result, Ok, Err}
use Rattle.vio_mmio.specs.declared.error.BadKind.{BadKind}
use Rattle.vio_mmio.specs.declared.chain.Chain.{Chain}
use Rattle.vio_mmio.specs.Descriptors.{Parts, next_of, taken}
use Rattle.vio_mmio.specs.GiveBack.{given_back}
use Rattle.vio_mmio.specs.Registers.{Registers, queue_of, with_queue, in_need, live_of}
use Rattle.vio_mmio.specs.Spread.{gathered, scattered, total_of}

-- the ranges of a chain
abbrev pub parts_of : Chain → Parts
parts_of chain = record { readable = chain.readable.items; writable = chain.writable.items }

-- whether a packet may have so many bytes
abbrev pub is_packet : ℕ → Bool
is_packet n = nat_le 14 n && nat_le n 1514

-- the header of a received packet: all 0 but num_buffers, which is 1
abbrev pub received_header : List ℕ
received_header = 0 ∷ 0 ∷ 0 ∷ 0 ∷ 0 ∷ 0 ∷ 0 ∷ 0 ∷ 0 ∷ 0 ∷ 1 ∷ 0 ∷ []

-- the memory and the registers after a receive chain is given a packet; a chain that is too short
-- is used with length 0
abbrev pub filled : List ℕ → Registers → ℕ → Parts → List ℕ → List ℕ × Registers
filled ram t head parts packet =
    if nat_lt (total_of parts.writable) (12 + length packet) then given_back ram t 0 head 0
    else
    given_back (scattered ram parts.writable (received_header ++ packet)) t 0 head
    (12 + length packet)

-- whether a chain was filled, and the memory and the registers then
pub record Filled : Type 0 where
  pub went : Bool
  pub ram : List ℕ
  pub transport : Registers

-- a packet for what the receive queue shows next
abbrev pub fill_by : List ℕ → Registers → List ℕ → Result (Option (ℕ × Parts)) BadKind → Filled
fill_by ram t packet (Ok None) = record { went = false; ram = ram; transport = t }
fill_by ram t packet (Ok (Some (head, parts))) =
    let back = filled ram (with_queue t 0 (taken (queue_of t 0))) head parts packet in
    record { went = true; ram = back.0; transport = back.1 }
fill_by ram t packet (Err bad) = record { went = false; ram = ram; transport = in_need t }

-- a packet for the next receive chain
unfoldable pub fill_of : List ℕ → Registers → List ℕ → Filled
fill_of ram t packet = fill_by ram t packet (next_of ram (queue_of t 0))

-- the packets that wait, with the memory and the registers
pub record Waiting : Type 0 where
  pub ram : List ℕ
  pub transport : Registers
  pub packets : List (List ℕ)

-- a chain was filled by the first packet, and the others follow; or none was
abbrev pub behind_fill : (Waiting → Waiting) → List ℕ → List (List ℕ) → Filled → Waiting
behind_fill rest first others f =
    if f.went then rest (record { ram = f.ram; transport = f.transport; packets = others })
    else record { ram = f.ram; transport = f.transport; packets = first ∷ others }

-- the first packet that waits for the next chain, if the queue is live
abbrev pub fill_first : (Waiting → Waiting) → Waiting → List (List ℕ) → Waiting
fill_first rest w [] = w
fill_first rest w (first ∷ others) =
    if live_of w.transport 0 then behind_fill rest first others (fill_of w.ram w.transport first)
    else w

-- the packets that wait fill at most so many chains, in order
unfoldable pub refilled : ℕ → Waiting → Waiting
refilled zero w = w
refilled (suc left) w = fill_first (λ v. refilled left v) w w.packets

-- the packet of a transmit chain: its bytes behind the header, where their number allows
abbrev pub packet_in : List ℕ → Parts → List (List ℕ)
packet_in ram parts =
    let bytes = drop 12 (gathered ram parts.readable) in
    if is_packet (length bytes) then bytes ∷ [] else []

-- the packets sent, with the memory and the registers, and whether another chain may follow
pub record Sent : Type 0 where
  pub went : Bool
  pub ram : List ℕ
  pub transport : Registers
  pub packets : List (List ℕ)

-- what the transmit queue shows next is sent
abbrev pub send_by : List ℕ → Registers → Result (Option (ℕ × Parts)) BadKind → Sent
send_by ram t (Ok None) = record { went = false; ram = ram; transport = t; packets = [] }
send_by ram t (Ok (Some (head, parts))) =
    let back = given_back ram (with_queue t 1 (taken (queue_of t 1))) 1 head 0 in
    record { went = true; ram = back.0; transport = back.1; packets = packet_in ram parts }
send_by ram t (Err bad) = record { went = false; ram = ram; transport = in_need t; packets = [] }

-- the next transmit chain is sent
unfoldable pub send_of : List ℕ → Registers → Sent
send_of ram t = send_by ram t (next_of ram (queue_of t 1))

-- what a send of the next chain leaves, and the packets sent
abbrev pub SendsNext :
    Bool → List ℕ → List ℕ → Registers → Registers → List (List ℕ) → List (List ℕ) → Type 0
SendsNext went before after old new sent all =
    let s = send_of before old in
    (went ≡ s.went) × (after ≡ s.ram) × (new ≡ s.transport) × (all ≡ sent ++ s.packets)

-- with these packets before
abbrev pub onto_sent : List (List ℕ) → Waiting → Waiting
onto_sent front w = record { ram = w.ram; transport = w.transport; packets = front ++ w.packets }

abbrev pub behind_send : (List ℕ → Registers → Waiting) → Sent → Waiting
behind_send rest s =
    if s.went then onto_sent s.packets (rest s.ram s.transport)
    else record { ram = s.ram; transport = s.transport; packets = s.packets }

-- at most so many transmit chains are sent, in order, as long as the queue is live
unfoldable pub drained : ℕ → List ℕ → Registers → Waiting
drained zero ram t = record { ram = ram; transport = t; packets = [] }
drained (suc left) ram t =
    if live_of t 1 then behind_send (λ m u. drained left m u) (send_of ram t)
    else record { ram = ram; transport = t; packets = [] }
