-- The network device (virtio 1.2, 5.1) as its driver and its wire see it.
use Rattle.std.specs.Prelude.{◌≡◌, ℕ, ◌^◌, ◌≤◌, List, [], ◌∷◌, ◌++◌, length, true, false, nat_lt, nat_eq, if◌then◌else◌, Result, Ok, Err}
use Rattle.vio_mmio.specs.Map.{read}
use Rattle.vio_mmio.specs.Registers.{Registers, queue_of, reset_of, live_of}
use Rattle.std.specs.List.{All}
use Rattle.virtio_net.specs.declared.net.NetError.{NetError}
use Rattle.virtio_net.specs.declared.net.NetError.TheVariants.{BadLength, NoMemory}
use Rattle.virtio_net.specs.declared.packet.Packet.{Packet}
use Rattle.virtio_net.specs.Packets.{Filled, Waiting, fill_of, is_packet, refilled, drained}

-- the registers, the packets that wait for a chain, and the packets sent that weren't taken
pub record Card : Type 0 where
  pub transport : Registers
  pub backlog : List (List ℕ)
  pub sent : List (List ℕ)

-- its bytes
abbrev pub bytes_of : Packet → List ℕ
bytes_of p = p.bytes.items

-- the value of a register; none stands from 0x100 on
abbrev pub net_register : Registers → ℕ → ℕ
net_register t off = if nat_lt off 0x100 then read t off else 0

-- what is true of every device: at most 16 packets wait, and each has a packet's length
pub record IsSound (backlog : List Packet) (capacity : ℕ) : Type 0 where
  pub room : capacity ≡ 16
  pub few : length backlog ≤ 16
  pub lengths : All (λ p. length p.bytes.items ≤ 1514) backlog

-- with one that has a packet's length each still has
abbrev pub Keeps : List ℕ → List Packet → List Packet → Type 0
Keeps packet old new =
    length packet ≤ 1514 → All (λ p. length p.bytes.items ≤ 1514) old
    → All (λ p. length p.bytes.items ≤ 1514) new

-- the device before any packet: its device ID is 1, it has two queues, and VERSION_1 (6) is offered
abbrev pub new_card : Card
new_card = record { transport = reset_of 1 2 (2 ^ 32); backlog = []; sent = [] }

-- the backlog with a packet more; it is dropped where 16 wait
abbrev pub joined : List (List ℕ) → List ℕ → List (List ℕ)
joined backlog packet = if nat_lt (length backlog) 16 then backlog ++ packet ∷ [] else backlog

-- what a device and its memory show
pub record Scene : Type 0 where
  pub card : Card
  pub ram : List ℕ

-- a packet that filled a chain, or joins the backlog
abbrev pub after_fill : Card → List ℕ → Filled → Scene
after_fill c packet f =
    record {
      card = record c {
        transport = f.transport;
        backlog = if f.went then c.backlog else joined c.backlog packet;
      };
      ram = f.ram;
    }

-- a packet arrives: it fills the next receive chain, also while others wait, or joins the backlog
abbrev pub received : Card → List ℕ → List ℕ → Scene
received c ram packet =
    if live_of c.transport 0 then after_fill c packet (fill_of ram c.transport packet)
    else record { card = record c { backlog = joined c.backlog packet }; ram = ram }

-- the backlog fills chains
abbrev pub after_refill : Card → Waiting → Scene
after_refill c w =
    record { card = record c { transport = w.transport; backlog = w.packets }; ram = w.ram }

-- transmit chains were sent
abbrev pub after_drain : Card → Waiting → Scene
after_drain c w =
    record { card = record c { transport = w.transport; sent = c.sent ++ w.packets }; ram = w.ram }

-- a queue is notified
abbrev pub notified : Card → List ℕ → ℕ → Scene
notified c ram q =
    if nat_eq q 0
    then after_refill c (refilled (queue_of c.transport 0).size
    (record { ram = ram; transport = c.transport; packets = c.backlog }))
    else (if nat_eq q 1 then after_drain c (drained (queue_of c.transport 1).size ram c.transport)
    else record { card = c; ram = ram })

-- what a packet leaves
abbrev pub Receives : Card → Card → List ℕ → List ℕ → List ℕ → Result (Unit {0}) NetError → Type 0
Receives old new before after packet (Ok done) =
    (is_packet (length packet) ≡ true)
    × (record { card = new; ram = after } ≡ received old before packet)
Receives old new before after packet (Err (BadLength n)) =
    (is_packet (length packet) ≡ false) × (n ≡ length packet) × (new ≡ old) × (after ≡ before)
Receives old new before after packet (Err NoMemory) =
    (is_packet (length packet) ≡ true) × (new ≡ old) × (after ≡ before)
