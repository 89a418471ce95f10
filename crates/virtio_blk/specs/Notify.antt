-- Requests that a driver shows, over one list of bytes.
use Rattle.std.specs.Prelude.{ℕ, zero, suc, ◌+◌, List, [], ◌∷◌, ◌++◌, Option, Some, None, Result, Ok, Err, if◌then◌else◌}
use Rattle.vio_mmio.specs.declared.error.BadKind.{BadKind}
use Rattle.vio_mmio.specs.Registers.{Registers, queue_of, with_queue, in_need, live_of}
use Rattle.vio_mmio.specs.Descriptors.{Parts, next_of, taken}
use Rattle.virtio_blk.specs.declared.parse.Kind.{Kind}
use Rattle.virtio_blk.specs.declared.notify.Parsed.{Parsed}
use Rattle.virtio_blk.specs.Requests.{asked}

-- what a chain asks: the request's kind, the chain's head and its ranges
pub record Ask : Type 0 where
  pub kind : Kind
  pub head : ℕ
  pub parts : Parts

-- a request in flight
pub record Flight : Type 0 where
  pub id : ℕ
  pub ask : Ask

abbrev pub ask_of : Parsed → Ask
ask_of p = record {
  kind = p.kind;
  head = p.chain.head;
  parts = record { readable = p.chain.readable.items; writable = p.chain.writable.items };
}

abbrev pub flight_of : Parsed → Flight
flight_of p = record { id = p.id; ask = ask_of p }

-- a chain that was taken, by what it asks
abbrev pub asked_turn : Registers → ℕ → Parts → Result Kind BadKind → Registers × Option Ask
asked_turn t head parts (Ok kind) = (t, Some (record { kind = kind; head = head; parts = parts }))
asked_turn t head parts (Err bad) = (in_need t, None)

-- the registers after what the queue shows next, and what it asks, if another may follow
abbrev pub next_turn :
    List ℕ → ℕ → Registers → Result (Option (ℕ × Parts)) BadKind → Registers × Option Ask
next_turn bytes sectors t (Ok None) = (t, None)
next_turn bytes sectors t (Ok (Some (head, parts))) =
    asked_turn (with_queue t 0 (taken (queue_of t 0))) head parts
    (asked bytes parts.readable parts.writable sectors)
next_turn bytes sectors t (Err bad) = (in_need t, None)

-- the registers after the next chain, and what it asks, if another may follow
unfoldable pub turn_of : List ℕ → ℕ → Registers → Registers × Option Ask
turn_of bytes sectors t = next_turn bytes sectors t (next_of bytes (queue_of t 0))

-- the registers and the new requests after a notify
pub record Outcome : Type 0 where
  pub transport : Registers
  pub flights : List Flight

abbrev pub onto_flights : List Flight → Outcome → Outcome
onto_flights front o = record { transport = o.transport; flights = front ++ o.flights }

-- a turn, and then the rest under the next id
abbrev pub behind_turn : ℕ → (Registers → Outcome) → Registers × Option Ask → Outcome
behind_turn id rest (t, None) = record { transport = t; flights = [] }
behind_turn id rest (t, Some ask) = onto_flights (record { id = id; ask = ask } ∷ []) (rest t)

-- at most so many chains are taken, and their requests are numbered from an id
unfoldable pub notified : List ℕ → ℕ → ℕ → ℕ → Registers → Outcome
notified bytes sectors zero id t = record { transport = t; flights = [] }
notified bytes sectors (suc left) id t =
    behind_turn id (λ u. notified bytes sectors left (id + 1) u) (turn_of bytes sectors t)

-- what a notify finds: nothing in a queue that isn't live
abbrev pub found_by : List ℕ → ℕ → ℕ → Registers → Outcome
found_by bytes sectors id t =
    if live_of t 0 then notified bytes sectors (queue_of t 0).size id t
    else record { transport = t; flights = [] }
