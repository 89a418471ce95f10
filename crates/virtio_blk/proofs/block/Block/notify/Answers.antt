use Rattle.std.proofs.Common.{◌≡◌, ◌+◌, ◌/◌, ◌∙◌, ◌++◌, sym, ap, map, drop, length, cond, true, [], List, subst}
use Rattle.std.proofs.lemmas.List.{drop-map, drop_at, length-map}
use Rattle.std.proofs.lemmas.Simd.{map-map}
use Rattle.vio_mmio.specs.Registers.{live_of, queue_of}
use Rattle.virtio_blk.specs.Drive.{Drive, found_in, with_found, request_of}
use Rattle.virtio_blk.specs.Notify.{Flight, Outcome, flight_of, notified, onto_flights}
use Rattle.virtio_blk.specs.declared.notify.Parsed.{Parsed}
use Rattle.virtio_blk.proofs.block.Block.notify.Goals as goal

-- what stands behind the first
behind : (old new : List Parsed) (fresh : List Flight) → map flight_of new ≡ map flight_of old ++ fresh → map flight_of (drop (length old) new) ≡ fresh
behind old new fresh is =
    sym (drop-map flight_of (length old) new) ∙ ap (drop (length old)) is
    ∙ drop_at (map flight_of old) fresh (length old) (length-map old flight_of)

pub returns-in-Ok-issue-clause-ok : goal.returns-in-Ok-issue-clause-ok
returns-in-Ok-issue-clause-ok c =
    let inside = c.self.inside in
    let t = inside.transport in
    let ram = c.args.ram.now in
    let old = inside.parsed.items in
    let new = c.take_chains.new.parsed.items in
    let d : Drive = record { transport = t; disk = inside.disk; next = inside.next; flights = map flight_of old } in
    let none : Outcome = record { transport = t; flights = [] } in
    let live : live_of t 0 ≡ true = sym c.if-not-live.ensures in
    let took = ap (λ r. onto_flights (map flight_of old) (notified r c.sectors-sectors.result c.queue_size-size.result inside.next t)) (sym c.draft-draft.ensures.bytes) ∙ c.in-Ok.ensures.ok in
    let found : found_in d ram ≡ notified ram c.sectors-sectors.result c.queue_size-size.result inside.next t =
    ap (λ b. cond b (notified ram (inside.disk.len / 512) (queue_of t 0).size inside.next t) none) live
    ∙ sym (ap (λ n. notified ram n (queue_of t 0).size inside.next t) c.sectors-sectors.ensures.count)
    ∙ sym (ap (λ n. notified ram c.sectors-sectors.result n inside.next t) c.queue_size-size.ensures) in
    let flights : map flight_of new ≡ map flight_of old ++ (found_in d ram).flights = ap (λ o. o.flights) (sym took) ∙ ap (λ o. map flight_of old ++ o.flights) (sym found) in
    let transport : c.take_chains.new.transport ≡ (found_in d ram).transport = ap (λ o. o.transport) (sym took) ∙ ap (λ o. o.transport) (sym found) in
    let fresh = behind old new (found_in d ram).flights flights in
    let requests : c.in-Ok-issue.requests.items ≡ map request_of (found_in d ram).flights =
    c.in-Ok-issue.ensures.ok ∙ ap (map (λ (p : Parsed). request_of (flight_of p))) (c.split_at.ensures.back ∙ ap (drop _) c.as_slice.ensures.value ∙ ap (λ l. drop (length l) new) c.as_slice-before.ensures.value)
    ∙ sym (map-map request_of flight_of (drop (length old) new)) ∙ ap (map request_of) fresh in
    let count : length c.as_slice-in-Ok-issue.result.now ≡ length (found_in d ram).flights = ap length (c.as_slice-in-Ok-issue.ensures.value ∙ requests) ∙ length-map (found_in d ram).flights request_of in
    subst (λ (e : Drive). (record { transport = c.take_chains.new.transport; disk = inside.disk; next = inside.next + length c.as_slice-in-Ok-issue.result.now; flights = map flight_of new } ≡ with_found e (found_in e ram)) × (c.in-Ok-issue.requests.items ≡ map request_of (found_in e ram).flights)) c.self.view_is
    (λ i. record { transport = transport i; disk = inside.disk; next = inside.next + count i; flights = flights i }, requests)
