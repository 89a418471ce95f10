-- Steps of a notify.
use Rattle.std.proofs.Common.{◌≡◌, ◌<◌, ℕ, zero, suc, ◌-◌, ◌+◌, List, [], ◌∷◌, ◌++◌, Some, None, ap, ◌∙◌, sym, arith, append_assoc, append-nil}
use Rattle.vio_mmio.specs.Registers.{Registers}
use Rattle.virtio_blk.specs.Notify.{Ask, Flight, Outcome, onto_flights, behind_turn, turn_of, notified}

onto_flights-onto_flights : (a b : List Flight) (o : Outcome) → onto_flights a (onto_flights b o) ≡ onto_flights (a ++ b) o
onto_flights-onto_flights a b o = ap (λ x. record { transport = o.transport; flights = x }) (sym (append_assoc a b o.flights))

-- one request of more that may follow
pub notified_more : (bytes : List ℕ) (sectors left id : ℕ) (t u : Registers) (ask : Ask) (front : List Flight) → 0 < left → (u, Some ask) ≡ turn_of bytes sectors t
    → onto_flights front (notified bytes sectors left id t) ≡ onto_flights (front ++ record { id = id; ask = ask } ∷ []) (notified bytes sectors (left - 1) (id + 1) u)
unfolding notified
notified_more bytes sectors zero id t u ask front some is = absurd (omega arith)
notified_more bytes sectors (suc left) id t u ask front some is =
    let next : suc left - 1 ≡ left = omega arith in
    ap (λ r. onto_flights front (behind_turn id (λ u. notified bytes sectors left (id + 1) u) r)) (sym is)
    ∙ onto_flights-onto_flights front (record { id = id; ask = ask } ∷ []) (notified bytes sectors left (id + 1) u)
    ∙ ap (λ m. onto_flights (front ++ record { id = id; ask = ask } ∷ []) (notified bytes sectors m (id + 1) u)) (sym next)

-- no other follows
pub notified_end : (bytes : List ℕ) (sectors left id : ℕ) (t u : Registers) (front : List Flight) → 0 < left → (u, None) ≡ turn_of bytes sectors t
    → onto_flights front (notified bytes sectors left id t) ≡ record { transport = u; flights = front }
unfolding notified
notified_end bytes sectors zero id t u front some is = absurd (omega arith)
notified_end bytes sectors (suc left) id t u front some is =
    ap (λ r. onto_flights front (behind_turn id (λ u. notified bytes sectors left (id + 1) u) r)) (sym is)
    ∙ ap (λ x. record { transport = u; flights = x }) (append-nil front)

-- no other may follow
pub notified_none : (bytes : List ℕ) (sectors left id : ℕ) (t : Registers) (front : List Flight) → left ≡ 0
    → onto_flights front (notified bytes sectors left id t) ≡ record { transport = t; flights = front }
unfolding notified
notified_none bytes sectors left id t front none = ap (λ m. onto_flights front (notified bytes sectors m id t)) none ∙ ap (λ x. record { transport = t; flights = x }) (append-nil front)
