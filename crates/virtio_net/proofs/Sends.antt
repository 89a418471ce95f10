-- Steps of a notify of the transmit queue.
use Rattle.std.proofs.Common.{◌≡◌, ◌<◌, ◌-◌, ℕ, zero, suc, List, [], ◌∷◌, ◌++◌, Bool, true, false, cond, ap, ◌∙◌, sym, arith, append_assoc, append-nil, length, take, inl, inr}
use Rattle.std.proofs.lemmas.Bool.{cases_lt}
use Rattle.std.proofs.lemmas.Bool.Decides.{nat_tests}
use Rattle.std.proofs.lemmas.List.{take_all, length-take}
use Rattle.vio_mmio.specs.Registers.{Registers, live_of}
use Rattle.virtio_net.specs.Packets.{SendsNext, Waiting, behind_send, drained, is_packet, onto_sent, send_of}

onto_onto : (a b : List (List ℕ)) (w : Waiting) → onto_sent a (onto_sent b w) ≡ onto_sent (a ++ b) w
onto_onto a b w = ap (λ x. record { ram = w.ram; transport = w.transport; packets = x }) (sym (append_assoc a b w.packets))

-- the queue isn't live, or no other chain may follow
pub drained_dead : (left : ℕ) (ram : List ℕ) (t : Registers) (front : List (List ℕ)) → live_of t 1 ≡ false
    → onto_sent front (drained left ram t) ≡ record { ram = ram; transport = t; packets = front }
unfolding drained
drained_dead zero ram t front dead = ap (λ x. record { ram = ram; transport = t; packets = x }) (append-nil front)
drained_dead (suc left) ram t front dead =
    ap (λ b. onto_sent front (cond b (behind_send (λ m u. drained left m u) (send_of ram t)) (record { ram = ram; transport = t; packets = [] }))) dead
    ∙ ap (λ x. record { ram = ram; transport = t; packets = x }) (append-nil front)

pub drained_none : (left : ℕ) (ram : List ℕ) (t : Registers) (front : List (List ℕ)) → left ≡ 0
    → onto_sent front (drained left ram t) ≡ record { ram = ram; transport = t; packets = front }
unfolding drained
drained_none left ram t front none = ap (λ m. onto_sent front (drained m ram t)) none ∙ ap (λ x. record { ram = ram; transport = t; packets = x }) (append-nil front)

-- another chain is looked at
step : (left : ℕ) (ram : List ℕ) (t : Registers) (front : List (List ℕ)) → live_of t 1 ≡ true
    → onto_sent front (drained (suc left) ram t) ≡ onto_sent front (behind_send (λ m u. drained left m u) (send_of ram t))
unfolding drained
step left ram t front live = ap (λ b. onto_sent front (cond b (behind_send (λ m u. drained left m u) (send_of ram t)) (record { ram = ram; transport = t; packets = [] }))) live

-- it is sent, and others may follow
pub drained_more : (left : ℕ) (ram after : List ℕ) (t u : Registers) (front all : List (List ℕ)) (went : Bool)
    → 0 < left → live_of t 1 ≡ true → SendsNext went ram after t u front all → went ≡ true
    → onto_sent front (drained left ram t) ≡ onto_sent all (drained (left - 1) after u)
drained_more zero ram after t u front all went some live is here = absurd (omega arith)
drained_more (suc left) ram after t u front all went some live is here =
    let s = send_of ram t in
    let next : left ≡ suc left - 1 = omega arith in
    step left ram t front live
    ∙ ap (λ b. onto_sent front (cond b (onto_sent s.packets (drained left s.ram s.transport)) (record { ram = s.ram; transport = s.transport; packets = s.packets }))) (sym is.0 ∙ here)
    ∙ onto_onto front s.packets (drained left s.ram s.transport)
    ∙ (λ i. onto_sent (sym is.3 i) (drained (next i) (sym is.1 i) (sym is.2 i)))

-- it is the last
pub drained_stop : (left : ℕ) (ram after : List ℕ) (t u : Registers) (front all : List (List ℕ)) (went : Bool)
    → 0 < left → live_of t 1 ≡ true → SendsNext went ram after t u front all → went ≡ false
    → onto_sent front (drained left ram t) ≡ record { ram = after; transport = u; packets = all }
drained_stop zero ram after t u front all went some live is gone = absurd (omega arith)
drained_stop (suc left) ram after t u front all went some live is gone =
    let s = send_of ram t in
    step left ram t front live
    ∙ ap (λ b. onto_sent front (cond b (onto_sent s.packets (drained left s.ram s.transport)) (record { ram = s.ram; transport = s.transport; packets = s.packets }))) (sym is.0 ∙ gone)
    ∙ (λ i. record { ram = sym is.1 i; transport = sym is.2 i; packets = sym is.3 i })

-- too many bytes are no packet
too_long : (n : ℕ) → 1514 < n → is_packet n ≡ false
too_long n long = grind (arith, nat_tests)

-- the packet of the first bytes, one more than a packet may have, is the packet of all
pub packet_of_first : (bytes : List ℕ) → cond (is_packet (length (take 1515 bytes))) (take 1515 bytes ∷ []) [] ≡ cond (is_packet (length bytes)) (bytes ∷ []) []
packet_of_first bytes =
    elim (cases_lt 1515 (length bytes)) [
      | inl long ↦
          let n : 1515 ≡ length (take 1515 bytes) = omega (arith, length-take 1515 bytes) in
          ap (λ b. cond b (take 1515 bytes ∷ []) []) (too_long (length (take 1515 bytes)) (omega arith))
          ∙ sym (ap (λ b. cond b (bytes ∷ []) []) (too_long (length bytes) (omega arith)))
      | inr short ↦ ap (λ s. cond (is_packet (length s)) (s ∷ []) []) (take_all 1515 bytes short)
    ]
