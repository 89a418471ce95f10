-- Steps of a notify of the receive queue.
use Rattle.std.proofs.Common.{◌≡◌, ◌<◌, ◌-◌, ℕ, zero, suc, List, [], ◌∷◌, Bool, true, false, cond, ap, ◌∙◌, sym, refl, arith}
use Rattle.vio_mmio.specs.Registers.{Registers, live_of}
use Rattle.virtio_net.specs.Packets.{Filled, Waiting, behind_fill, fill_first, fill_of, refilled}

-- no packet waits
pub refilled_empty : (left : ℕ) (ram : List ℕ) (t : Registers) (packets : List (List ℕ)) → packets ≡ []
    → refilled left (record { ram = ram; transport = t; packets = packets }) ≡ record { ram = ram; transport = t; packets = packets }
unfolding refilled
refilled_empty zero ram t packets none = refl
refilled_empty (suc left) ram t packets none = ap (fill_first (λ v. refilled left v) (record { ram = ram; transport = t; packets = packets })) none

-- the queue isn't live
pub refilled_dead : (left : ℕ) (ram : List ℕ) (t : Registers) (packets : List (List ℕ)) → live_of t 0 ≡ false
    → refilled left (record { ram = ram; transport = t; packets = packets }) ≡ record { ram = ram; transport = t; packets = packets }
unfolding refilled
refilled_dead zero ram t packets dead = refl
refilled_dead (suc left) ram t [] dead = refl
refilled_dead (suc left) ram t (first ∷ others) dead =
    ap (λ b. cond b (behind_fill (λ v. refilled left v) first others (fill_of ram t first)) (record { ram = ram; transport = t; packets = first ∷ others })) dead

-- the first packet meets the queue
step : (left : ℕ) (ram : List ℕ) (t : Registers) (packets : List (List ℕ)) (first : List ℕ) (others : List (List ℕ)) (f : Filled)
    → packets ≡ first ∷ others → live_of t 0 ≡ true → f ≡ fill_of ram t first
    → refilled (suc left) (record { ram = ram; transport = t; packets = packets }) ≡ behind_fill (λ v. refilled left v) first others f
unfolding refilled
step left ram t packets first others f are live is =
    ap (λ l. refilled (suc left) (record { ram = ram; transport = t; packets = l })) are
    ∙ ap (λ b. cond b (behind_fill (λ v. refilled left v) first others (fill_of ram t first)) (record { ram = ram; transport = t; packets = first ∷ others })) live
    ∙ ap (behind_fill (λ v. refilled left v) first others) (sym is)

-- it fills a chain
pub refilled_more : (left : ℕ) (ram after : List ℕ) (t u : Registers) (packets : List (List ℕ)) (first : List ℕ) (others : List (List ℕ)) (went : Bool)
    → 0 < left → packets ≡ first ∷ others → live_of t 0 ≡ true → record { went = went; ram = after; transport = u } ≡ fill_of ram t first → went ≡ true
    → refilled left (record { ram = ram; transport = t; packets = packets }) ≡ refilled (left - 1) (record { ram = after; transport = u; packets = others })
refilled_more zero ram after t u packets first others went some are live is here = absurd (omega arith)
refilled_more (suc left) ram after t u packets first others went some are live is here =
    let next : left ≡ suc left - 1 = omega arith in
    step left ram t packets first others (record { went = went; ram = after; transport = u }) are live is
    ∙ ap (λ b. cond b (refilled left (record { ram = after; transport = u; packets = others })) (record { ram = after; transport = u; packets = first ∷ others })) here
    ∙ ap (λ m. refilled m (record { ram = after; transport = u; packets = others })) next

-- it finds no chain
pub refilled_stop : (left : ℕ) (ram after : List ℕ) (t u : Registers) (packets : List (List ℕ)) (first : List ℕ) (others : List (List ℕ)) (went : Bool)
    → 0 < left → packets ≡ first ∷ others → live_of t 0 ≡ true → record { went = went; ram = after; transport = u } ≡ fill_of ram t first → went ≡ false
    → refilled left (record { ram = ram; transport = t; packets = packets }) ≡ record { ram = after; transport = u; packets = packets }
refilled_stop zero ram after t u packets first others went some are live is gone = absurd (omega arith)
refilled_stop (suc left) ram after t u packets first others went some are live is gone =
    step left ram t packets first others (record { went = went; ram = after; transport = u }) are live is
    ∙ ap (λ b. cond b (refilled left (record { ram = after; transport = u; packets = others })) (record { ram = after; transport = u; packets = first ∷ others })) gone
    ∙ ap (λ l. record { ram = after; transport = u; packets = l }) (sym are)

-- no other may follow
pub refilled_none : (left : ℕ) (w : Waiting) → left ≡ 0 → refilled left w ≡ w
unfolding refilled
refilled_none left w none = ap (λ m. refilled m w) none
