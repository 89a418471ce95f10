-- Many turns count at once as they do one by one.
use Rattle.std.proofs.Common.{◌≡◌, ℕ, zero, suc, ◌<◌, ◌+◌, ◌-◌, ◌%◌, ◌^◌, true, refl, ap, ◌∙◌, arith}
use Rattle.rv_csr.specs.Control.{Control}
use Rattle.rv_csr.specs.Table.{ticked, ticked_times}

-- the first turn apart
shifted : (n : ℕ) (c : Control) → ticked_times (suc n) c ≡ ticked_times n (ticked c true)
unfolding ticked_times
shifted zero c = refl
shifted (suc n) c = ap (λ z. ticked z true) (shifted n c)

-- the counters after so many turns more
abbrev more : ℕ → Control → Control
more n c = record c { cycle = (c.cycle + n) % 2 ^ 64; instret = (c.instret + n) % 2 ^ 64 }

one-more : (x n : ℕ) → ((x + n) % 2 ^ 64 + 1) % 2 ^ 64 ≡ (x + suc n) % 2 ^ 64
one-more x n = omega arith

none-more : (x : ℕ) → x < 2 ^ 64 → x ≡ (x + 0) % 2 ^ 64
none-more x h = omega arith

-- no mark is set after a turn
plain-more : (n : ℕ) (c : Control) → (ticked c true).cycle < 2 ^ 64 → (ticked c true).instret < 2 ^ 64 → ticked_times n (ticked c true) ≡ more n (ticked c true)
unfolding ticked_times
plain-more zero c p q =
    ap (λ z. record (ticked c true) { cycle = z; instret = (ticked c true).instret }) (none-more (ticked c true).cycle p)
    ∙ ap (λ z. record (ticked c true) { cycle = ((ticked c true).cycle + 0) % 2 ^ 64; instret = z }) (none-more (ticked c true).instret q)
plain-more (suc n) c p q =
    ap (λ z. ticked z true) (plain-more n c p q)
    ∙ ap (λ z. record (ticked c true) { cycle = z; instret = (((ticked c true).instret + n) % 2 ^ 64 + 1) % 2 ^ 64 }) (one-more (ticked c true).cycle n)
    ∙ ap (λ z. record (ticked c true) { cycle = ((ticked c true).cycle + suc n) % 2 ^ 64; instret = z }) (one-more (ticked c true).instret n)

-- all of them, from the first turn
pub at_once : (n : ℕ) (c : Control) → 0 < n → (ticked c true).cycle < 2 ^ 64 → (ticked c true).instret < 2 ^ 64 → ticked_times n c ≡ more (n - 1) (ticked c true)
at_once zero c h p q = absurd (omega arith)
at_once (suc n) c h p q =
    let s : suc n - 1 ≡ n = omega arith in
    rw s (shifted n c ∙ plain-more n c p q)

pub no_turns : (c : Control) → ticked_times 0 c ≡ c
unfolding ticked_times
no_turns c = refl

pub ruleset times = (at_once, no_turns)
