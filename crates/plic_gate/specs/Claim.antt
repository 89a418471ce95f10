-- Which source is claimed, and when the external interrupt stands (PLIC specification,
-- "Interrupt Claim Process", "Priority Thresholds").
use Rattle.std.specs.Prelude.{ℕ, zero, suc, Bool, ◌&&◌, ◌==◌, nat_lt, if◌then◌else◌}
use Rattle.plic_gate.specs.Bits.{has, with_bit, without_bit}
use Rattle.plic_gate.specs.Gateway.{Gates, priority}

-- the priority with which a source asks, 0 where it isn't pending or not enabled
abbrev pub asks : Gates → ℕ → ℕ
asks g s = if nat_lt 0 s && has g.pending s && has g.enabled s then priority g s else 0

-- the better of two numbers: the second where f is higher there
abbrev pub better : (ℕ → ℕ) → ℕ → ℕ → ℕ
better f one other = if nat_lt (f one) (f other) then other else one

-- the first of the numbers below n at which f is highest, or 0
unfoldable pub first_highest : (ℕ → ℕ) → ℕ → ℕ
first_highest f zero = 0
first_highest f (suc n) = better f (first_highest f n) n

-- the source that asks with the highest priority, the first at a tie, or 0 where none asks
abbrev pub best : Gates → ℕ
best g = first_highest (asks g) 32

-- a claim takes the best source's pending bit
abbrev pub claimed : Gates → Gates
claimed g =
    if best g == 0 then g
    else record g {
      pending = without_bit g.pending (best g);
      claimed = with_bit g.claimed (best g);
    }

-- the external interrupt stands where the best source asks with more than the threshold
abbrev pub stands : Gates → Bool
stands g = nat_lt g.threshold (asks g (best g))
