-- The sources and their gateways: how a source comes to be pending (PLIC specification,
-- "Interrupt Gateways", "Interrupt Completion").
use Rattle.std.specs.Prelude.{ℕ, Bool, true, false, ◌&&◌, not, nat_lt, if◌then◌else◌, List, replicate, slice_index}
use Rattle.plic_gate.specs.Bits.{has, with_bit, without_bit}

-- the priorities by source; in words of bits the levels, the pending, claimed and enabled sources;
-- and the threshold of the context
pub record Gates : Type 0 where
  pub priority : List ℕ
  pub level : ℕ
  pub pending : ℕ
  pub claimed : ℕ
  pub enabled : ℕ
  pub threshold : ℕ

-- all is 0 at reset
abbrev pub reset : Gates
reset = record {
  priority = replicate 32 0;
  level = 0;
  pending = 0;
  claimed = 0;
  enabled = 0;
  threshold = 0;
}

-- the priority of a source
abbrev pub priority : Gates → ℕ → ℕ
priority g s = slice_index g.priority s

-- the gateway forwards no request while one is pending, or claimed and not completed
abbrev pub is_open : Gates → ℕ → Bool
is_open g s = not (has g.pending s) && not (has g.claimed s)

-- a source whose level is high and whose gateway is open becomes pending
abbrev pub forwarded : Gates → ℕ → Gates
forwarded g s =
    if has g.level s && is_open g s then record g { pending = with_bit g.pending s }
    else g

-- the word with the source's bit as given
abbrev pub bit_set_to : Bool → ℕ → ℕ → ℕ
bit_set_to true word s = with_bit word s
bit_set_to false word s = without_bit word s

-- a source's level rises or falls
abbrev pub with_level : Gates → ℕ → Bool → Gates
with_level g s high = forwarded (record g { level = bit_set_to high g.level s }) s

-- a completion counts for an enabled source that was claimed and not completed
abbrev pub completes : Gates → ℕ → Bool
completes g s = nat_lt s 32 && has g.enabled s && has g.claimed s

-- a completion opens the gateway, and a level that is still high passes it again
abbrev pub completed : Gates → ℕ → Gates
completed g s =
    if completes g s then forwarded (record g { claimed = without_bit g.claimed s }) s
    else g
