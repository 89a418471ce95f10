-- A chain given back to the driver.
use Rattle.std.specs.Prelude.{ℕ, List, ◌&&◌, nat_eq, not, if◌then◌else◌}
use Rattle.vio_mmio.specs.Registers.{Registers, queue_of, in_need}
use Rattle.vio_mmio.specs.Ring.{has_used, with_entry, is_wanted}
use Rattle.vio_mmio.specs.Descriptors.{pushed}

-- the memory and the registers after a chain of a queue is given back as used; without a used ring
-- in the memory only its entry is missing, and the driver is asked for a reset
unfoldable pub given_back : List ℕ → Registers → ℕ → ℕ → ℕ → List ℕ × Registers
given_back bytes t q head len =
    let queue = queue_of t q in
    let after = with_entry bytes queue head len in
    if not (nat_eq queue.size 0) && has_used bytes queue
    then (after, pushed t q (is_wanted after queue))
    else (bytes, in_need t)
