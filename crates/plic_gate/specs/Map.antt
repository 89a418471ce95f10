-- The register map (PLIC specification, "Memory Map"), and reading and writing by it.
use Rattle.std.specs.Prelude.{ℕ, Bool, ◌%◌, ◌/◌, ◌==◌, ◌<◌, ◌&&◌, nat_le, Option, Some, None, if◌then◌else◌, slice_set, ⊤}
use Rattle.std.specs.Int.RustNames.{bit_and}
use Rattle.plic_gate.specs.declared.register.Register.{Register}
use Rattle.plic_gate.specs.declared.register.Register.TheVariants.{Priority, Pending, Enable, Threshold, Claim}
use Rattle.plic_gate.specs.Gateway.{Gates, priority, completed}
use Rattle.plic_gate.specs.Claim.{best, claimed}

-- the offset of a source's priority: 4 × s for s from 1 to 31
abbrev pub is_priority : ℕ → Bool
is_priority off = nat_le 4 off && nat_le off 0x7c && off % 4 == 0

-- the register at an offset
abbrev pub register_at : ℕ → Option Register
register_at off =
    if off == 0x1000 then Some Pending
    else if off == 0x2000 then Some Enable
    else if off == 0x200000 then Some Threshold
    else if off == 0x200004 then Some Claim
    else if is_priority off then Some (Priority (off / 4))
    else None

-- a priority register is that of a source
abbrev pub NamesSource : Register → Type 0
NamesSource (Priority s) = s < 32
NamesSource register = ⊤

-- what a register shows
abbrev pub shown : Gates → Register → ℕ
shown g (Priority s) = priority g s
shown g Pending = g.pending
shown g Enable = g.enabled
shown g Threshold = g.threshold
shown g Claim = 0

-- what a read gives, and the gates then: 0 where no register is
abbrev pub read_of : Gates → Option Register → ℕ × Gates
read_of g (Some Claim) = (best g, claimed g)
read_of g (Some register) = (shown g register, g)
read_of g None = (0, g)

-- the word at an offset, and the gates then: a read of claim is a claim
abbrev pub read : Gates → ℕ → ℕ × Gates
read g off = read_of g (register_at off)

-- the gates after a word is put into a register: a write of claim is a completion
abbrev pub put : Gates → ℕ → Register → Gates
put g value (Priority s) = record g { priority = slice_set g.priority s (value % 8) }
put g value Pending = g
put g value Enable = record g { enabled = bit_and value 0xfffffffe }
put g value Threshold = record g { threshold = value % 8 }
put g value Claim = completed g value

-- the gates after a write, which does nothing where no register is
abbrev pub written_of : Gates → ℕ → Option Register → Gates
written_of g value (Some register) = put g value register
written_of g value None = g

-- the gates after a write at an offset
abbrev pub written : Gates → ℕ → ℕ → Gates
written g off value = written_of g value (register_at off)
