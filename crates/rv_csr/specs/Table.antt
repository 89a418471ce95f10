-- The table of the control registers, and reading and writing by it (Privileged ISA, 2.2 CSR
-- Listing, and 3.1 Machine-Level CSRs).
use Rattle.std.specs.Prelude.{ℕ, zero, suc, Bool, true, false, ◌+◌, ◌*◌, ◌/◌, ◌%◌, ◌^◌, ◌==◌, ◌&&◌, ◌||◌, not, Option, Some, None, Result, Ok, Err, ◌≡◌, if◌then◌else◌, List, [], ◌∷◌}
use Rattle.std.specs.Int.RustNames.{bit_and, bit_or}
use Rattle.rv_csr.specs.declared.mode.Mode.{Mode}
use Rattle.rv_csr.specs.declared.mode.Mode.TheVariants.{U, M}
use Rattle.rv_csr.specs.declared.inputs.Inputs.{Inputs}
use Rattle.rv_csr.specs.declared.access.Illegal.{Illegal}
use Rattle.rv_csr.specs.declared.register.Register.{Register}
use Rattle.rv_csr.specs.declared.register.Register.TheVariants.{Mstatus, Misa, Mie, Mtvec, Mcounteren, Mscratch, Mepc, Mcause, Mtval, Mip, Mcycle, Mcycleh, Minstret, Minstreth, Cycle, Cycleh, Time, Timeh, Instret, Instreth, Identity}
use Rattle.rv_csr.specs.Control.{Status, Control, has_bit, bit_if, status_word}

-- each number with its register. No other number has one
abbrev pub table : List (ℕ × Register)
table =
    (0x300, Mstatus) ∷ (0x301, Misa) ∷ (0x304, Mie) ∷ (0x305, Mtvec) ∷ (0x306, Mcounteren)
    ∷ (0x340, Mscratch) ∷ (0x341, Mepc) ∷ (0x342, Mcause) ∷ (0x343, Mtval) ∷ (0x344, Mip)
    ∷ (0xb00, Mcycle) ∷ (0xb80, Mcycleh) ∷ (0xb02, Minstret) ∷ (0xb82, Minstreth)
    ∷ (0xc00, Cycle) ∷ (0xc80, Cycleh) ∷ (0xc01, Time) ∷ (0xc81, Timeh)
    ∷ (0xc02, Instret) ∷ (0xc82, Instreth)
    ∷ (0xf11, Identity) ∷ (0xf12, Identity) ∷ (0xf13, Identity) ∷ (0xf14, Identity) ∷ []

-- the register with a number
abbrev pub at_number : List (ℕ × Register) → ℕ → Option Register
at_number [] number = None
at_number (row ∷ rows) number =
    if row.0 == number then Some row.1 else at_number rows number

-- bits 8 and 9 of a number give the lowest mode that may use it: both are 0 where U may (2.1 CSR
-- Address Mapping Conventions)
abbrev pub mode_may : ℕ → Mode → Bool
mode_may number M = true
mode_may number U = number / 256 % 4 == 0

-- bits 10 and 11 are both 1 at a register that can't be written (2.1)
abbrev pub is_read_only : ℕ → Bool
is_read_only number = number / 1024 % 4 == 3

-- U reads cycle, time and instret where bit 0, 1 or 2 of mcounteren is set (3.1.11 Machine
-- Counter-Enable Register)
abbrev pub counter_may : Control → Register → Mode → Bool
counter_may c Cycle U = has_bit c.mcounteren 0
counter_may c Cycleh U = has_bit c.mcounteren 0
counter_may c Time U = has_bit c.mcounteren 1
counter_may c Timeh U = has_bit c.mcounteren 1
counter_may c Instret U = has_bit c.mcounteren 2
counter_may c Instreth U = has_bit c.mcounteren 2
counter_may c register mode = true

-- the pending interrupts as the bits MSIP, MTIP and MEIP of mip (3.1.9 Machine Interrupt Registers)
abbrev pub pending : Inputs → ℕ
pending i = bit_or (bit_or (bit_if i.msip 3) (bit_if i.mtip 7)) (bit_if i.meip 11)

-- the halves of a counter
abbrev pub low_half : ℕ → ℕ
low_half n = n % 2 ^ 32

abbrev pub high_half : ℕ → ℕ
high_half n = n / 2 ^ 32

-- what a register shows. misa says RV32 with A, I, M and U
abbrev pub shown : Control → Inputs → Register → ℕ
shown c i Mstatus = status_word c.status
shown c i Misa = 0x40101101
shown c i Mie = c.mie
shown c i Mtvec = c.mtvec
shown c i Mcounteren = c.mcounteren
shown c i Mscratch = c.mscratch
shown c i Mepc = c.mepc
shown c i Mcause = c.mcause
shown c i Mtval = c.mtval
shown c i Mip = pending i
shown c i Mcycle = low_half c.cycle
shown c i Mcycleh = high_half c.cycle
shown c i Minstret = low_half c.instret
shown c i Minstreth = high_half c.instret
shown c i Cycle = low_half c.cycle
shown c i Cycleh = high_half c.cycle
shown c i Time = low_half i.time
shown c i Timeh = high_half i.time
shown c i Instret = low_half c.instret
shown c i Instreth = high_half c.instret
shown c i Identity = 0

-- what is read at a number, if it has a register that the mode may read
abbrev pub read_at : Control → ℕ → Mode → Inputs → Option Register → Option ℕ
read_at c number mode i None = None
read_at c number mode i (Some r) =
    if mode_may number mode && counter_may c r mode then Some (shown c i r) else None

-- what a read gives, or none where it is illegal
abbrev pub read_of : Control → ℕ → Mode → Inputs → Option ℕ
read_of c number mode i = read_at c number mode i (at_number table number)

-- MPP after a write of its two bits: 0 is U and 3 is M, and another keeps the old one
abbrev pub mpp_of : ℕ → Mode → Mode
mpp_of field old = if field == 0 then U else (if field == 3 then M else old)

-- mstatus after a write of v (3.1.6 Machine Status Registers)
abbrev pub status_of : ℕ → Status → Status
status_of v old = record {
  mie = has_bit v 3;
  mpie = has_bit v 7;
  mpp = mpp_of (v / 2 ^ 11 % 4) old.mpp;
  mprv = has_bit v 17;
  tw = has_bit v 21;
}

-- the registers after a write of v. mie keeps bits 3, 7 and 11, mtvec all but bit 1, mcounteren
-- bits 0 to 2, and mepc all but bits 0 and 1. A write of half a counter marks it
abbrev pub written : Control → ℕ → Register → Control
written c v Mstatus = record c { status = status_of v c.status }
written c v Mie = record c { mie = bit_and v 0x888 }
written c v Mtvec = record c { mtvec = bit_and v 0xfffffffd }
written c v Mcounteren = record c { mcounteren = bit_and v 7 }
written c v Mscratch = record c { mscratch = v }
written c v Mepc = record c { mepc = bit_and v 0xfffffffc }
written c v Mcause = record c { mcause = v }
written c v Mtval = record c { mtval = v }
written c v Mcycle = record c { cycle = high_half c.cycle * 2 ^ 32 + v; cycle_written = true }
written c v Mcycleh = record c { cycle = v * 2 ^ 32 + low_half c.cycle; cycle_written = true }
written c v Minstret =
    record c { instret = high_half c.instret * 2 ^ 32 + v; instret_written = true }
written c v Minstreth =
    record c { instret = v * 2 ^ 32 + low_half c.instret; instret_written = true }
written c v register = c

-- the registers after a write at a number, if it has a register that the mode may write
abbrev pub write_at : Control → ℕ → Mode → ℕ → Option Register → Option Control
write_at c number mode v None = None
write_at c number mode v (Some r) =
    if mode_may number mode && not (is_read_only number) then Some (written c v r) else None

-- the registers after a write, or none where it is illegal
abbrev pub write_of : Control → ℕ → Mode → ℕ → Option Control
write_of c number mode v = write_at c number mode v (at_number table number)

-- the registers after a turn. A counter that the turn wrote stays as written (3.1.10 Hardware
-- Performance Monitor)
abbrev pub ticked : Control → Bool → Control
ticked c retired = record c {
  cycle = if c.cycle_written then c.cycle else (c.cycle + 1) % 2 ^ 64;
  instret = if c.instret_written || not retired then c.instret else (c.instret + 1) % 2 ^ 64;
  cycle_written = false;
  instret_written = false;
}

-- the registers after so many turns that retired
unfoldable pub ticked_times : ℕ → Control → Control
ticked_times zero c = c
ticked_times (suc n) c = ticked (ticked_times n c) true

-- an illegal write is refused and leaves the old registers, and another leaves the written ones
abbrev pub WritesTo : Option Control → Control → Result (Unit {0}) Illegal → Control → Type 0
WritesTo None old result new = (result ≡ Err (record {})) × (new ≡ old)
WritesTo (Some c) old result new = (result ≡ Ok tt) × (new ≡ c)
