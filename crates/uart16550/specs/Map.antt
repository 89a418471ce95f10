-- The register map (16550 data sheet, Summary of Registers), and reading and writing by it.
use Rattle.std.specs.Prelude.{ℕ, Bool, true, false, ◌+◌, ◌-◌, ◌^◌, min, ◌==◌, Option, Some, None, List, [], ◌∷◌, ◌++◌, if◌then◌else◌}
use Rattle.std.specs.Int.RustNames.{bit_and}
use Rattle.uart16550.specs.declared.uart.Cause.{Cause}
use Rattle.uart16550.specs.declared.uart.Cause.TheVariants.{Received, Emptied, Nothing}
use Rattle.uart16550.specs.declared.register.Register.{Register}
use Rattle.uart16550.specs.declared.register.Register.TheVariants.{RbrThr, Ier, IirFcr, Lcr, Mcr, Lsr, Msr, Scr, Dll, Dlm}
use Rattle.uart16550.specs.Line.{Line, dlab, waits, cause, with_enabled, controlled}

-- the registers at the offsets 0 and 1, without and with access to the divisor latch
abbrev pub by_latch : Bool → Register → Register → Register
by_latch false register latch = register
by_latch true register latch = latch

-- each offset with its register
abbrev pub map : Bool → List (ℕ × Register)
map latch =
    (0, by_latch latch RbrThr Dll) ∷ (1, by_latch latch Ier Dlm) ∷ (2, IirFcr) ∷ (3, Lcr)
    ∷ (4, Mcr) ∷ (5, Lsr) ∷ (6, Msr) ∷ (7, Scr) ∷ []

-- the first register of a list at an offset
abbrev pub at_offset : List (ℕ × Register) → ℕ → Option Register
at_offset [] off = None
at_offset (row ∷ rows) off = if row.0 == off then Some row.1 else at_offset rows off

-- the register at an offset
abbrev pub register_at : ℕ → Bool → Option Register
register_at off latch = at_offset (map latch) off

-- the first byte that waits, or 0
abbrev pub first_byte : List ℕ → ℕ
first_byte [] = 0
first_byte (byte ∷ rest) = byte

-- the bytes that wait after the first
abbrev pub after_first : List ℕ → List ℕ
after_first [] = []
after_first (byte ∷ rest) = rest

-- the low bits of the identification
abbrev pub code : Cause → ℕ
code Received = 0x04
code Emptied = 0x02
code Nothing = 0x01

-- the interrupt's identification (IIR), with c0 where the FIFOs are on
abbrev pub identified : Line → ℕ
identified l = if l.fifos then 0xc0 + code (cause l) else code (cause l)

-- the state of the line (LSR): the transmitter is empty, and bytes may wait
abbrev pub line_status : Line → ℕ
line_status l = if waits l.waiting then 0x61 else 0x60

-- what a register shows; the modem's status (MSR) is always that of a peer that is ready
abbrev pub shown : Line → Register → ℕ
shown l RbrThr = first_byte l.waiting
shown l Ier = l.ier
shown l IirFcr = identified l
shown l Lcr = l.lcr
shown l Mcr = l.mcr
shown l Lsr = line_status l
shown l Msr = 0xb0
shown l Scr = l.scr
shown l Dll = l.dll
shown l Dlm = l.dlm

-- the mark of an empty transmitter is gone once it was shown
abbrev pub identified_once : Cause → Line → Line
identified_once Emptied l = record l { emptied = false }
identified_once other l = l

-- the line after a register was read: the buffer gives its first byte away
abbrev pub after_read : Line → Register → Line
after_read l RbrThr = record l { waiting = after_first l.waiting }
after_read l IirFcr = identified_once (cause l) l
after_read l other = l

-- what a read gives, and the line then: 0 where no register is
abbrev pub read_of : Line → Option Register → ℕ × Line
read_of l (Some register) = (shown l register, after_read l register)
read_of l None = (0, l)

-- the byte at an offset, and the line then
abbrev pub read : Line → ℕ → ℕ × Line
read l off = read_of l (register_at off (dlab l))

-- the count after one more byte: it stands still at the last number of 64 bits
abbrev pub one_more : ℕ → ℕ
one_more count = min (count + 1) (2 ^ 64 - 1)

-- the line after a byte is put into a register
abbrev pub put : Line → ℕ → Register → Line
put l byte RbrThr = record l {
  out = l.out ++ byte ∷ [];
  total_out = one_more l.total_out;
  emptied = true;
}
put l byte Ier = with_enabled l (bit_and byte 0x0f)
put l byte IirFcr = controlled l byte
put l byte Lcr = record l { lcr = byte }
put l byte Mcr = record l { mcr = bit_and byte 0x1f }
put l byte Lsr = l
put l byte Msr = l
put l byte Scr = record l { scr = byte }
put l byte Dll = record l { dll = byte }
put l byte Dlm = record l { dlm = byte }

-- the line after a write, which does nothing where no register is
abbrev pub written_of : Line → ℕ → Option Register → Line
written_of l byte (Some register) = put l byte register
written_of l byte None = l

-- the line after a write at an offset
abbrev pub written : Line → ℕ → ℕ → Line
written l off byte = written_of l byte (register_at off (dlab l))
