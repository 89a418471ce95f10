-- Entering and leaving traps, and which interrupt is due (Privileged ISA, 3.1.6 to 3.1.9, and
-- 3.3.2).
use Rattle.std.specs.Prelude.{ℕ, Bool, true, false, ◌+◌, ◌*◌, ◌%◌, ◌^◌, ◌&&◌, ◌||◌, ◌==◌, not, Option, Some, None, if◌then◌else◌}
use Rattle.std.specs.Int.RustNames.{bit_and}
use Rattle.rv_csr.specs.declared.mode.Mode.{Mode}
use Rattle.rv_csr.specs.declared.mode.Mode.TheVariants.{U, M}
use Rattle.rv_csr.specs.declared.inputs.Inputs.{Inputs}
use Rattle.rv_csr.specs.Control.{Status, Control, has_bit}

-- a trap saves MIE and the mode, and clears MIE (3.1.6.1 Privilege and Global Interrupt-Enable
-- Stack)
abbrev pub trap_status : Status → Mode → Status
trap_status s mode = record s { mpie = s.mie; mpp = mode; mie = false }

-- a trap also sets mepc, mcause and mtval (3.1.14 to 3.1.16)
abbrev pub trapped : Control → Mode → ℕ → ℕ → ℕ → Control
trapped c mode pc cause value = record c {
  status = trap_status c.status mode;
  mepc = bit_and pc 0xfffffffc;
  mcause = cause;
  mtval = value;
}

-- a trap goes to the base in mtvec (3.1.7 Machine Trap-Vector Base-Address Register)
abbrev pub base : Control → ℕ
base c = bit_and c.mtvec 0xfffffffc

-- an interrupt goes there too, or to a place of its own where mtvec is vectored (3.1.7)
abbrev pub interrupt_pc : Control → ℕ → ℕ
interrupt_pc c which = if has_bit c.mtvec 0 then (base c + 4 * which) % 2 ^ 32 else base c

-- a return to U clears MPRV (3.3.2 Trap-Return Instructions)
abbrev pub keeps_mprv : Mode → Bool
keeps_mprv M = true
keeps_mprv U = false

-- MRET brings MIE back, sets MPIE, and sets MPP to U (3.3.2)
abbrev pub returned_status : Status → Status
returned_status s = record s { mie = s.mpie; mpie = true; mpp = U; mprv = keeps_mprv s.mpp && s.mprv }

-- the registers after MRET
abbrev pub returned : Control → Control
returned c = record c { status = returned_status c.status }

-- the first interrupt, of external, software and timer, that is pending and enabled (3.1.9)
abbrev pub chosen : Control → Inputs → Option ℕ
chosen c i =
    if i.meip && has_bit c.mie 11 then Some 11
    else (if i.msip && has_bit c.mie 3 then Some 3
    else (if i.mtip && has_bit c.mie 7 then Some 7 else None))

-- some interrupt is pending and enabled, which ends a WFI whatever MIE is (3.3.3 Wait for
-- Interrupt)
abbrev pub is_wanted : Control → Inputs → Bool
is_wanted c i =
    (i.meip && has_bit c.mie 11) || (i.msip && has_bit c.mie 3) || (i.mtip && has_bit c.mie 7)

-- interrupts are taken always in U, and in M where MIE is set (3.1.6.1)
abbrev pub takes_interrupts : Control → Mode → Bool
takes_interrupts c U = true
takes_interrupts c M = c.status.mie

-- some interrupt is enabled, and would be taken
abbrev pub hears : Control → Mode → Bool
hears c mode = takes_interrupts c mode && not (c.mie == 0)

-- the interrupt that is to be entered, if there is one
abbrev pub due : Control → Mode → Inputs → Option ℕ
due c mode i = if takes_interrupts c mode then chosen c i else None
