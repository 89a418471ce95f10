-- What entering and leaving a trap, and writing and reading, say together.
use Rattle.std.specs.Prelude.{ℕ, ◌≡◌}
use Rattle.std.specs.Int.RustNames.{bit_and}
use Rattle.rv_csr.specs.declared.mode.Mode.{Mode}
use Rattle.rv_csr.specs.declared.inputs.Inputs.{Inputs}
use Rattle.rv_csr.specs.declared.register.Register.{Register}
use Rattle.rv_csr.specs.declared.register.Register.TheVariants.{Mie, Mtvec, Mcounteren, Mscratch, Mepc, Mcause, Mtval, Mcycle, Mcycleh, Minstret, Minstreth}
use Rattle.rv_csr.specs.Control.{Control}
use Rattle.rv_csr.specs.Table.{shown, written}
use Rattle.rv_csr.specs.Traps.{returned}

-- MRET right after a trap's entry: it returns to the mode of before, and MIE is as before
abbrev pub Restores : Control → Mode → Control → Type 0
Restores before mode entered =
    (entered.status.mpp ≡ mode) × ((returned entered).status.mie ≡ before.status.mie)

-- what a register that was written with v reads
abbrev pub Reads : Control → Inputs → ℕ → Register → ℕ → Type 0
Reads c i v r word = shown (written c v r) i r ≡ word

-- the writable bits of v, for each register but mstatus that a write changes
pub record ReadsAsWritten (c : Control) (i : Inputs) (v : ℕ) : Type 0 where
  pub mie : Reads c i v Mie (bit_and v 0x888)
  pub mtvec : Reads c i v Mtvec (bit_and v 0xfffffffd)
  pub mcounteren : Reads c i v Mcounteren (bit_and v 7)
  pub mscratch : Reads c i v Mscratch v
  pub mepc : Reads c i v Mepc (bit_and v 0xfffffffc)
  pub mcause : Reads c i v Mcause v
  pub mtval : Reads c i v Mtval v
  pub mcycle : Reads c i v Mcycle v
  pub mcycleh : Reads c i v Mcycleh v
  pub minstret : Reads c i v Minstret v
  pub minstreth : Reads c i v Minstreth v
