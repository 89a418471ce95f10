-- What the control registers hold (Privileged ISA, 3.1 Machine-Level CSRs).
use Rattle.std.specs.Prelude.{ℕ, Bool, true, false, ◌^◌, ◌==◌}
use Rattle.std.specs.Int.{bit_at}
use Rattle.std.specs.Int.RustNames.{bit_or}
use Rattle.rv_csr.specs.declared.mode.Mode.{Mode}
use Rattle.rv_csr.specs.declared.mode.Mode.TheVariants.{U, M}

-- the fields of mstatus: the enable of interrupts and its earlier value, the earlier mode, the mode
-- of data accesses and the trap of WFI (3.1.6 Machine Status Registers)
pub record Status : Type 0 where
  pub mie : Bool
  pub mpie : Bool
  pub mpp : Mode
  pub mprv : Bool
  pub tw : Bool

-- all registers that hold something. The two marks say that this turn wrote half of that counter
pub record Control : Type 0 where
  pub status : Status
  pub mie : ℕ
  pub mtvec : ℕ
  pub mcounteren : ℕ
  pub mscratch : ℕ
  pub mepc : ℕ
  pub mcause : ℕ
  pub mtval : ℕ
  pub cycle : ℕ
  pub instret : ℕ
  pub cycle_written : Bool
  pub instret_written : Bool

-- bit k of a word
abbrev pub has_bit : ℕ → ℕ → Bool
has_bit word k = bit_at word k == 1

-- the word whose one bit k is set, or 0
abbrev pub bit_if : Bool → ℕ → ℕ
bit_if true k = 2 ^ k
bit_if false k = 0

-- MPP in its place, bits 11 and 12
abbrev pub mpp_bits : Mode → ℕ
mpp_bits M = 6144
mpp_bits U = 0

-- mstatus as a word: MIE is bit 3, MPIE 7, MPRV 17 and TW 21
abbrev pub status_word : Status → ℕ
status_word s =
    bit_or
    (bit_or
    (bit_or (bit_or (bit_if s.mie 3) (bit_if s.mpie 7)) (mpp_bits s.mpp))
    (bit_if s.mprv 17))
    (bit_if s.tw 21)

-- all is 0 at reset (3.4 Reset leaves open what is not named)
abbrev pub reset : Control
reset = record {
  status = record { mie = false; mpie = false; mpp = U; mprv = false; tw = false };
  mie = 0;
  mtvec = 0;
  mcounteren = 0;
  mscratch = 0;
  mepc = 0;
  mcause = 0;
  mtval = 0;
  cycle = 0;
  instret = 0;
  cycle_written = false;
  instret_written = false;
}
