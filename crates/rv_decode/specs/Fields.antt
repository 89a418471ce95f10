-- The fields of an instruction word, by its format (Unprivileged ISA, 2.2 Base Instruction Formats
-- and 2.3 Immediate Encoding Variants).
use Rattle.std.specs.Prelude.{ℕ, ◌<◌, ◌^◌, ◌/◌, ◌%◌, ◌*◌, ◌+◌, ◌-◌, ℤ, pos, negsuc, nat_lt, if◌then◌else◌, Option}
use Rattle.rv_decode.specs.declared.op.Op.{Op}
use Rattle.rv_decode.specs.declared.format.Format.{Format}
use Rattle.rv_decode.specs.declared.format.Format.TheVariants.{R, I, S, B, U, J, Shift, Csr, CsrImmediate, Plain}
use Rattle.rv_decode.specs.declared.ins.Ins.{Ins}
use Rattle.std.specs.Option.{option_map}
use Rattle.rv_decode.specs.Table.{row_of}

-- `count` bits of w from bit `low` on
abbrev pub field : ℕ → ℕ → ℕ → ℕ
field w low count = w / 2 ^ low % 2 ^ count

-- x, a number of `count` bits, read as a signed one in two's complement
abbrev pub signed : ℕ → ℕ → ℤ
signed count x = if nat_lt x (2 ^ (count - 1)) then pos x else negsuc (2 ^ count - 1 - x)

-- the register that is written
abbrev pub rd : ℕ → ℕ
rd w = field w 7 5

-- the registers that are read
abbrev pub rs1 : ℕ → ℕ
rs1 w = field w 15 5

abbrev pub rs2 : ℕ → ℕ
rs2 w = field w 20 5

-- the immediates, each extended by the sign in bit 31: I is bits 20 to 31
abbrev pub imm_i : ℕ → ℤ
imm_i w = signed 12 (field w 20 12)

-- S is bits 25 to 31, then 7 to 11
abbrev pub imm_s : ℕ → ℤ
imm_s w = signed 12 (field w 25 7 * 2 ^ 5 + field w 7 5)

-- B is bit 31, bit 7, bits 25 to 30, bits 8 to 11, then 0
abbrev pub imm_b : ℕ → ℤ
imm_b w =
    signed 13
    (field w 31 1 * 2 ^ 12 + field w 7 1 * 2 ^ 11 + (field w 25 6 * 2 ^ 5 + field w 8 4 * 2))

-- U is bits 12 to 31, then twelve zeros
abbrev pub imm_u : ℕ → ℤ
imm_u w = signed 32 (field w 12 20 * 2 ^ 12)

-- J is bit 31, bits 12 to 19, bit 20, bits 21 to 30, then 0
abbrev pub imm_j : ℕ → ℤ
imm_j w =
    signed 21
    (field w 31 1 * 2 ^ 20 + field w 12 8 * 2 ^ 12 + (field w 20 1 * 2 ^ 11 + field w 21 10 * 2))

-- the number of a control register
abbrev pub csr : ℕ → ℕ
csr w = field w 20 12

-- the instruction whose fields stand in w: those that the format lacks are 0
unfoldable pub fields : Op → Format → ℕ → Ins
fields op R w = record { op = op; rd = rd w; rs1 = rs1 w; rs2 = rs2 w; imm = pos 0; csr = 0 }
fields op I w = record { op = op; rd = rd w; rs1 = rs1 w; rs2 = 0; imm = imm_i w; csr = 0 }
fields op S w = record { op = op; rd = 0; rs1 = rs1 w; rs2 = rs2 w; imm = imm_s w; csr = 0 }
fields op B w = record { op = op; rd = 0; rs1 = rs1 w; rs2 = rs2 w; imm = imm_b w; csr = 0 }
fields op U w = record { op = op; rd = rd w; rs1 = 0; rs2 = 0; imm = imm_u w; csr = 0 }
fields op J w = record { op = op; rd = rd w; rs1 = 0; rs2 = 0; imm = imm_j w; csr = 0 }
fields op Shift w = record { op = op; rd = rd w; rs1 = rs1 w; rs2 = 0; imm = pos (rs2 w); csr = 0 }
fields op Csr w =
    record { op = op; rd = rd w; rs1 = rs1 w; rs2 = 0; imm = pos 0; csr = csr w }
fields op CsrImmediate w =
    record { op = op; rd = rd w; rs1 = 0; rs2 = 0; imm = pos (rs1 w); csr = csr w }
fields op Plain w = record { op = op; rd = 0; rs1 = 0; rs2 = 0; imm = pos 0; csr = 0 }

-- the instruction that a word is, if it is one
unfoldable pub decoded : ℕ → Option Ins
decoded w = option_map (λ row. fields row.op row.format w) (row_of w)

-- an instruction names registers from 0 to 31
pub record IsWithin (ins : Ins) : Type 0 where
  pub rd : ins.rd < 32
  pub rs1 : ins.rs1 < 32
  pub rs2 : ins.rs2 < 32
