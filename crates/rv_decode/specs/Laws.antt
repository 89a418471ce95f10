-- Each row's own word: its bits with its fields at their places (Unprivileged ISA, 2.2 Base
-- Instruction Formats and 2.3 Immediate Encoding Variants).
use Rattle.std.specs.Prelude.{ℕ, ◌+◌, ◌-◌, ◌*◌, ◌/◌, ◌%◌, ◌^◌, ◌<◌, ◌≡◌, ℤ, pos, negsuc, Some}
use Rattle.rv_decode.specs.declared.op.Op.{Op}
use Rattle.rv_decode.specs.declared.format.Format.TheVariants.{R, I, S, B, U, J, Shift, Csr, CsrImmediate, Plain}
use Rattle.rv_decode.specs.declared.ins.Ins.{Ins}
use Rattle.rv_decode.specs.Table.{Row}
use Rattle.rv_decode.specs.Fields.{field, decoded}

-- a signed number in two's complement of `count` bits
abbrev pub complement : ℕ → ℤ → ℕ
complement count (pos n) = n
complement count (negsuc n) = 2 ^ count - 1 - n

-- it has room there
abbrev pub HasRoom : ℕ → ℤ → Type 0
HasRoom count (pos n) = n < 2 ^ (count - 1)
HasRoom count (negsuc n) = n < 2 ^ (count - 1)

-- the row's bits with what stands in bits 7 to 11, 15 to 19, 20 to 24, and 25 to 31
abbrev pub placed : Row → ℕ → ℕ → ℕ → ℕ → ℕ
placed row rd rs1 rs2 top = row.bits + rd * 2 ^ 7 + rs1 * 2 ^ 15 + rs2 * 2 ^ 20 + top * 2 ^ 25

-- the same with what stands in bits 7 to 11, 15 to 19, and 20 to 31
abbrev pub placed_high : Row → ℕ → ℕ → ℕ → ℕ
placed_high row rd rs1 high = row.bits + rd * 2 ^ 7 + rs1 * 2 ^ 15 + high * 2 ^ 20

-- the same with what stands in bits 7 to 11, and 12 to 31
abbrev pub placed_above : Row → ℕ → ℕ → ℕ
placed_above row rd above = row.bits + rd * 2 ^ 7 + above * 2 ^ 12

-- the bits 12, 5 to 10 of an immediate in the format B, and its bits 1 to 4, 11
abbrev pub branch_high : ℕ → ℕ
branch_high imm = field imm 12 1 * 2 ^ 6 + field imm 5 6

abbrev pub branch_low : ℕ → ℕ
branch_low imm = field imm 1 4 * 2 + field imm 11 1

-- the bits 20, 1 to 10, 11, 12 to 19 of one in the format J
abbrev pub jump_bits : ℕ → ℕ
jump_bits imm =
    field imm 20 1 * 2 ^ 19 + field imm 1 10 * 2 ^ 9 + field imm 11 1 * 2 ^ 8 + field imm 12 8

abbrev pub ins : Op → ℕ → ℕ → ℕ → ℤ → ℕ → Ins
ins op rd rs1 rs2 imm csr =
    record { op = op; rd = rd; rs1 = rs1; rs2 = rs2; imm = imm; csr = csr }

-- a word of the row with these fields is the instruction with these fields, format by format
pub record DecodesItsWords (row : Row) : Type 0 where
  -- LR.W has no rs2, and its mask has that place
  pub r : row.format ≡ R → (rd rs1 rs2 : ℕ) → rd < 32 → rs1 < 32 → rs2 < 32
      → (row.mask ≡ 0xf9f0707f → rs2 ≡ 0)
      → decoded (placed row rd rs1 rs2 0) ≡ Some (ins row.op rd rs1 rs2 (pos 0) 0)
  pub i : row.format ≡ I → (rd rs1 : ℕ) (imm : ℤ) → rd < 32 → rs1 < 32 → HasRoom 12 imm
      → decoded (placed_high row rd rs1 (complement 12 imm)) ≡ Some (ins row.op rd rs1 0 imm 0)
  pub s : row.format ≡ S → (rs1 rs2 : ℕ) (imm : ℤ) → rs1 < 32 → rs2 < 32 → HasRoom 12 imm
      → decoded (placed row (complement 12 imm % 2 ^ 5) rs1 rs2 (complement 12 imm / 2 ^ 5))
      ≡ Some (ins row.op 0 rs1 rs2 imm 0)
  pub b : row.format ≡ B → (rs1 rs2 : ℕ) (imm : ℤ) → rs1 < 32 → rs2 < 32 → HasRoom 13 imm
      → complement 13 imm % 2 ≡ 0
      → decoded (placed row (branch_low (complement 13 imm)) rs1 rs2
      (branch_high (complement 13 imm)))
      ≡ Some (ins row.op 0 rs1 rs2 imm 0)
  pub u : row.format ≡ U → (rd : ℕ) (imm : ℤ) → rd < 32 → HasRoom 32 imm
      → complement 32 imm % 2 ^ 12 ≡ 0
      → decoded (placed_above row rd (complement 32 imm / 2 ^ 12))
      ≡ Some (ins row.op rd 0 0 imm 0)
  pub j : row.format ≡ J → (rd : ℕ) (imm : ℤ) → rd < 32 → HasRoom 21 imm
      → complement 21 imm % 2 ≡ 0
      → decoded (placed_above row rd (jump_bits (complement 21 imm)))
      ≡ Some (ins row.op rd 0 0 imm 0)
  pub shift : row.format ≡ Shift → (rd rs1 amount : ℕ) → rd < 32 → rs1 < 32 → amount < 32
      → decoded (placed row rd rs1 amount 0) ≡ Some (ins row.op rd rs1 0 (pos amount) 0)
  pub csr : row.format ≡ Csr → (rd rs1 number : ℕ) → rd < 32 → rs1 < 32 → number < 2 ^ 12
      → decoded (placed_high row rd rs1 number) ≡ Some (ins row.op rd rs1 0 (pos 0) number)
  pub csr_immediate : row.format ≡ CsrImmediate → (rd imm number : ℕ)
      → rd < 32 → imm < 32 → number < 2 ^ 12
      → decoded (placed_high row rd imm number) ≡ Some (ins row.op rd 0 0 (pos imm) number)
  pub plain : row.format ≡ Plain → decoded row.bits ≡ Some (ins row.op 0 0 0 (pos 0) 0)
