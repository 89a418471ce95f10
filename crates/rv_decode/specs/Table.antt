-- The 68 instructions (Unprivileged ISA, chapter 24 RV32/64G Instruction Set Listings; Privileged
-- ISA, 3.3 Machine-Mode Privileged Instructions).
use Rattle.std.specs.Prelude.{ℕ, Bool, List, [], ◌∷◌, ◌++◌, ◌==◌, bit_and, map, Option}
use Rattle.std.specs.List.{find}
use Rattle.rv_decode.specs.declared.op.Op.{Op}
use Rattle.rv_decode.specs.declared.op.Op.TheVariants.{Lui, Auipc, Jal, Jalr, Beq, Bne, Blt, Bge, Bltu, Bgeu, Lb, Lh, Lw, Lbu, Lhu, Sb, Sh, Sw, Addi, Slti, Sltiu, Xori, Ori, Andi, Fence, FenceI, Csrrw, Csrrs, Csrrc, Csrrwi, Csrrsi, Csrrci, Slli, Srli, Srai, Add, Sub, Sll, Slt, Sltu, Xor, Srl, Sra, Or, And, Mul, Mulh, Mulhsu, Mulhu, Div, Divu, Rem, Remu, Ecall, Ebreak, Mret, Wfi, LrW, ScW, AmoaddW, AmoswapW, AmoxorW, AmoorW, AmoandW, AmominW, AmomaxW, AmominuW, AmomaxuW}
use Rattle.rv_decode.specs.declared.format.Format.{Format}
use Rattle.rv_decode.specs.declared.format.Format.TheVariants as format

-- a row: a mask, the bits that a word has under it, the operation, and the format of the fields
pub record Row : Type 0 where
  pub mask : ℕ
  pub bits : ℕ
  pub op : Op
  pub format : Format

-- rows of one mask and one format
abbrev pub rows : ℕ → Format → List (ℕ × Op) → List Row
rows mask format entries =
    map (λ e. record { mask = mask; bits = e.0; op = e.1; format = format }) entries

-- told apart by the opcode
abbrev pub opcode_rows : List Row
opcode_rows = rows 0x7f format.U ((0x37, Lui) ∷ (0x17, Auipc) ∷ [])
    ++ rows 0x7f format.J ((0x6f, Jal) ∷ [])

-- by opcode and funct3
abbrev pub funct3_rows : List Row
funct3_rows = rows 0x707f format.I ((0x67, Jalr) ∷ [])
    ++ rows 0x707f format.B
    ((0x63, Beq) ∷ (0x1063, Bne) ∷ (0x4063, Blt) ∷ (0x5063, Bge) ∷ (0x6063, Bltu) ∷
    (0x7063, Bgeu) ∷ [])
    ++ rows 0x707f format.I
    ((0x3, Lb) ∷ (0x1003, Lh) ∷ (0x2003, Lw) ∷ (0x4003, Lbu) ∷ (0x5003, Lhu) ∷ [])
    ++ rows 0x707f format.S ((0x23, Sb) ∷ (0x1023, Sh) ∷ (0x2023, Sw) ∷ [])
    ++ rows 0x707f format.I
    ((0x13, Addi) ∷ (0x2013, Slti) ∷ (0x3013, Sltiu) ∷ (0x4013, Xori) ∷ (0x6013, Ori) ∷
    (0x7013, Andi) ∷ [])
    ++ rows 0x707f format.Plain ((0xf, Fence) ∷ (0x100f, FenceI) ∷ [])
    ++ rows 0x707f format.Csr ((0x1073, Csrrw) ∷ (0x2073, Csrrs) ∷ (0x3073, Csrrc) ∷ [])
    ++ rows 0x707f format.CsrImmediate
    ((0x5073, Csrrwi) ∷ (0x6073, Csrrsi) ∷ (0x7073, Csrrci) ∷ [])

-- by opcode, funct3 and funct7
abbrev pub funct7_rows : List Row
funct7_rows = rows 0xfe00707f format.Shift
    ((0x1013, Slli) ∷ (0x5013, Srli) ∷ (0x40005013, Srai) ∷ [])
    ++ rows 0xfe00707f format.R
    ((0x33, Add) ∷ (0x40000033, Sub) ∷ (0x1033, Sll) ∷ (0x2033, Slt) ∷ (0x3033, Sltu) ∷
    (0x4033, Xor) ∷ (0x5033, Srl) ∷ (0x40005033, Sra) ∷ (0x6033, Or) ∷ (0x7033, And) ∷
    (0x2000033, Mul) ∷ (0x2001033, Mulh) ∷ (0x2002033, Mulhsu) ∷ (0x2003033, Mulhu) ∷
    (0x2004033, Div) ∷ (0x2005033, Divu) ∷ (0x2006033, Rem) ∷ (0x2007033, Remu) ∷ [])

-- by the whole word
abbrev pub whole_rows : List Row
whole_rows = rows 0xffffffff format.Plain
    ((0x73, Ecall) ∷ (0x100073, Ebreak) ∷ (0x30200073, Mret) ∷ (0x10500073, Wfi) ∷ [])

-- LR.W, by all but rd, rs1 and the bits aq and rl
abbrev pub reserve_rows : List Row
reserve_rows = rows 0xf9f0707f format.R ((0x1000202f, LrW) ∷ [])

-- the other rows of A, by all but the registers and the bits aq and rl
abbrev pub atomic_rows : List Row
atomic_rows = rows 0xf800707f format.R
    ((0x1800202f, ScW) ∷ (0x202f, AmoaddW) ∷ (0x800202f, AmoswapW) ∷ (0x2000202f, AmoxorW) ∷
    (0x4000202f, AmoorW) ∷ (0x6000202f, AmoandW) ∷ (0x8000202f, AmominW) ∷
    (0xa000202f, AmomaxW) ∷ (0xc000202f, AmominuW) ∷ (0xe000202f, AmomaxuW) ∷ [])

-- the table
abbrev pub table : List Row
table =
    opcode_rows ++ (funct3_rows ++ (funct7_rows ++ (whole_rows ++ (reserve_rows ++ atomic_rows))))

-- a word matches a row where its bits under the mask are the row's
abbrev pub fits : ℕ → Row → Bool
fits w row = bit_and w row.mask == row.bits

-- the row of a word, if there is one
unfoldable pub row_of : ℕ → Option Row
row_of w = find (fits w) table
