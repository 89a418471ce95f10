-- Rows that change no control register and read none.
use Rattle.std.specs.Prelude.{ℕ, Bool, true, false, ◌≡◌, ◌%◌, Option, Some, None}
use Rattle.rv_decode.specs.declared.op.Op.{Op}
use Rattle.rv_decode.specs.declared.op.Op.TheVariants.{Lui, Auipc, Jal, Jalr, Beq, Bne, Blt, Bge, Bltu, Bgeu, Lb, Lh, Lw, Lbu, Lhu, Sb, Sh, Sw, Addi, Slti, Sltiu, Xori, Ori, Andi, Slli, Srli, Srai, Add, Sub, Sll, Slt, Sltu, Xor, Srl, Sra, Or, And, Mul, Mulh, Mulhsu, Mulhu, Div, Divu, Rem, Remu, Fence, FenceI, LrW, ScW, AmoaddW, AmoswapW, AmoxorW, AmoorW, AmoandW, AmominW, AmomaxW, AmominuW, AmomaxuW}
use Rattle.rv_exec.specs.declared.done.Done.TheVariants.{Retired}
use Rattle.rv_exec.specs.declared.hart.Hart.{Hart}
use Rattle.rv_exec.specs.Rows.{Local, Outcome, Reaches}

-- all but those on control registers, calls, returns and waits
abbrev pub is_plain : Op → Bool
is_plain Lui = true
is_plain Auipc = true
is_plain Jal = true
is_plain Jalr = true
is_plain Beq = true
is_plain Bne = true
is_plain Blt = true
is_plain Bge = true
is_plain Bltu = true
is_plain Bgeu = true
is_plain Lb = true
is_plain Lh = true
is_plain Lw = true
is_plain Lbu = true
is_plain Lhu = true
is_plain Sb = true
is_plain Sh = true
is_plain Sw = true
is_plain Addi = true
is_plain Slti = true
is_plain Sltiu = true
is_plain Xori = true
is_plain Ori = true
is_plain Andi = true
is_plain Slli = true
is_plain Srli = true
is_plain Srai = true
is_plain Add = true
is_plain Sub = true
is_plain Sll = true
is_plain Slt = true
is_plain Sltu = true
is_plain Xor = true
is_plain Srl = true
is_plain Sra = true
is_plain Or = true
is_plain And = true
is_plain Mul = true
is_plain Mulh = true
is_plain Mulhsu = true
is_plain Mulhu = true
is_plain Div = true
is_plain Divu = true
is_plain Rem = true
is_plain Remu = true
is_plain Fence = true
is_plain FenceI = true
is_plain LrW = true
is_plain ScW = true
is_plain AmoaddW = true
is_plain AmoswapW = true
is_plain AmoxorW = true
is_plain AmoorW = true
is_plain AmoandW = true
is_plain AmominW = true
is_plain AmomaxW = true
is_plain AmominuW = true
is_plain AmomaxuW = true
is_plain op = false

-- the hart with its pc elsewhere
abbrev pub at_pc : Hart → ℕ → Hart
at_pc h pc = record h { pc = pc }

-- an address of an instruction
abbrev pub IsAligned : ℕ → Type 0
IsAligned pc = pc % 4 ≡ 0

-- the instruction retired, and its hart goes on at that pc, or nothing changed
abbrev pub GoesOn : {B : Type 0} → Outcome B → Hart → B → Option ℕ → Hart → B → Type 0
GoesOn o h s (Some next) h' s' = Reaches o (Retired false) (at_pc h' next) s'
GoesOn o h s None h' s' = (h' ≡ h) × (s' ≡ s)

abbrev pub GoesOnLocal : Local → Hart → Option ℕ → Hart → Type 0
GoesOnLocal l h (Some next) h' = (l.done ≡ Retired false) × (l.hart ≡ at_pc h' next)
GoesOnLocal l h None h' = h' ≡ h
