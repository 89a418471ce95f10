-- An instruction meets no want of memory of its own: where no load does, none comes out.
use Rattle.std.proofs.Common.{◌≡◌, refl, ℕ, ◌%◌, ◌==◌, Bool, true, false, not, Option, Some, None, Result, Ok, Err, if◌then◌else◌}
use Rattle.rv_decode.specs.declared.ins.Ins.{Ins}
use Rattle.rv_decode.specs.declared.op.Op.{Op}
use Rattle.rv_decode.specs.declared.op.Op.TheVariants.{Lui, Auipc, Jal, Jalr, Beq, Bne, Blt, Bge, Bltu, Bgeu, Lb, Lh, Lw, Lbu, Lhu, Sb, Sh, Sw, Addi, Slti, Sltiu, Xori, Ori, Andi, Slli, Srli, Srai, Add, Sub, Sll, Slt, Sltu, Xor, Srl, Sra, Or, And, Mul, Mulh, Mulhsu, Mulhu, Div, Divu, Rem, Remu, Fence, FenceI, Ecall, Ebreak, Mret, Wfi, Csrrw, Csrrs, Csrrc, Csrrwi, Csrrsi, Csrrci, LrW, ScW, AmoaddW, AmoswapW, AmoxorW, AmoorW, AmoandW, AmominW, AmomaxW, AmominuW, AmomaxuW}
use Rattle.rv_csr.specs.declared.mode.Mode.{Mode}
use Rattle.rv_csr.specs.declared.mode.Mode.TheVariants.{U, M}
use Rattle.rv_csr.specs.declared.inputs.Inputs.{Inputs}
use Rattle.rv_csr.specs.Control.{Control}
use Rattle.rv_csr.specs.Table.{read_of, write_of}
use Rattle.rv_exec.specs.declared.bus.BusError.{BusError}
use Rattle.rv_exec.specs.declared.bus.BusError.TheVariants.{Fault, NeedClock as BusNeedsClock, NoMemory as BusNoMemory}
use Rattle.rv_exec.specs.declared.done.Done.{Done}
use Rattle.rv_exec.specs.declared.done.Done.TheVariants.{NoMemory}
use Rattle.rv_exec.specs.declared.hart.Hart.{Hart}
use Rattle.rv_exec.specs.Answers.{Answers}
use Rattle.rv_exec.specs.Arithmetic.{sum, word, is_less_signed, without_bit_zero, extend_byte, extend_half}
use Rattle.std.specs.Prelude.{nat_lt}
use Rattle.rv_exec.specs.Registers.{register}
use Rattle.rv_exec.specs.Kinds.{changed, writes}
use Rattle.rv_exec.specs.Rows.{Local, Outcome, beside, jumps, branches, gets, loads, stores, in_ram, takes_reservation, reserves, is_reserved, stores_if_reserved, combined, swaps, modifies, puts_csr, exchanges, csr, calls, returns_from_trap, may_wait, waits, row, meaning, immediate}

-- want of memory
abbrev pub is_refusal : Done → Bool
is_refusal NoMemory = true
is_refusal done = false

abbrev pub is_memory_error : Result ℕ BusError → Bool
is_memory_error (Err BusNoMemory) = true
is_memory_error answer = false

-- the outcome is no want of memory
abbrev pub Fed : {B : Type 0} → Outcome B → Type 0
Fed o = is_refusal o.done ≡ false

-- no load answers want of memory
abbrev pub LoadsFed : {B : Type 0} → Answers B → Type 0
LoadsFed {B} m = (s : B) (at size : ℕ) → is_memory_error (m.load s at size) ≡ false

if-local : {B : Type 0} (h : Hart) (s : B) (b : Bool) (l k : Local) → Fed (beside s l) → Fed (beside s k) → Fed (beside s (if b then l else k))
if-local h s true l k p q = p
if-local h s false l k p q = q

if-fed : {B : Type 0} (h : Hart) (s : B) (b : Bool) (o p : Outcome B) → Fed o → Fed p → Fed (if b then o else p)
if-fed h s true o p x y = x
if-fed h s false o p x y = y

jumps-fed : {B : Type 0} (h : Hart) (s : B) (rd target : ℕ) → Fed (beside s (jumps h rd target))
unfolding jumps
jumps-fed h s rd target = if-local h s (target % 4 == 0) _ _ refl refl

branches-fed : {B : Type 0} (h : Hart) (s : B) (taken : Bool) (target : ℕ) → Fed (beside s (branches h taken target))
unfolding branches
branches-fed h s true target = if-local h s (target % 4 == 0) _ _ refl refl
branches-fed h s false target = refl

gets-fed : {B : Type 0} (h : Hart) (s after : B) (rd at : ℕ) (f : ℕ → ℕ) (a : Result ℕ BusError) → is_memory_error a ≡ false → Fed (gets h s after rd at f a)
gets-fed h s after rd at f (Ok value) e = refl
gets-fed h s after rd at f (Err Fault) e = refl
gets-fed h s after rd at f (Err BusNeedsClock) e = refl
gets-fed h s after rd at f (Err BusNoMemory) e = cc

loads-fed : {B : Type 0} (m : Answers B) (fed : LoadsFed m) (h : Hart) (s : B) (rd at size : ℕ) (f : ℕ → ℕ) → Fed (loads m h s rd at size f)
unfolding loads
loads-fed m fed h s rd at size f = if-fed h s (at % size == 0) _ _ (gets-fed h s (m.loaded s at size) rd at f (m.load s at size) (fed s at size)) refl

stores-fed : {B : Type 0} (m : Answers B) (h : Hart) (s : B) (at size value : ℕ) → Fed (stores m h s at size value)
unfolding stores
stores-fed m h s at size value = if-fed h s (at % size == 0) _ _ (if-fed h s (m.can_store s at size) _ _ refl refl) refl

in-ram-fed : {B : Type 0} (m : Answers B) (h : Hart) (s : B) (at a b : ℕ) (o : Outcome B) → Fed o → Fed (in_ram m h s at a b o)
in-ram-fed m h s at a b o k = if-fed h s (at % 4 == 0) _ _ (if-fed h s (m.is_ram s at) _ _ k refl) refl

takes-fed : {B : Type 0} (h : Hart) (s : B) (rd at : ℕ) (a : Result ℕ BusError) → Fed (takes_reservation h s rd at a)
takes-fed h s rd at (Ok value) = refl
takes-fed h s rd at (Err e) = refl

reserves-fed : {B : Type 0} (m : Answers B) (h : Hart) (s : B) (rd at : ℕ) → Fed (reserves m h s rd at)
unfolding reserves
reserves-fed m h s rd at = in-ram-fed m h s at 4 5 _ (takes-fed h s rd at (m.load s at 4))

conditional-fed : {B : Type 0} (m : Answers B) (h : Hart) (s : B) (rd at value : ℕ) → Fed (stores_if_reserved m h s rd at value)
unfolding stores_if_reserved
conditional-fed m h s rd at value = in-ram-fed m h s at 6 7 _ (if-fed h s (is_reserved h.reservation at) _ _ refl refl)

swaps-fed : {B : Type 0} (m : Answers B) (h : Hart) (s : B) (rd at : ℕ) (f : ℕ → ℕ) (a : Result ℕ BusError) → Fed (swaps m h s rd at f a)
swaps-fed m h s rd at f (Ok old) = refl
swaps-fed m h s rd at f (Err e) = refl

modifies-fed : {B : Type 0} (m : Answers B) (h : Hart) (s : B) (rd at : ℕ) (f : ℕ → ℕ) → Fed (modifies m h s rd at f)
unfolding modifies
modifies-fed m h s rd at f = in-ram-fed m h s at 6 7 _ (swaps-fed m h s rd at f (m.load s at 4))

puts-fed : {B : Type 0} (h : Hart) (s : B) (w rd old : ℕ) (c : Option Control) → Fed (beside s (puts_csr h w rd old c))
puts-fed h s w rd old None = refl
puts-fed h s w rd old (Some c) = refl

exchanges-fed : {B : Type 0} (h : Hart) (s : B) (w : ℕ) (i : Ins) (change : _) (source value : ℕ) (old : Option ℕ) → Fed (beside s (exchanges h w i change source value old))
exchanges-fed h s w i change source value None = refl
exchanges-fed h s w i change source value (Some old) =
    if-local h s (writes change source) _ _ (puts-fed h s w i.rd old (write_of h.csrs i.csr h.mode (changed change old value))) refl

csr-fed : {B : Type 0} (inputs : Inputs) (h : Hart) (s : B) (w : ℕ) (i : Ins) (change : _) (source value : ℕ) → Fed (beside s (csr inputs h w i change source value))
unfolding csr
csr-fed inputs h s w i change source value = exchanges-fed h s w i change source value (read_of h.csrs i.csr h.mode inputs)

calls-fed : {B : Type 0} (h : Hart) (s : B) (mode : Mode) → Fed (beside s (calls h mode))
calls-fed h s U = refl
calls-fed h s M = refl

returns-fed : {B : Type 0} (h : Hart) (s : B) (w : ℕ) (mode : Mode) → Fed (beside s (returns_from_trap h w mode))
unfolding returns_from_trap
returns-fed h s w U = refl
returns-fed h s w M = refl

waits-fed : {B : Type 0} (inputs : Inputs) (h : Hart) (s : B) (w : ℕ) → Fed (beside s (waits inputs h w))
unfolding waits
waits-fed inputs h s w = if-local h s (may_wait h.mode h.csrs) _ _ refl refl

row-fed : {B : Type 0} (m : Answers B) (fed : LoadsFed m) (h : Hart) (s : B) (i : Ins) (w : ℕ) (op : Op) → Fed (row m h s i w op)
row-fed m fed h s i w Lui = refl
row-fed m fed h s i w Auipc = refl
row-fed m fed h s i w Jal = jumps-fed h s i.rd (sum h.pc (word i.imm))
row-fed m fed h s i w Jalr = jumps-fed h s i.rd (without_bit_zero (sum (register h.x i.rs1) (word i.imm)))
row-fed m fed h s i w Beq = branches-fed h s (register h.x i.rs1 == register h.x i.rs2) (sum h.pc (word i.imm))
row-fed m fed h s i w Bne = branches-fed h s (not (register h.x i.rs1 == register h.x i.rs2)) (sum h.pc (word i.imm))
row-fed m fed h s i w Blt = branches-fed h s (is_less_signed (register h.x i.rs1) (register h.x i.rs2)) (sum h.pc (word i.imm))
row-fed m fed h s i w Bge = branches-fed h s (not (is_less_signed (register h.x i.rs1) (register h.x i.rs2))) (sum h.pc (word i.imm))
row-fed m fed h s i w Bltu = branches-fed h s (nat_lt (register h.x i.rs1) (register h.x i.rs2)) (sum h.pc (word i.imm))
row-fed m fed h s i w Bgeu = branches-fed h s (not (nat_lt (register h.x i.rs1) (register h.x i.rs2))) (sum h.pc (word i.imm))
row-fed m fed h s i w Lb = loads-fed m fed h s i.rd (sum (register h.x i.rs1) (word i.imm)) 1 extend_byte
row-fed m fed h s i w Lh = loads-fed m fed h s i.rd (sum (register h.x i.rs1) (word i.imm)) 2 extend_half
row-fed m fed h s i w Lw = loads-fed m fed h s i.rd (sum (register h.x i.rs1) (word i.imm)) 4 (λ n. n)
row-fed m fed h s i w Lbu = loads-fed m fed h s i.rd (sum (register h.x i.rs1) (word i.imm)) 1 (λ n. n)
row-fed m fed h s i w Lhu = loads-fed m fed h s i.rd (sum (register h.x i.rs1) (word i.imm)) 2 (λ n. n)
row-fed m fed h s i w Sb = stores-fed m h s (sum (register h.x i.rs1) (word i.imm)) 1 (register h.x i.rs2 % 256)
row-fed m fed h s i w Sh = stores-fed m h s (sum (register h.x i.rs1) (word i.imm)) 2 (register h.x i.rs2 % 65536)
row-fed m fed h s i w Sw = stores-fed m h s (sum (register h.x i.rs1) (word i.imm)) 4 (register h.x i.rs2)
row-fed m fed h s i w Addi = refl
row-fed m fed h s i w Slti = refl
row-fed m fed h s i w Sltiu = refl
row-fed m fed h s i w Xori = refl
row-fed m fed h s i w Ori = refl
row-fed m fed h s i w Andi = refl
row-fed m fed h s i w Slli = refl
row-fed m fed h s i w Srli = refl
row-fed m fed h s i w Srai = refl
row-fed m fed h s i w Add = refl
row-fed m fed h s i w Sub = refl
row-fed m fed h s i w Sll = refl
row-fed m fed h s i w Slt = refl
row-fed m fed h s i w Sltu = refl
row-fed m fed h s i w Xor = refl
row-fed m fed h s i w Srl = refl
row-fed m fed h s i w Sra = refl
row-fed m fed h s i w Or = refl
row-fed m fed h s i w And = refl
row-fed m fed h s i w Mul = refl
row-fed m fed h s i w Mulh = refl
row-fed m fed h s i w Mulhsu = refl
row-fed m fed h s i w Mulhu = refl
row-fed m fed h s i w Div = refl
row-fed m fed h s i w Divu = refl
row-fed m fed h s i w Rem = refl
row-fed m fed h s i w Remu = refl
row-fed m fed h s i w Fence = refl
row-fed m fed h s i w FenceI = refl
row-fed m fed h s i w Ecall = calls-fed h s h.mode
row-fed m fed h s i w Ebreak = refl
row-fed m fed h s i w Mret = returns-fed h s w h.mode
row-fed m fed h s i w Wfi = waits-fed (m.inputs s) h s w
row-fed m fed h s i w Csrrw = csr-fed (m.inputs s) h s w i _ i.rs1 (register h.x i.rs1)
row-fed m fed h s i w Csrrs = csr-fed (m.inputs s) h s w i _ i.rs1 (register h.x i.rs1)
row-fed m fed h s i w Csrrc = csr-fed (m.inputs s) h s w i _ i.rs1 (register h.x i.rs1)
row-fed m fed h s i w Csrrwi = csr-fed (m.inputs s) h s w i _ (immediate i) (immediate i)
row-fed m fed h s i w Csrrsi = csr-fed (m.inputs s) h s w i _ (immediate i) (immediate i)
row-fed m fed h s i w Csrrci = csr-fed (m.inputs s) h s w i _ (immediate i) (immediate i)
row-fed m fed h s i w LrW = reserves-fed m h s i.rd (register h.x i.rs1)
row-fed m fed h s i w ScW = conditional-fed m h s i.rd (register h.x i.rs1) (register h.x i.rs2)
row-fed m fed h s i w AmoaddW = modifies-fed m h s i.rd (register h.x i.rs1) (λ old. combined AmoaddW old (register h.x i.rs2))
row-fed m fed h s i w AmoswapW = modifies-fed m h s i.rd (register h.x i.rs1) (λ old. combined AmoswapW old (register h.x i.rs2))
row-fed m fed h s i w AmoxorW = modifies-fed m h s i.rd (register h.x i.rs1) (λ old. combined AmoxorW old (register h.x i.rs2))
row-fed m fed h s i w AmoorW = modifies-fed m h s i.rd (register h.x i.rs1) (λ old. combined AmoorW old (register h.x i.rs2))
row-fed m fed h s i w AmoandW = modifies-fed m h s i.rd (register h.x i.rs1) (λ old. combined AmoandW old (register h.x i.rs2))
row-fed m fed h s i w AmominW = modifies-fed m h s i.rd (register h.x i.rs1) (λ old. combined AmominW old (register h.x i.rs2))
row-fed m fed h s i w AmomaxW = modifies-fed m h s i.rd (register h.x i.rs1) (λ old. combined AmomaxW old (register h.x i.rs2))
row-fed m fed h s i w AmominuW = modifies-fed m h s i.rd (register h.x i.rs1) (λ old. combined AmominuW old (register h.x i.rs2))
row-fed m fed h s i w AmomaxuW = modifies-fed m h s i.rd (register h.x i.rs1) (λ old. combined AmomaxuW old (register h.x i.rs2))

pub meaning-fed : {B : Type 0} (m : Answers B) (fed : LoadsFed m) (h : Hart) (s : B) (i : Ins) (w : ℕ) → Fed (meaning m h s i w)
meaning-fed m fed h s i w = row-fed m fed h s i w i.op
