-- An instruction needs the clock exactly where its load does.
use Rattle.std.proofs.Common.{◌≡◌, ◌≢◌, refl, sym, ap, ◌∙◌, ℕ, ◌%◌, ◌==◌, Bool, true, false, not, Option, Some, None, Result, Ok, Err, if◌then◌else◌, ◌&&◌}
use Rattle.rv_decode.specs.declared.ins.Ins.{Ins}
use Rattle.rv_decode.specs.declared.op.Op.{Op}
use Rattle.rv_decode.specs.declared.op.Op.TheVariants.{Lui, Auipc, Jal, Jalr, Beq, Bne, Blt, Bge, Bltu, Bgeu, Lb, Lh, Lw, Lbu, Lhu, Sb, Sh, Sw, Addi, Slti, Sltiu, Xori, Ori, Andi, Slli, Srli, Srai, Add, Sub, Sll, Slt, Sltu, Xor, Srl, Sra, Or, And, Mul, Mulh, Mulhsu, Mulhu, Div, Divu, Rem, Remu, Fence, FenceI, Ecall, Ebreak, Mret, Wfi, Csrrw, Csrrs, Csrrc, Csrrwi, Csrrsi, Csrrci, LrW, ScW, AmoaddW, AmoswapW, AmoxorW, AmoorW, AmoandW, AmominW, AmomaxW, AmominuW, AmomaxuW}
use Rattle.rv_csr.specs.declared.mode.Mode.{Mode}
use Rattle.rv_csr.specs.declared.mode.Mode.TheVariants.{U, M}
use Rattle.rv_csr.specs.declared.inputs.Inputs.{Inputs}
use Rattle.rv_csr.specs.Control.{Control}
use Rattle.rv_csr.specs.Table.{read_of, write_of}
use Rattle.rv_exec.specs.declared.bus.BusError.{BusError}
use Rattle.rv_exec.specs.declared.bus.BusError.TheVariants.{Fault, NeedClock as BusNeedsClock, NoMemory as BusNoMemory}
use Rattle.rv_exec.specs.declared.done.Done.{Done}
use Rattle.rv_exec.specs.declared.done.Done.TheVariants.{Retired, Trap, NeedClock, NoMemory}
use Rattle.rv_exec.specs.declared.hart.Hart.{Hart}
use Rattle.rv_exec.specs.declared.system.Change.{Change}
use Rattle.rv_exec.specs.declared.system.Change.TheVariants.{Write, Set, Clear}
use Rattle.rv_exec.specs.Answers.{Answers}
use Rattle.rv_exec.specs.Arithmetic.{sum, word, is_less_signed, without_bit_zero, extend_byte, extend_half}
use Rattle.std.specs.Prelude.{nat_lt}
use Rattle.rv_exec.specs.Registers.{register}
use Rattle.rv_exec.specs.Kinds.{changed, writes}
use Rattle.rv_exec.specs.Rows.{load_of, needs_clock, is_clock_error, is_need_clock, Local, Outcome, beside, jumps, branches, gets, loads, stores, in_ram, takes_reservation, reserves, is_reserved, stores_if_reserved, combined, swaps, modifies, puts_csr, exchanges, csr, calls, returns_from_trap, may_wait, waits, row, meaning, Reaches, Refuses, immediate}

abbrev pub Clockless : {B : Type 0} → Outcome B → Type 0
Clockless o = is_need_clock o.done ≡ false

if-local : {B : Type 0} (s : B) (b : Bool) (l k : Local) → Clockless (beside s l) → Clockless (beside s k) → Clockless (beside s (if b then l else k))
if-local s true l k p q = p
if-local s false l k p q = q

if-clock : {B : Type 0} (b : Bool) (o p : Outcome B) → Clockless o → Clockless p → Clockless (if b then o else p)
if-clock true o p x y = x
if-clock false o p x y = y

jumps-clock : {B : Type 0} (h : Hart) (s : B) (rd target : ℕ) → Clockless (beside s (jumps h rd target))
unfolding jumps
jumps-clock h s rd target = if-local s (target % 4 == 0) _ _ refl refl

branches-clock : {B : Type 0} (h : Hart) (s : B) (taken : Bool) (target : ℕ) → Clockless (beside s (branches h taken target))
unfolding branches
branches-clock h s true target = if-local s (target % 4 == 0) _ _ refl refl
branches-clock h s false target = refl

gets-clock : {B : Type 0} (h : Hart) (s after : B) (rd at : ℕ) (f : ℕ → ℕ) (a : Result ℕ BusError) → is_need_clock (gets h s after rd at f a).done ≡ is_clock_error a
gets-clock h s after rd at f (Ok value) = refl
gets-clock h s after rd at f (Err Fault) = refl
gets-clock h s after rd at f (Err BusNeedsClock) = refl
gets-clock h s after rd at f (Err BusNoMemory) = refl

if-and : {B : Type 0} (b c : Bool) (o p : Outcome B) → is_need_clock o.done ≡ c → is_need_clock p.done ≡ false → is_need_clock (if b then o else p).done ≡ (b && c)
if-and true c o p x y = x
if-and false c o p x y = y

loads-clock : {B : Type 0} (m : Answers B) (h : Hart) (s : B) (rd at size : ℕ) (f : ℕ → ℕ)
    → is_need_clock (loads m h s rd at size f).done ≡ ((at % size == 0) && is_clock_error (m.load s at size))
unfolding loads
loads-clock m h s rd at size f = if-and (at % size == 0) _ _ _ (gets-clock h s (m.loaded s at size) rd at f (m.load s at size)) refl

stores-clock : {B : Type 0} (m : Answers B) (h : Hart) (s : B) (at size value : ℕ) → Clockless (stores m h s at size value)
unfolding stores
stores-clock m h s at size value = if-clock (at % size == 0) _ _ (if-clock (m.can_store s at size) _ _ refl refl) refl

in-ram-clock : {B : Type 0} (m : Answers B) (h : Hart) (s : B) (at a b : ℕ) (o : Outcome B) → Clockless o → Clockless (in_ram m h s at a b o)
in-ram-clock m h s at a b o k = if-clock (at % 4 == 0) _ _ (if-clock (m.is_ram s at) _ _ k refl) refl

takes-clock : {B : Type 0} (h : Hart) (s : B) (rd at : ℕ) (a : Result ℕ BusError) → Clockless (takes_reservation h s rd at a)
takes-clock h s rd at (Ok value) = refl
takes-clock h s rd at (Err e) = refl

reserves-clock : {B : Type 0} (m : Answers B) (h : Hart) (s : B) (rd at : ℕ) → Clockless (reserves m h s rd at)
unfolding reserves
reserves-clock m h s rd at = in-ram-clock m h s at 4 5 _ (takes-clock h s rd at (m.load s at 4))

conditional-clock : {B : Type 0} (m : Answers B) (h : Hart) (s : B) (rd at value : ℕ) → Clockless (stores_if_reserved m h s rd at value)
unfolding stores_if_reserved
conditional-clock m h s rd at value = in-ram-clock m h s at 6 7 _ (if-clock (is_reserved h.reservation at) _ _ refl refl)

swaps-clock : {B : Type 0} (m : Answers B) (h : Hart) (s : B) (rd at : ℕ) (f : ℕ → ℕ) (a : Result ℕ BusError) → Clockless (swaps m h s rd at f a)
swaps-clock m h s rd at f (Ok old) = refl
swaps-clock m h s rd at f (Err e) = refl

modifies-clock : {B : Type 0} (m : Answers B) (h : Hart) (s : B) (rd at : ℕ) (f : ℕ → ℕ) → Clockless (modifies m h s rd at f)
unfolding modifies
modifies-clock m h s rd at f = in-ram-clock m h s at 6 7 _ (swaps-clock m h s rd at f (m.load s at 4))

puts-clock : {B : Type 0} (h : Hart) (s : B) (w rd old : ℕ) (c : Option Control) → Clockless (beside s (puts_csr h w rd old c))
puts-clock h s w rd old None = refl
puts-clock h s w rd old (Some c) = refl

exchanges-clock : {B : Type 0} (h : Hart) (s : B) (w : ℕ) (i : Ins) (change : Change) (source value : ℕ) (old : Option ℕ) → Clockless (beside s (exchanges h w i change source value old))
exchanges-clock h s w i change source value None = refl
exchanges-clock h s w i change source value (Some old) =
    if-local s (writes change source) _ _ (puts-clock h s w i.rd old (write_of h.csrs i.csr h.mode (changed change old value))) refl

csr-clock : {B : Type 0} (inputs : Inputs) (h : Hart) (s : B) (w : ℕ) (i : Ins) (change : Change) (source value : ℕ) → Clockless (beside s (csr inputs h w i change source value))
unfolding csr
csr-clock inputs h s w i change source value = exchanges-clock h s w i change source value (read_of h.csrs i.csr h.mode inputs)

calls-clock : {B : Type 0} (h : Hart) (s : B) (mode : Mode) → Clockless (beside s (calls h mode))
calls-clock h s U = refl
calls-clock h s M = refl

returns-clock : {B : Type 0} (h : Hart) (s : B) (w : ℕ) (mode : Mode) → Clockless (beside s (returns_from_trap h w mode))
unfolding returns_from_trap
returns-clock h s w U = refl
returns-clock h s w M = refl

waits-clock : {B : Type 0} (inputs : Inputs) (h : Hart) (s : B) (w : ℕ) → Clockless (beside s (waits inputs h w))
unfolding waits
waits-clock inputs h s w = if-local s (may_wait h.mode h.csrs) _ _ refl refl

row-clock : {B : Type 0} (m : Answers B) (h : Hart) (s : B) (i : Ins) (w : ℕ) (op : Op)
    → is_need_clock (row m h s i w op).done ≡ needs_clock m s (load_of h i op)
row-clock m h s i w Lui = refl
row-clock m h s i w Auipc = refl
row-clock m h s i w Jal = jumps-clock h s i.rd (sum h.pc (word i.imm))
row-clock m h s i w Jalr = jumps-clock h s i.rd (without_bit_zero (sum (register h.x i.rs1) (word i.imm)))
row-clock m h s i w Beq = branches-clock h s (register h.x i.rs1 == register h.x i.rs2) (sum h.pc (word i.imm))
row-clock m h s i w Bne = branches-clock h s (not (register h.x i.rs1 == register h.x i.rs2)) (sum h.pc (word i.imm))
row-clock m h s i w Blt = branches-clock h s (is_less_signed (register h.x i.rs1) (register h.x i.rs2)) (sum h.pc (word i.imm))
row-clock m h s i w Bge = branches-clock h s (not (is_less_signed (register h.x i.rs1) (register h.x i.rs2))) (sum h.pc (word i.imm))
row-clock m h s i w Bltu = branches-clock h s (nat_lt (register h.x i.rs1) (register h.x i.rs2)) (sum h.pc (word i.imm))
row-clock m h s i w Bgeu = branches-clock h s (not (nat_lt (register h.x i.rs1) (register h.x i.rs2))) (sum h.pc (word i.imm))
row-clock m h s i w Lb = loads-clock m h s i.rd (sum (register h.x i.rs1) (word i.imm)) 1 extend_byte
row-clock m h s i w Lh = loads-clock m h s i.rd (sum (register h.x i.rs1) (word i.imm)) 2 extend_half
row-clock m h s i w Lw = loads-clock m h s i.rd (sum (register h.x i.rs1) (word i.imm)) 4 (λ n. n)
row-clock m h s i w Lbu = loads-clock m h s i.rd (sum (register h.x i.rs1) (word i.imm)) 1 (λ n. n)
row-clock m h s i w Lhu = loads-clock m h s i.rd (sum (register h.x i.rs1) (word i.imm)) 2 (λ n. n)
row-clock m h s i w Sb = stores-clock m h s (sum (register h.x i.rs1) (word i.imm)) 1 (register h.x i.rs2 % 256)
row-clock m h s i w Sh = stores-clock m h s (sum (register h.x i.rs1) (word i.imm)) 2 (register h.x i.rs2 % 65536)
row-clock m h s i w Sw = stores-clock m h s (sum (register h.x i.rs1) (word i.imm)) 4 (register h.x i.rs2)
row-clock m h s i w Addi = refl
row-clock m h s i w Slti = refl
row-clock m h s i w Sltiu = refl
row-clock m h s i w Xori = refl
row-clock m h s i w Ori = refl
row-clock m h s i w Andi = refl
row-clock m h s i w Slli = refl
row-clock m h s i w Srli = refl
row-clock m h s i w Srai = refl
row-clock m h s i w Add = refl
row-clock m h s i w Sub = refl
row-clock m h s i w Sll = refl
row-clock m h s i w Slt = refl
row-clock m h s i w Sltu = refl
row-clock m h s i w Xor = refl
row-clock m h s i w Srl = refl
row-clock m h s i w Sra = refl
row-clock m h s i w Or = refl
row-clock m h s i w And = refl
row-clock m h s i w Mul = refl
row-clock m h s i w Mulh = refl
row-clock m h s i w Mulhsu = refl
row-clock m h s i w Mulhu = refl
row-clock m h s i w Div = refl
row-clock m h s i w Divu = refl
row-clock m h s i w Rem = refl
row-clock m h s i w Remu = refl
row-clock m h s i w Fence = refl
row-clock m h s i w FenceI = refl
row-clock m h s i w Ecall = calls-clock h s h.mode
row-clock m h s i w Ebreak = refl
row-clock m h s i w Mret = returns-clock h s w h.mode
row-clock m h s i w Wfi = waits-clock (m.inputs s) h s w
row-clock m h s i w Csrrw = csr-clock (m.inputs s) h s w i Write i.rs1 (register h.x i.rs1)
row-clock m h s i w Csrrs = csr-clock (m.inputs s) h s w i Set i.rs1 (register h.x i.rs1)
row-clock m h s i w Csrrc = csr-clock (m.inputs s) h s w i Clear i.rs1 (register h.x i.rs1)
row-clock m h s i w Csrrwi = csr-clock (m.inputs s) h s w i Write (immediate i) (immediate i)
row-clock m h s i w Csrrsi = csr-clock (m.inputs s) h s w i Set (immediate i) (immediate i)
row-clock m h s i w Csrrci = csr-clock (m.inputs s) h s w i Clear (immediate i) (immediate i)
row-clock m h s i w LrW = reserves-clock m h s i.rd (register h.x i.rs1)
row-clock m h s i w ScW = conditional-clock m h s i.rd (register h.x i.rs1) (register h.x i.rs2)
row-clock m h s i w AmoaddW = modifies-clock m h s i.rd (register h.x i.rs1) (λ old. combined AmoaddW old (register h.x i.rs2))
row-clock m h s i w AmoswapW = modifies-clock m h s i.rd (register h.x i.rs1) (λ old. combined AmoswapW old (register h.x i.rs2))
row-clock m h s i w AmoxorW = modifies-clock m h s i.rd (register h.x i.rs1) (λ old. combined AmoxorW old (register h.x i.rs2))
row-clock m h s i w AmoorW = modifies-clock m h s i.rd (register h.x i.rs1) (λ old. combined AmoorW old (register h.x i.rs2))
row-clock m h s i w AmoandW = modifies-clock m h s i.rd (register h.x i.rs1) (λ old. combined AmoandW old (register h.x i.rs2))
row-clock m h s i w AmominW = modifies-clock m h s i.rd (register h.x i.rs1) (λ old. combined AmominW old (register h.x i.rs2))
row-clock m h s i w AmomaxW = modifies-clock m h s i.rd (register h.x i.rs1) (λ old. combined AmomaxW old (register h.x i.rs2))
row-clock m h s i w AmominuW = modifies-clock m h s i.rd (register h.x i.rs1) (λ old. combined AmominuW old (register h.x i.rs2))
row-clock m h s i w AmomaxuW = modifies-clock m h s i.rd (register h.x i.rs1) (λ old. combined AmomaxuW old (register h.x i.rs2))

-- an instruction needs the clock exactly where it loads from a place that does
pub meaning-clock : {B : Type 0} (m : Answers B) (h : Hart) (s : B) (i : Ins) (w : ℕ)
    → is_need_clock (meaning m h s i w).done ≡ needs_clock m s (load_of h i i.op)
meaning-clock m h s i w = row-clock m h s i w i.op

-- an answer needs the clock exactly where the load does
pub answer-clock : {B : Type 0} (m : Answers B) (h : Hart) (s : B) (i : Ins) (w : ℕ) (done : Done) (h' : Hart) (s' : B)
    → (done ≢ NoMemory → Reaches (meaning m h s i w) done h' s')
    → (done ≡ NoMemory → Refuses (meaning m h s i w) h s h' s')
    → is_need_clock done ≡ needs_clock m s (load_of h i i.op)
answer-clock m h s i w (Retired idle) h' s' reaches refuses =
    ap is_need_clock (sym (reaches (λ e. cc)).0) ∙ meaning-clock m h s i w
answer-clock m h s i w (Trap cause value) h' s' reaches refuses =
    ap is_need_clock (sym (reaches (λ e. cc)).0) ∙ meaning-clock m h s i w
answer-clock m h s i w NeedClock h' s' reaches refuses =
    ap is_need_clock (sym (reaches (λ e. cc)).0) ∙ meaning-clock m h s i w
answer-clock m h s i w NoMemory h' s' reaches refuses =
    ap is_need_clock (sym (refuses refl).0) ∙ meaning-clock m h s i w
