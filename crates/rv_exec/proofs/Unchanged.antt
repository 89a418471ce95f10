-- What doesn't retire changes nothing.
use Rattle.std.proofs.Common.{◌≡◌, ◌≢◌, refl, sym, ◌∙◌, subst, ℕ, ◌%◌, ◌==◌, Bool, true, false, not, Option, Some, None, Result, Ok, Err, if◌then◌else◌}
use Rattle.rv_decode.specs.declared.ins.Ins.{Ins}
use Rattle.rv_decode.specs.declared.op.Op.{Op}
use Rattle.rv_decode.specs.declared.op.Op.TheVariants.{Lui, Auipc, Jal, Jalr, Beq, Bne, Blt, Bge, Bltu, Bgeu, Lb, Lh, Lw, Lbu, Lhu, Sb, Sh, Sw, Addi, Slti, Sltiu, Xori, Ori, Andi, Slli, Srli, Srai, Add, Sub, Sll, Slt, Sltu, Xor, Srl, Sra, Or, And, Mul, Mulh, Mulhsu, Mulhu, Div, Divu, Rem, Remu, Fence, FenceI, Ecall, Ebreak, Mret, Wfi, Csrrw, Csrrs, Csrrc, Csrrwi, Csrrsi, Csrrci, LrW, ScW, AmoaddW, AmoswapW, AmoxorW, AmoorW, AmoandW, AmominW, AmomaxW, AmominuW, AmomaxuW}
use Rattle.rv_csr.specs.declared.mode.Mode.{Mode}
use Rattle.rv_csr.specs.declared.mode.Mode.TheVariants.{U, M}
use Rattle.rv_csr.specs.declared.inputs.Inputs.{Inputs}
use Rattle.rv_csr.specs.Control.{Control}
use Rattle.rv_csr.specs.Table.{read_of, write_of}
use Rattle.rv_exec.specs.declared.bus.BusError.{BusError}
use Rattle.rv_exec.specs.declared.bus.BusError.TheVariants.{Fault, NeedClock as BusNeedsClock, NoMemory as BusNoMemory}
use Rattle.rv_exec.specs.declared.done.Done.{Done}
use Rattle.rv_exec.specs.declared.done.Done.TheVariants.{Retired, Trap, NeedClock, NoMemory}
use Rattle.rv_exec.specs.declared.hart.Hart.{Hart}
use Rattle.rv_exec.specs.declared.system.Change.{Change}
use Rattle.rv_exec.specs.declared.system.Change.TheVariants.{Write, Set, Clear}
use Rattle.rv_exec.specs.Answers.{Answers}
use Rattle.rv_exec.specs.Arithmetic.{sum, word, is_less_signed, without_bit_zero, extend_byte, extend_half}
use Rattle.std.specs.Prelude.{nat_lt}
use Rattle.rv_exec.specs.Registers.{register}
use Rattle.rv_exec.specs.Kinds.{changed, writes}
use Rattle.rv_exec.specs.Laws.{UnlessRetired}
use Rattle.rv_exec.specs.Rows.{Local, Outcome, beside, jumps, branches, gets, loads, stores, in_ram, takes_reservation, reserves, is_reserved, stores_if_reserved, combined, swaps, modifies, puts_csr, exchanges, csr, calls, returns_from_trap, may_wait, waits, row, meaning, Reaches, Refuses, immediate}

abbrev pub Kept : {B : Type 0} → Outcome B → Hart → B → Type 0
Kept o h s = UnlessRetired o.done ((o.hart ≡ h) × (o.bus ≡ s))

if-local : {B : Type 0} (h : Hart) (s : B) (b : Bool) (l k : Local) → Kept (beside s l) h s → Kept (beside s k) h s → Kept (beside s (if b then l else k)) h s
if-local h s true l k p q = p
if-local h s false l k p q = q

if-kept : {B : Type 0} (h : Hart) (s : B) (b : Bool) (o p : Outcome B) → Kept o h s → Kept p h s → Kept (if b then o else p) h s
if-kept h s true o p x y = x
if-kept h s false o p x y = y

jumps-kept : {B : Type 0} (h : Hart) (s : B) (rd target : ℕ) → Kept (beside s (jumps h rd target)) h s
unfolding jumps
jumps-kept h s rd target = if-local h s (target % 4 == 0) _ _ tt (refl, refl)

branches-kept : {B : Type 0} (h : Hart) (s : B) (taken : Bool) (target : ℕ) → Kept (beside s (branches h taken target)) h s
unfolding branches
branches-kept h s true target = if-local h s (target % 4 == 0) _ _ tt (refl, refl)
branches-kept h s false target = tt

gets-kept : {B : Type 0} (h : Hart) (s after : B) (rd at : ℕ) (f : ℕ → ℕ) (a : Result ℕ BusError) → Kept (gets h s after rd at f a) h s
gets-kept h s after rd at f (Ok value) = tt
gets-kept h s after rd at f (Err Fault) = (refl, refl)
gets-kept h s after rd at f (Err BusNeedsClock) = (refl, refl)
gets-kept h s after rd at f (Err BusNoMemory) = (refl, refl)

loads-kept : {B : Type 0} (m : Answers B) (h : Hart) (s : B) (rd at size : ℕ) (f : ℕ → ℕ) → Kept (loads m h s rd at size f) h s
unfolding loads
loads-kept m h s rd at size f = if-kept h s (at % size == 0) _ _ (gets-kept h s (m.loaded s at size) rd at f (m.load s at size)) (refl, refl)

stores-kept : {B : Type 0} (m : Answers B) (h : Hart) (s : B) (at size value : ℕ) → Kept (stores m h s at size value) h s
unfolding stores
stores-kept m h s at size value = if-kept h s (at % size == 0) _ _ (if-kept h s (m.can_store s at size) _ _ tt (refl, refl)) (refl, refl)

in-ram-kept : {B : Type 0} (m : Answers B) (h : Hart) (s : B) (at a b : ℕ) (o : Outcome B) → Kept o h s → Kept (in_ram m h s at a b o) h s
in-ram-kept m h s at a b o k = if-kept h s (at % 4 == 0) _ _ (if-kept h s (m.is_ram s at) _ _ k (refl, refl)) (refl, refl)

takes-kept : {B : Type 0} (h : Hart) (s : B) (rd at : ℕ) (a : Result ℕ BusError) → Kept (takes_reservation h s rd at a) h s
takes-kept h s rd at (Ok value) = tt
takes-kept h s rd at (Err e) = (refl, refl)

reserves-kept : {B : Type 0} (m : Answers B) (h : Hart) (s : B) (rd at : ℕ) → Kept (reserves m h s rd at) h s
unfolding reserves
reserves-kept m h s rd at = in-ram-kept m h s at 4 5 _ (takes-kept h s rd at (m.load s at 4))

conditional-kept : {B : Type 0} (m : Answers B) (h : Hart) (s : B) (rd at value : ℕ) → Kept (stores_if_reserved m h s rd at value) h s
unfolding stores_if_reserved
conditional-kept m h s rd at value = in-ram-kept m h s at 6 7 _ (if-kept h s (is_reserved h.reservation at) _ _ tt tt)

swaps-kept : {B : Type 0} (m : Answers B) (h : Hart) (s : B) (rd at : ℕ) (f : ℕ → ℕ) (a : Result ℕ BusError) → Kept (swaps m h s rd at f a) h s
swaps-kept m h s rd at f (Ok old) = tt
swaps-kept m h s rd at f (Err e) = (refl, refl)

modifies-kept : {B : Type 0} (m : Answers B) (h : Hart) (s : B) (rd at : ℕ) (f : ℕ → ℕ) → Kept (modifies m h s rd at f) h s
unfolding modifies
modifies-kept m h s rd at f = in-ram-kept m h s at 6 7 _ (swaps-kept m h s rd at f (m.load s at 4))

puts-kept : {B : Type 0} (h : Hart) (s : B) (w rd old : ℕ) (c : Option Control) → Kept (beside s (puts_csr h w rd old c)) h s
puts-kept h s w rd old None = (refl, refl)
puts-kept h s w rd old (Some c) = tt

exchanges-kept : {B : Type 0} (h : Hart) (s : B) (w : ℕ) (i : Ins) (change : Change) (source value : ℕ) (old : Option ℕ) → Kept (beside s (exchanges h w i change source value old)) h s
exchanges-kept h s w i change source value None = (refl, refl)
exchanges-kept h s w i change source value (Some old) =
    if-local h s (writes change source) _ _ (puts-kept h s w i.rd old (write_of h.csrs i.csr h.mode (changed change old value))) tt

csr-kept : {B : Type 0} (inputs : Inputs) (h : Hart) (s : B) (w : ℕ) (i : Ins) (change : Change) (source value : ℕ) → Kept (beside s (csr inputs h w i change source value)) h s
unfolding csr
csr-kept inputs h s w i change source value = exchanges-kept h s w i change source value (read_of h.csrs i.csr h.mode inputs)

calls-kept : {B : Type 0} (h : Hart) (s : B) (mode : Mode) → Kept (beside s (calls h mode)) h s
calls-kept h s U = (refl, refl)
calls-kept h s M = (refl, refl)

returns-kept : {B : Type 0} (h : Hart) (s : B) (w : ℕ) (mode : Mode) → Kept (beside s (returns_from_trap h w mode)) h s
unfolding returns_from_trap
returns-kept h s w U = (refl, refl)
returns-kept h s w M = tt

waits-kept : {B : Type 0} (inputs : Inputs) (h : Hart) (s : B) (w : ℕ) → Kept (beside s (waits inputs h w)) h s
unfolding waits
waits-kept inputs h s w = if-local h s (may_wait h.mode h.csrs) _ _ tt (refl, refl)

row-kept : {B : Type 0} (m : Answers B) (h : Hart) (s : B) (i : Ins) (w : ℕ) (op : Op) → Kept (row m h s i w op) h s
row-kept m h s i w Lui = tt
row-kept m h s i w Auipc = tt
row-kept m h s i w Jal = jumps-kept h s i.rd (sum h.pc (word i.imm))
row-kept m h s i w Jalr = jumps-kept h s i.rd (without_bit_zero (sum (register h.x i.rs1) (word i.imm)))
row-kept m h s i w Beq = branches-kept h s (register h.x i.rs1 == register h.x i.rs2) (sum h.pc (word i.imm))
row-kept m h s i w Bne = branches-kept h s (not (register h.x i.rs1 == register h.x i.rs2)) (sum h.pc (word i.imm))
row-kept m h s i w Blt = branches-kept h s (is_less_signed (register h.x i.rs1) (register h.x i.rs2)) (sum h.pc (word i.imm))
row-kept m h s i w Bge = branches-kept h s (not (is_less_signed (register h.x i.rs1) (register h.x i.rs2))) (sum h.pc (word i.imm))
row-kept m h s i w Bltu = branches-kept h s (nat_lt (register h.x i.rs1) (register h.x i.rs2)) (sum h.pc (word i.imm))
row-kept m h s i w Bgeu = branches-kept h s (not (nat_lt (register h.x i.rs1) (register h.x i.rs2))) (sum h.pc (word i.imm))
row-kept m h s i w Lb = loads-kept m h s i.rd (sum (register h.x i.rs1) (word i.imm)) 1 extend_byte
row-kept m h s i w Lh = loads-kept m h s i.rd (sum (register h.x i.rs1) (word i.imm)) 2 extend_half
row-kept m h s i w Lw = loads-kept m h s i.rd (sum (register h.x i.rs1) (word i.imm)) 4 (λ n. n)
row-kept m h s i w Lbu = loads-kept m h s i.rd (sum (register h.x i.rs1) (word i.imm)) 1 (λ n. n)
row-kept m h s i w Lhu = loads-kept m h s i.rd (sum (register h.x i.rs1) (word i.imm)) 2 (λ n. n)
row-kept m h s i w Sb = stores-kept m h s (sum (register h.x i.rs1) (word i.imm)) 1 (register h.x i.rs2 % 256)
row-kept m h s i w Sh = stores-kept m h s (sum (register h.x i.rs1) (word i.imm)) 2 (register h.x i.rs2 % 65536)
row-kept m h s i w Sw = stores-kept m h s (sum (register h.x i.rs1) (word i.imm)) 4 (register h.x i.rs2)
row-kept m h s i w Addi = tt
row-kept m h s i w Slti = tt
row-kept m h s i w Sltiu = tt
row-kept m h s i w Xori = tt
row-kept m h s i w Ori = tt
row-kept m h s i w Andi = tt
row-kept m h s i w Slli = tt
row-kept m h s i w Srli = tt
row-kept m h s i w Srai = tt
row-kept m h s i w Add = tt
row-kept m h s i w Sub = tt
row-kept m h s i w Sll = tt
row-kept m h s i w Slt = tt
row-kept m h s i w Sltu = tt
row-kept m h s i w Xor = tt
row-kept m h s i w Srl = tt
row-kept m h s i w Sra = tt
row-kept m h s i w Or = tt
row-kept m h s i w And = tt
row-kept m h s i w Mul = tt
row-kept m h s i w Mulh = tt
row-kept m h s i w Mulhsu = tt
row-kept m h s i w Mulhu = tt
row-kept m h s i w Div = tt
row-kept m h s i w Divu = tt
row-kept m h s i w Rem = tt
row-kept m h s i w Remu = tt
row-kept m h s i w Fence = tt
row-kept m h s i w FenceI = tt
row-kept m h s i w Ecall = calls-kept h s h.mode
row-kept m h s i w Ebreak = (refl, refl)
row-kept m h s i w Mret = returns-kept h s w h.mode
row-kept m h s i w Wfi = waits-kept (m.inputs s) h s w
row-kept m h s i w Csrrw = csr-kept (m.inputs s) h s w i Write i.rs1 (register h.x i.rs1)
row-kept m h s i w Csrrs = csr-kept (m.inputs s) h s w i Set i.rs1 (register h.x i.rs1)
row-kept m h s i w Csrrc = csr-kept (m.inputs s) h s w i Clear i.rs1 (register h.x i.rs1)
row-kept m h s i w Csrrwi = csr-kept (m.inputs s) h s w i Write (immediate i) (immediate i)
row-kept m h s i w Csrrsi = csr-kept (m.inputs s) h s w i Set (immediate i) (immediate i)
row-kept m h s i w Csrrci = csr-kept (m.inputs s) h s w i Clear (immediate i) (immediate i)
row-kept m h s i w LrW = reserves-kept m h s i.rd (register h.x i.rs1)
row-kept m h s i w ScW = conditional-kept m h s i.rd (register h.x i.rs1) (register h.x i.rs2)
row-kept m h s i w AmoaddW = modifies-kept m h s i.rd (register h.x i.rs1) (λ old. combined AmoaddW old (register h.x i.rs2))
row-kept m h s i w AmoswapW = modifies-kept m h s i.rd (register h.x i.rs1) (λ old. combined AmoswapW old (register h.x i.rs2))
row-kept m h s i w AmoxorW = modifies-kept m h s i.rd (register h.x i.rs1) (λ old. combined AmoxorW old (register h.x i.rs2))
row-kept m h s i w AmoorW = modifies-kept m h s i.rd (register h.x i.rs1) (λ old. combined AmoorW old (register h.x i.rs2))
row-kept m h s i w AmoandW = modifies-kept m h s i.rd (register h.x i.rs1) (λ old. combined AmoandW old (register h.x i.rs2))
row-kept m h s i w AmominW = modifies-kept m h s i.rd (register h.x i.rs1) (λ old. combined AmominW old (register h.x i.rs2))
row-kept m h s i w AmomaxW = modifies-kept m h s i.rd (register h.x i.rs1) (λ old. combined AmomaxW old (register h.x i.rs2))
row-kept m h s i w AmominuW = modifies-kept m h s i.rd (register h.x i.rs1) (λ old. combined AmominuW old (register h.x i.rs2))
row-kept m h s i w AmomaxuW = modifies-kept m h s i.rd (register h.x i.rs1) (λ old. combined AmomaxuW old (register h.x i.rs2))

pub unchanged : {B : Type 0} (m : Answers B) (h : Hart) (s : B) (i : Ins) (w : ℕ) (done : Done) (h' : Hart) (s' : B)
    → (done ≢ NoMemory → Reaches (meaning m h s i w) done h' s') → (done ≡ NoMemory → Refuses (meaning m h s i w) h s h' s')
    → UnlessRetired done ((h' ≡ h) × (s' ≡ s))
unchanged m h s i w (Retired idle) h' s' reaches refuses = tt
unchanged m h s i w (Trap cause value) h' s' reaches refuses =
    let r : Reaches (meaning m h s i w) (Trap cause value) h' s' = reaches (λ e. cc) in
    let k : (((meaning m h s i w).hart ≡ h) × ((meaning m h s i w).bus ≡ s)) =
    subst (λ d. UnlessRetired d (((meaning m h s i w).hart ≡ h) × ((meaning m h s i w).bus ≡ s))) r.0 (row-kept m h s i w i.op) in
    (sym r.1 ∙ k.0, sym r.2 ∙ k.1)
unchanged m h s i w NeedClock h' s' reaches refuses =
    let r : Reaches (meaning m h s i w) NeedClock h' s' = reaches (λ e. cc) in
    let k : (((meaning m h s i w).hart ≡ h) × ((meaning m h s i w).bus ≡ s)) =
    subst (λ d. UnlessRetired d (((meaning m h s i w).hart ≡ h) × ((meaning m h s i w).bus ≡ s))) r.0 (row-kept m h s i w i.op) in
    (sym r.1 ∙ k.0, sym r.2 ∙ k.1)
unchanged m h s i w NoMemory h' s' reaches refuses = let r = refuses refl in (r.1, r.2)
