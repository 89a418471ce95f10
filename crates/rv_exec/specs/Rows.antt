-- The meaning of each instruction: what it answers, and the hart and the bus after it (Unprivileged
-- ISA, chapters 2, 3 and 7 to 9; Privileged ISA, 3.3 Machine-Mode Privileged Instructions).
use Rattle.std.specs.Prelude.{◌&&◌, ℕ, Bool, true, false, ◌≡◌, ◌/◌, ◌%◌, ◌^◌, ◌==◌, not, nat_lt, min, max, Option, Some, None, Result, Ok, Err, if◌then◌else◌}
use Rattle.std.specs.Int.RustNames.{bit_and, bit_or, bit_xor}
use Rattle.rv_decode.specs.declared.ins.Ins.{Ins}
use Rattle.rv_decode.specs.declared.op.Op.{Op}
use Rattle.rv_decode.specs.declared.op.Op.TheVariants.{Lui, Auipc, Jal, Jalr, Beq, Bne, Blt, Bge, Bltu, Bgeu, Lb, Lh, Lw, Lbu, Lhu, Sb, Sh, Sw, Addi, Slti, Sltiu, Xori, Ori, Andi, Slli, Srli, Srai, Add, Sub, Sll, Slt, Sltu, Xor, Srl, Sra, Or, And, Mul, Mulh, Mulhsu, Mulhu, Div, Divu, Rem, Remu, Fence, FenceI, Ecall, Ebreak, Mret, Wfi, Csrrw, Csrrs, Csrrc, Csrrwi, Csrrsi, Csrrci, LrW, ScW, AmoaddW, AmoswapW, AmoxorW, AmoorW, AmoandW, AmominW, AmomaxW, AmominuW, AmomaxuW}
use Rattle.rv_csr.specs.declared.mode.Mode.{Mode}
use Rattle.rv_csr.specs.declared.mode.Mode.TheVariants.{U, M}
use Rattle.rv_csr.specs.declared.inputs.Inputs.{Inputs}
use Rattle.rv_csr.specs.Control.{Control}
use Rattle.rv_csr.specs.Table.{read_of, write_of}
use Rattle.rv_csr.specs.Traps.{returned, is_wanted}
use Rattle.rv_exec.specs.declared.bus.BusError.{BusError}
use Rattle.rv_exec.specs.declared.bus.BusError.TheVariants.{Fault, NeedClock as BusNeedsClock, NoMemory as BusNoMemory}
use Rattle.rv_exec.specs.declared.done.Done.{Done}
use Rattle.rv_exec.specs.declared.done.Done.TheVariants.{Retired, Trap, NeedClock, NoMemory}
use Rattle.rv_exec.specs.declared.hart.Hart.{Hart}
use Rattle.rv_exec.specs.Answers.{Answers}
use Rattle.rv_exec.specs.Registers.{register, with_register}
use Rattle.rv_exec.specs.declared.system.Change.{Change}
use Rattle.rv_exec.specs.declared.system.Change.TheVariants.{Write, Set, Clear}
use Rattle.rv_exec.specs.Kinds.{changed, writes}
use Rattle.rv_exec.specs.Arithmetic.{word, sum, difference, one_if, is_less_signed, shift_left, shift_right, shift_right_signed, product_low, product_high, product_high_mixed, product_high_unsigned, quotient, quotient_unsigned, remainder, remainder_unsigned, extend_byte, extend_half, min_signed, max_signed, without_bit_zero}

-- what an instruction without an access to the bus comes to
pub record Local : Type 0 where
  pub done : Done
  pub hart : Hart

-- what an instruction comes to
pub record Outcome (B : Type 0) : Type 0 where
  pub done : Done
  pub hart : Hart
  pub bus : B

-- what such an instruction comes to, the bus being as it was
abbrev pub beside : {B : Type 0} → B → Local → Outcome B
beside s l = record { done = l.done; hart = l.hart; bus = s }

-- ---- what rows have in common

-- the hart after an instruction that the next one follows
abbrev pub stepped : Hart → Hart
stepped h = record h { pc = sum h.pc 4 }

-- the same with a value for a register
abbrev pub given : Hart → ℕ → ℕ → Hart
given h rd value = record h { pc = sum h.pc 4; x = with_register h.x rd value }

-- the hart after a jump that links the next instruction
abbrev pub linked : Hart → ℕ → ℕ → Hart
linked h rd target = record h { pc = target; x = with_register h.x rd (sum h.pc 4) }

-- the instruction retires, and the next one follows
abbrev pub steps : Hart → Local
steps h = record { done = Retired false; hart = stepped h }

-- the instruction retires with a value for a register
abbrev pub retires : Hart → ℕ → ℕ → Local
retires h rd value = record { done = Retired false; hart = given h rd value }

-- a trap changes nothing here
abbrev pub traps : Hart → ℕ → ℕ → Local
traps h cause value = record { done = Trap cause value; hart = h }

-- a jump links the next instruction. To a target that is no multiple of 4 it traps with cause 0
-- (2.5 Control Transfer Instructions)
unfoldable pub jumps : Hart → ℕ → ℕ → Local
jumps h rd target =
    if target % 4 == 0
    then record { done = Retired false; hart = linked h rd target }
    else traps h 0 target

-- a branch that is taken goes to its target, and traps as a jump does (2.5.2 Conditional Branches)
unfoldable pub branches : Hart → Bool → ℕ → Local
branches h taken target =
    if taken
    then (if target % 4 == 0
    then record { done = Retired false; hart = record h { pc = target } }
    else traps h 0 target)
    else steps h

-- ---- loads and stores

-- what the bus's answer to a load makes of the hart and the bus
abbrev pub gets : {B : Type 0} → Hart → B → B → ℕ → ℕ → (ℕ → ℕ) → Result ℕ BusError → Outcome B
gets h s after rd at f (Ok value) = beside after (retires h rd (f value))
gets h s after rd at f (Err Fault) = beside s (traps h 5 at)
gets h s after rd at f (Err BusNeedsClock) = record { done = NeedClock; hart = h; bus = s }
gets h s after rd at f (Err BusNoMemory) = record { done = NoMemory; hart = h; bus = s }

-- a load traps with cause 4 where it is misaligned, and with cause 5 at a fault (2.6 Load and Store
-- Instructions)
unfoldable pub loads : {B : Type 0} → Answers B → Hart → B → ℕ → ℕ → ℕ → (ℕ → ℕ) → Outcome B
loads m h s rd at size f =
    if at % size == 0
    then gets h s (m.loaded s at size) rd at f (m.load s at size)
    else beside s (traps h 4 at)

-- a store into the word at the reservation removes it
abbrev pub kept_by_store : Option ℕ → ℕ → Option ℕ
kept_by_store None at = None
kept_by_store (Some r) at = if r / 4 == at / 4 then None else Some r

-- the hart after a store
abbrev pub stored_at : Hart → ℕ → Hart
stored_at h at = record h { pc = sum h.pc 4; reservation = kept_by_store h.reservation at }

-- a store traps with cause 6 where it is misaligned, and with cause 7 at a fault (2.6)
unfoldable pub stores : {B : Type 0} → Answers B → Hart → B → ℕ → ℕ → ℕ → Outcome B
stores m h s at size value =
    if at % size == 0
    then (if m.can_store s at size
    then record { done = Retired false; hart = stored_at h at; bus = m.stored s at size value }
    else beside s (traps h 7 at))
    else beside s (traps h 6 at)

-- ---- atomic accesses, which need RAM

-- an access to a word of RAM, by the first check that fails
abbrev pub in_ram : {B : Type 0} → Answers B → Hart → B → ℕ → ℕ → ℕ → Outcome B → Outcome B
in_ram m h s at misaligned outside access =
    if at % 4 == 0
    then (if m.is_ram s at then access else beside s (traps h outside at))
    else beside s (traps h misaligned at)

-- LR.W gives the word and reserves its address (8.2 Load-Reserved/Store-Conditional Instructions)
abbrev pub takes_reservation : {B : Type 0} → Hart → B → ℕ → ℕ → Result ℕ BusError → Outcome B
takes_reservation h s rd at (Ok value) =
    beside s (retires (record h { reservation = Some at }) rd value)
takes_reservation h s rd at (Err e) = beside s (traps h 5 at)

-- LR.W is a load of RAM
unfoldable pub reserves : {B : Type 0} → Answers B → Hart → B → ℕ → ℕ → Outcome B
reserves m h s rd at = in_ram m h s at 4 5 (takes_reservation h s rd at (m.load s at 4))

-- the reservation is at this address
abbrev pub is_reserved : Option ℕ → ℕ → Bool
is_reserved None at = false
is_reserved (Some r) at = r == at

-- the hart without a reservation
abbrev pub without_reservation : Hart → Hart
without_reservation h = record h { reservation = None }

-- SC.W stores and gives 0 where the address is reserved, and else gives 1. Either way the
-- reservation is gone (8.2)
unfoldable pub stores_if_reserved : {B : Type 0} → Answers B → Hart → B → ℕ → ℕ → ℕ → Outcome B
stores_if_reserved m h s rd at value =
    in_ram m h s at 6 7
    (if is_reserved h.reservation at
    then beside (m.stored s at 4 value) (retires (without_reservation h) rd 0)
    else beside s (retires (without_reservation h) rd 1))

-- what an atomic row writes back, of the old word and b (8.4 Atomic Memory Operations)
abbrev pub combined : Op → ℕ → ℕ → ℕ
combined AmoaddW old b = sum old b
combined AmoxorW old b = bit_xor old b
combined AmoorW old b = bit_or old b
combined AmoandW old b = bit_and old b
combined AmominW old b = min_signed old b
combined AmomaxW old b = max_signed old b
combined AmominuW old b = min old b
combined AmomaxuW old b = max old b
combined op old b = b

-- the old word goes to the register, and what is made of it back to the memory
abbrev pub swaps : {B : Type 0}
    → Answers B → Hart → B → ℕ → ℕ → (ℕ → ℕ) → Result ℕ BusError → Outcome B
swaps m h s rd at f (Ok old) =
    beside (m.stored s at 4 (f old))
    (retires (record h { reservation = kept_by_store h.reservation at }) rd old)
swaps m h s rd at f (Err e) = beside s (traps h 7 at)

-- an atomic row is a load and a store of RAM, and traps as a store does
unfoldable pub modifies : {B : Type 0} → Answers B → Hart → B → ℕ → ℕ → (ℕ → ℕ) → Outcome B
modifies m h s rd at f = in_ram m h s at 6 7 (swaps m h s rd at f (m.load s at 4))

-- ---- control registers

-- an illegal instruction traps with cause 2 and its word
abbrev pub is_illegal : Hart → ℕ → Local
is_illegal h word = traps h 2 word

-- a refused write is illegal
abbrev pub puts_csr : Hart → ℕ → ℕ → ℕ → Option Control → Local
puts_csr h word rd old None = is_illegal h word
puts_csr h word rd old (Some c) = retires (record h { csrs = c }) rd old

-- the old value goes to the register, and what the row makes of it to the control register (9.1 CSR
-- Instructions)
abbrev pub exchanges : Hart → ℕ → Ins → Change → ℕ → ℕ → Option ℕ → Local
exchanges h word i change source value None = is_illegal h word
exchanges h word i change source value (Some old) =
    if writes change source
    then puts_csr h word i.rd old (write_of h.csrs i.csr h.mode (changed change old value))
    else retires h i.rd old

-- a row on a control register reads first
unfoldable pub csr : Inputs → Hart → ℕ → Ins → Change → ℕ → ℕ → Local
csr inputs h word i change source value =
    exchanges h word i change source value (read_of h.csrs i.csr h.mode inputs)

-- ---- calls, returns and waits

-- ECALL traps with cause 8 in U and 11 in M (3.3.1 Environment Call and Breakpoint)
abbrev pub calls : Hart → Mode → Local
calls h U = traps h 8 0
calls h M = traps h 11 0

-- MRET is illegal in U (3.3.2 Trap-Return Instructions)
unfoldable pub returns_from_trap : Hart → ℕ → Mode → Local
returns_from_trap h word U = is_illegal h word
returns_from_trap h word M =
    record {
      done = Retired false;
      hart = record h { pc = h.csrs.mepc; mode = h.csrs.status.mpp; csrs = returned h.csrs };
    }

-- WFI is illegal in U where TW is set (3.1.6.5 Virtualization Support in mstatus Register)
abbrev pub may_wait : Mode → Control → Bool
may_wait M c = true
may_wait U c = not c.status.tw

-- WFI retires, and the hart is idle where no interrupt is pending and enabled (3.3.3 Wait for
-- Interrupt)
unfoldable pub waits : Inputs → Hart → ℕ → Local
waits inputs h word =
    if may_wait h.mode h.csrs
    then record { done = Retired (not (is_wanted h.csrs inputs)); hart = stepped h }
    else is_illegal h word

-- ---- the rows

-- the operands of a row: the values of rs1 and rs2, and the immediate as a word
abbrev pub first : Hart → Ins → ℕ
first h i = register h.x i.rs1

abbrev pub second : Hart → Ins → ℕ
second h i = register h.x i.rs2

abbrev pub immediate : Ins → ℕ
immediate i = word i.imm

-- the address of an access, and the target of a jump or branch
abbrev pub address : Hart → Ins → ℕ
address h i = sum (first h i) (immediate i)

abbrev pub target : Hart → Ins → ℕ
target h i = sum h.pc (immediate i)

-- what a row means. The word plays a part only in the value of a trap
abbrev pub row : {B : Type 0} → Answers B → Hart → B → Ins → ℕ → Op → Outcome B
row m h s i w Lui = beside s (retires h i.rd (immediate i))
row m h s i w Auipc = beside s (retires h i.rd (target h i))
row m h s i w Jal = beside s (jumps h i.rd (target h i))
row m h s i w Jalr = beside s (jumps h i.rd (without_bit_zero (address h i)))
row m h s i w Beq = beside s (branches h (first h i == second h i) (target h i))
row m h s i w Bne = beside s (branches h (not (first h i == second h i)) (target h i))
row m h s i w Blt = beside s (branches h (is_less_signed (first h i) (second h i)) (target h i))
row m h s i w Bge =
    beside s (branches h (not (is_less_signed (first h i) (second h i))) (target h i))
row m h s i w Bltu = beside s (branches h (nat_lt (first h i) (second h i)) (target h i))
row m h s i w Bgeu = beside s (branches h (not (nat_lt (first h i) (second h i))) (target h i))
row m h s i w Lb = loads m h s i.rd (address h i) 1 extend_byte
row m h s i w Lh = loads m h s i.rd (address h i) 2 extend_half
row m h s i w Lw = loads m h s i.rd (address h i) 4 (λ n. n)
row m h s i w Lbu = loads m h s i.rd (address h i) 1 (λ n. n)
row m h s i w Lhu = loads m h s i.rd (address h i) 2 (λ n. n)
row m h s i w Sb = stores m h s (address h i) 1 (second h i % 2 ^ 8)
row m h s i w Sh = stores m h s (address h i) 2 (second h i % 2 ^ 16)
row m h s i w Sw = stores m h s (address h i) 4 (second h i)
row m h s i w Addi = beside s (retires h i.rd (address h i))
row m h s i w Slti = beside s (retires h i.rd (one_if (is_less_signed (first h i) (immediate i))))
row m h s i w Sltiu = beside s (retires h i.rd (one_if (nat_lt (first h i) (immediate i))))
row m h s i w Xori = beside s (retires h i.rd (bit_xor (first h i) (immediate i)))
row m h s i w Ori = beside s (retires h i.rd (bit_or (first h i) (immediate i)))
row m h s i w Andi = beside s (retires h i.rd (bit_and (first h i) (immediate i)))
row m h s i w Slli = beside s (retires h i.rd (shift_left (first h i) (immediate i)))
row m h s i w Srli = beside s (retires h i.rd (shift_right (first h i) (immediate i)))
row m h s i w Srai = beside s (retires h i.rd (shift_right_signed (first h i) (immediate i)))
row m h s i w Add = beside s (retires h i.rd (sum (first h i) (second h i)))
row m h s i w Sub = beside s (retires h i.rd (difference (first h i) (second h i)))
row m h s i w Sll = beside s (retires h i.rd (shift_left (first h i) (second h i)))
row m h s i w Slt = beside s (retires h i.rd (one_if (is_less_signed (first h i) (second h i))))
row m h s i w Sltu = beside s (retires h i.rd (one_if (nat_lt (first h i) (second h i))))
row m h s i w Xor = beside s (retires h i.rd (bit_xor (first h i) (second h i)))
row m h s i w Srl = beside s (retires h i.rd (shift_right (first h i) (second h i)))
row m h s i w Sra = beside s (retires h i.rd (shift_right_signed (first h i) (second h i)))
row m h s i w Or = beside s (retires h i.rd (bit_or (first h i) (second h i)))
row m h s i w And = beside s (retires h i.rd (bit_and (first h i) (second h i)))
row m h s i w Mul = beside s (retires h i.rd (product_low (first h i) (second h i)))
row m h s i w Mulh = beside s (retires h i.rd (product_high (first h i) (second h i)))
row m h s i w Mulhsu = beside s (retires h i.rd (product_high_mixed (first h i) (second h i)))
row m h s i w Mulhu = beside s (retires h i.rd (product_high_unsigned (first h i) (second h i)))
row m h s i w Div = beside s (retires h i.rd (quotient (first h i) (second h i)))
row m h s i w Divu = beside s (retires h i.rd (quotient_unsigned (first h i) (second h i)))
row m h s i w Rem = beside s (retires h i.rd (remainder (first h i) (second h i)))
row m h s i w Remu = beside s (retires h i.rd (remainder_unsigned (first h i) (second h i)))
row m h s i w Fence = beside s (steps h)
row m h s i w FenceI = beside s (steps h)
row m h s i w Ecall = beside s (calls h h.mode)
row m h s i w Ebreak = beside s (traps h 3 h.pc)
row m h s i w Mret = beside s (returns_from_trap h w h.mode)
row m h s i w Wfi = beside s (waits (m.inputs s) h w)
row m h s i w Csrrw = beside s (csr (m.inputs s) h w i Write i.rs1 (first h i))
row m h s i w Csrrs = beside s (csr (m.inputs s) h w i Set i.rs1 (first h i))
row m h s i w Csrrc = beside s (csr (m.inputs s) h w i Clear i.rs1 (first h i))
row m h s i w Csrrwi = beside s (csr (m.inputs s) h w i Write (immediate i) (immediate i))
row m h s i w Csrrsi = beside s (csr (m.inputs s) h w i Set (immediate i) (immediate i))
row m h s i w Csrrci = beside s (csr (m.inputs s) h w i Clear (immediate i) (immediate i))
row m h s i w LrW = reserves m h s i.rd (first h i)
row m h s i w ScW = stores_if_reserved m h s i.rd (first h i) (second h i)
row m h s i w AmoaddW = modifies m h s i.rd (first h i) (λ old. combined AmoaddW old (second h i))
row m h s i w AmoswapW = modifies m h s i.rd (first h i) (λ old. combined AmoswapW old (second h i))
row m h s i w AmoxorW = modifies m h s i.rd (first h i) (λ old. combined AmoxorW old (second h i))
row m h s i w AmoorW = modifies m h s i.rd (first h i) (λ old. combined AmoorW old (second h i))
row m h s i w AmoandW = modifies m h s i.rd (first h i) (λ old. combined AmoandW old (second h i))
row m h s i w AmominW = modifies m h s i.rd (first h i) (λ old. combined AmominW old (second h i))
row m h s i w AmomaxW = modifies m h s i.rd (first h i) (λ old. combined AmomaxW old (second h i))
row m h s i w AmominuW = modifies m h s i.rd (first h i) (λ old. combined AmominuW old (second h i))
row m h s i w AmomaxuW = modifies m h s i.rd (first h i) (λ old. combined AmomaxuW old (second h i))

-- the meaning of an instruction
abbrev pub meaning : {B : Type 0} → Answers B → Hart → B → Ins → ℕ → Outcome B
meaning m h s i w = row m h s i w i.op

-- the answer, the hart and the bus are an outcome's
abbrev pub Reaches : {B : Type 0} → Outcome B → Done → Hart → B → Type 0
Reaches o done h' s' = (o.done ≡ done) × (o.hart ≡ h') × (o.bus ≡ s')

-- the address and the size of what SC.W writes: nothing, where the address isn't reserved
abbrev pub store_if_reserved : Hart → ℕ → Option (ℕ × ℕ)
store_if_reserved h at = if is_reserved h.reservation at then Some (at, 4) else None

-- the address and the size of what a row writes
abbrev pub store_of : Hart → Ins → Op → Option (ℕ × ℕ)
store_of h i Sb = Some (address h i, 1)
store_of h i Sh = Some (address h i, 2)
store_of h i Sw = Some (address h i, 4)
store_of h i ScW = store_if_reserved h (first h i)
store_of h i AmoaddW = Some (first h i, 4)
store_of h i AmoswapW = Some (first h i, 4)
store_of h i AmoxorW = Some (first h i, 4)
store_of h i AmoorW = Some (first h i, 4)
store_of h i AmoandW = Some (first h i, 4)
store_of h i AmominW = Some (first h i, 4)
store_of h i AmomaxW = Some (first h i, 4)
store_of h i AmominuW = Some (first h i, 4)
store_of h i AmomaxuW = Some (first h i, 4)
store_of h i op = None

-- the store that a row makes, if it makes one, may want memory
abbrev pub wants_memory : {B : Type 0} → Answers B → B → Option (ℕ × ℕ) → Bool
wants_memory m s None = false
wants_memory m s (Some store) = (store.0 % store.1 == 0) && m.may_want s store.0 store.1

-- want of memory changes nothing, and comes where the instruction else retires
abbrev pub Refuses : {B : Type 0} → Outcome B → Hart → B → Hart → B → Type 0
Refuses o h s h' s' = (o.done ≡ Retired false) × (h' ≡ h) × (s' ≡ s)

-- the address and the size of a row that loads
abbrev pub load_of : Hart → Ins → Op → Option (ℕ × ℕ)
load_of h i Lb = Some (address h i, 1)
load_of h i Lh = Some (address h i, 2)
load_of h i Lw = Some (address h i, 4)
load_of h i Lbu = Some (address h i, 1)
load_of h i Lhu = Some (address h i, 2)
load_of h i op = None

-- an answer of the bus says that it needs the clock
abbrev pub is_clock_error : Result ℕ BusError → Bool
is_clock_error (Ok value) = false
is_clock_error (Err Fault) = false
is_clock_error (Err BusNeedsClock) = true
is_clock_error (Err BusNoMemory) = false

-- the load that a row makes, if it makes one, needs the clock
abbrev pub needs_clock : {B : Type 0} → Answers B → B → Option (ℕ × ℕ) → Bool
needs_clock m s None = false
needs_clock m s (Some load) = (load.0 % load.1 == 0) && is_clock_error (m.load s load.0 load.1)

-- an instruction came to the need of the clock
abbrev pub is_need_clock : Done → Bool
is_need_clock (Retired idle) = false
is_need_clock (Trap cause value) = false
is_need_clock NeedClock = true
is_need_clock NoMemory = false
