-- An instruction sees the bus through its answers alone: what no answer sees plays no part.
use Rattle.std.proofs.Common.{◌≡◌, refl, ap, ◌∙◌, ℕ, ◌%◌, ◌==◌, Bool, true, false, Result, Ok, Err, if◌then◌else◌}
use Rattle.rv_decode.specs.declared.ins.Ins.{Ins}
use Rattle.rv_decode.specs.declared.op.Op.{Op}
use Rattle.rv_decode.specs.declared.op.Op.TheVariants.{Lui, Auipc, Jal, Jalr, Beq, Bne, Blt, Bge, Bltu, Bgeu, Lb, Lh, Lw, Lbu, Lhu, Sb, Sh, Sw, Addi, Slti, Sltiu, Xori, Ori, Andi, Slli, Srli, Srai, Add, Sub, Sll, Slt, Sltu, Xor, Srl, Sra, Or, And, Mul, Mulh, Mulhsu, Mulhu, Div, Divu, Rem, Remu, Fence, FenceI, Ecall, Ebreak, Mret, Wfi, Csrrw, Csrrs, Csrrc, Csrrwi, Csrrsi, Csrrci, LrW, ScW, AmoaddW, AmoswapW, AmoxorW, AmoorW, AmoandW, AmominW, AmomaxW, AmominuW, AmomaxuW}
use Rattle.rv_csr.specs.declared.inputs.Inputs.{Inputs}
use Rattle.rv_exec.specs.declared.bus.BusError.{BusError}
use Rattle.rv_exec.specs.declared.bus.BusError.TheVariants.{Fault, NeedClock as BusNeedsClock, NoMemory as BusNoMemory}
use Rattle.rv_exec.specs.declared.done.Done.TheVariants.{Retired}
use Rattle.rv_exec.specs.declared.hart.Hart.{Hart}
use Rattle.rv_exec.specs.declared.system.Change.TheVariants.{Write, Set, Clear}
use Rattle.rv_exec.specs.Answers.{Answers}
use Rattle.rv_exec.specs.Arithmetic.{sum, word, extend_byte, extend_half}
use Rattle.rv_exec.specs.Registers.{register}
use Rattle.rv_exec.specs.Rows.{Local, Outcome, beside, retires, without_reservation, kept_by_store, gets, loads, stores, stored_at, in_ram, takes_reservation, reserves, is_reserved, stores_if_reserved, combined, swaps, modifies, csr, waits, row, meaning, immediate}

-- a change of the bus that no answer sees
pub record Commutes {B : Type 0} (m : Answers B) (f : B → B) : Type 0 where
  pub load : (s : B) (at size : ℕ) → m.load (f s) at size ≡ m.load s at size
  pub loaded : (s : B) (at size : ℕ) → m.loaded (f s) at size ≡ f (m.loaded s at size)
  pub can_store : (s : B) (at size : ℕ) → m.can_store (f s) at size ≡ m.can_store s at size
  pub stored : (s : B) (at size value : ℕ) → m.stored (f s) at size value ≡ f (m.stored s at size value)
  pub is_ram : (s : B) (at : ℕ) → m.is_ram (f s) at ≡ m.is_ram s at
  pub inputs : (s : B) → m.inputs (f s) ≡ m.inputs s

abbrev pub outcome_map : {B : Type 0} → (B → B) → Outcome B → Outcome B
outcome_map f o = record { done = o.done; hart = o.hart; bus = f o.bus }

module _ {B : Type 0} (m : Answers B) (f : B → B) (same : Commutes m f) where
  if-natural : (b : Bool) (o p o' p' : Outcome B) → o' ≡ outcome_map f o → p' ≡ outcome_map f p → (if b then o' else p') ≡ outcome_map f (if b then o else p)
  if-natural true o p o' p' x y = x
  if-natural false o p o' p' x y = y

  if-same : (b b' : Bool) (o p o' p' : Outcome B) → b' ≡ b → o' ≡ outcome_map f o → p' ≡ outcome_map f p → (if b' then o' else p') ≡ outcome_map f (if b then o else p)
  if-same b b' o p o' p' e x y = ap (λ z. if z then o' else p') e ∙ if-natural b o p o' p' x y

  gets-natural : (h : Hart) (s after : B) (rd at : ℕ) (g : ℕ → ℕ) (a : Result ℕ BusError) → gets h (f s) (f after) rd at g a ≡ outcome_map f (gets h s after rd at g a)
  gets-natural h s after rd at g (Ok value) = refl
  gets-natural h s after rd at g (Err Fault) = refl
  gets-natural h s after rd at g (Err BusNeedsClock) = refl
  gets-natural h s after rd at g (Err BusNoMemory) = refl

  loads-natural : (h : Hart) (s : B) (rd at size : ℕ) (g : ℕ → ℕ) → loads m h (f s) rd at size g ≡ outcome_map f (loads m h s rd at size g)
  unfolding loads
  loads-natural h s rd at size g =
      if-natural (at % size == 0) _ _ _ _
      (ap (λ z. gets h (f s) z rd at g (m.load (f s) at size)) (same.loaded s at size)
      ∙ ap (λ z. gets h (f s) (f (m.loaded s at size)) rd at g z) (same.load s at size)
      ∙ gets-natural h s (m.loaded s at size) rd at g (m.load s at size))
      refl

  stores-natural : (h : Hart) (s : B) (at size value : ℕ) → stores m h (f s) at size value ≡ outcome_map f (stores m h s at size value)
  unfolding stores
  stores-natural h s at size value =
      if-natural (at % size == 0) _ _ _ _
      (if-same (m.can_store s at size) (m.can_store (f s) at size) _ _ _ _ (same.can_store s at size)
      (ap (λ z. record { done = Retired false; hart = stored_at h at; bus = z }) (same.stored s at size value)) refl)
      refl

  in-ram-natural : (h : Hart) (s : B) (at a b : ℕ) (o o' : Outcome B) → o' ≡ outcome_map f o → in_ram m h (f s) at a b o' ≡ outcome_map f (in_ram m h s at a b o)
  in-ram-natural h s at a b o o' e =
      if-natural (at % 4 == 0) _ _ _ _ (if-same (m.is_ram s at) (m.is_ram (f s) at) _ _ _ _ (same.is_ram s at) e refl) refl

  takes-natural : (h : Hart) (s : B) (rd at : ℕ) (a : Result ℕ BusError) → takes_reservation h (f s) rd at a ≡ outcome_map f (takes_reservation h s rd at a)
  takes-natural h s rd at (Ok value) = refl
  takes-natural h s rd at (Err e) = refl

  reserves-natural : (h : Hart) (s : B) (rd at : ℕ) → reserves m h (f s) rd at ≡ outcome_map f (reserves m h s rd at)
  unfolding reserves
  reserves-natural h s rd at = in-ram-natural h s at 4 5 _ _
      (ap (λ z. takes_reservation h (f s) rd at z) (same.load s at 4) ∙ takes-natural h s rd at (m.load s at 4))

  conditional-natural : (h : Hart) (s : B) (rd at value : ℕ) → stores_if_reserved m h (f s) rd at value ≡ outcome_map f (stores_if_reserved m h s rd at value)
  unfolding stores_if_reserved
  conditional-natural h s rd at value = in-ram-natural h s at 6 7 _ _
      (if-natural (is_reserved h.reservation at) _ _ _ _
      (ap (λ z. beside z (retires (without_reservation h) rd 0)) (same.stored s at 4 value)) refl)

  swaps-natural : (h : Hart) (s : B) (rd at : ℕ) (g : ℕ → ℕ) (a : Result ℕ BusError) → swaps m h (f s) rd at g a ≡ outcome_map f (swaps m h s rd at g a)
  swaps-natural h s rd at g (Ok old) =
      ap (λ z. beside z (retires (record h { reservation = kept_by_store h.reservation at }) rd old)) (same.stored s at 4 (g old))
  swaps-natural h s rd at g (Err e) = refl

  modifies-natural : (h : Hart) (s : B) (rd at : ℕ) (g : ℕ → ℕ) → modifies m h (f s) rd at g ≡ outcome_map f (modifies m h s rd at g)
  unfolding modifies
  modifies-natural h s rd at g = in-ram-natural h s at 6 7 _ _
      (ap (λ z. swaps m h (f s) rd at g z) (same.load s at 4) ∙ swaps-natural h s rd at g (m.load s at 4))

  inputs-natural : (s : B) (g : Inputs → Local) → beside (f s) (g (m.inputs (f s))) ≡ outcome_map f (beside s (g (m.inputs s)))
  inputs-natural s g = ap (λ z. beside (f s) (g z)) (same.inputs s)

  row-natural : (h : Hart) (s : B) (i : Ins) (w : ℕ) (op : Op) → row m h (f s) i w op ≡ outcome_map f (row m h s i w op)
  row-natural h s i w Lui = refl
  row-natural h s i w Auipc = refl
  row-natural h s i w Jal = refl
  row-natural h s i w Jalr = refl
  row-natural h s i w Beq = refl
  row-natural h s i w Bne = refl
  row-natural h s i w Blt = refl
  row-natural h s i w Bge = refl
  row-natural h s i w Bltu = refl
  row-natural h s i w Bgeu = refl
  row-natural h s i w Lb = loads-natural h s i.rd (sum (register h.x i.rs1) (word i.imm)) 1 extend_byte
  row-natural h s i w Lh = loads-natural h s i.rd (sum (register h.x i.rs1) (word i.imm)) 2 extend_half
  row-natural h s i w Lw = loads-natural h s i.rd (sum (register h.x i.rs1) (word i.imm)) 4 (λ n. n)
  row-natural h s i w Lbu = loads-natural h s i.rd (sum (register h.x i.rs1) (word i.imm)) 1 (λ n. n)
  row-natural h s i w Lhu = loads-natural h s i.rd (sum (register h.x i.rs1) (word i.imm)) 2 (λ n. n)
  row-natural h s i w Sb = stores-natural h s (sum (register h.x i.rs1) (word i.imm)) 1 (register h.x i.rs2 % 256)
  row-natural h s i w Sh = stores-natural h s (sum (register h.x i.rs1) (word i.imm)) 2 (register h.x i.rs2 % 65536)
  row-natural h s i w Sw = stores-natural h s (sum (register h.x i.rs1) (word i.imm)) 4 (register h.x i.rs2)
  row-natural h s i w Addi = refl
  row-natural h s i w Slti = refl
  row-natural h s i w Sltiu = refl
  row-natural h s i w Xori = refl
  row-natural h s i w Ori = refl
  row-natural h s i w Andi = refl
  row-natural h s i w Slli = refl
  row-natural h s i w Srli = refl
  row-natural h s i w Srai = refl
  row-natural h s i w Add = refl
  row-natural h s i w Sub = refl
  row-natural h s i w Sll = refl
  row-natural h s i w Slt = refl
  row-natural h s i w Sltu = refl
  row-natural h s i w Xor = refl
  row-natural h s i w Srl = refl
  row-natural h s i w Sra = refl
  row-natural h s i w Or = refl
  row-natural h s i w And = refl
  row-natural h s i w Mul = refl
  row-natural h s i w Mulh = refl
  row-natural h s i w Mulhsu = refl
  row-natural h s i w Mulhu = refl
  row-natural h s i w Div = refl
  row-natural h s i w Divu = refl
  row-natural h s i w Rem = refl
  row-natural h s i w Remu = refl
  row-natural h s i w Fence = refl
  row-natural h s i w FenceI = refl
  row-natural h s i w Ecall = refl
  row-natural h s i w Ebreak = refl
  row-natural h s i w Mret = refl
  row-natural h s i w Wfi = inputs-natural s (λ z. waits z h w)
  row-natural h s i w Csrrw = inputs-natural s (λ z. csr z h w i Write i.rs1 (register h.x i.rs1))
  row-natural h s i w Csrrs = inputs-natural s (λ z. csr z h w i Set i.rs1 (register h.x i.rs1))
  row-natural h s i w Csrrc = inputs-natural s (λ z. csr z h w i Clear i.rs1 (register h.x i.rs1))
  row-natural h s i w Csrrwi = inputs-natural s (λ z. csr z h w i Write (immediate i) (immediate i))
  row-natural h s i w Csrrsi = inputs-natural s (λ z. csr z h w i Set (immediate i) (immediate i))
  row-natural h s i w Csrrci = inputs-natural s (λ z. csr z h w i Clear (immediate i) (immediate i))
  row-natural h s i w LrW = reserves-natural h s i.rd (register h.x i.rs1)
  row-natural h s i w ScW = conditional-natural h s i.rd (register h.x i.rs1) (register h.x i.rs2)
  row-natural h s i w AmoaddW = modifies-natural h s i.rd (register h.x i.rs1) (λ old. combined AmoaddW old (register h.x i.rs2))
  row-natural h s i w AmoswapW = modifies-natural h s i.rd (register h.x i.rs1) (λ old. combined AmoswapW old (register h.x i.rs2))
  row-natural h s i w AmoxorW = modifies-natural h s i.rd (register h.x i.rs1) (λ old. combined AmoxorW old (register h.x i.rs2))
  row-natural h s i w AmoorW = modifies-natural h s i.rd (register h.x i.rs1) (λ old. combined AmoorW old (register h.x i.rs2))
  row-natural h s i w AmoandW = modifies-natural h s i.rd (register h.x i.rs1) (λ old. combined AmoandW old (register h.x i.rs2))
  row-natural h s i w AmominW = modifies-natural h s i.rd (register h.x i.rs1) (λ old. combined AmominW old (register h.x i.rs2))
  row-natural h s i w AmomaxW = modifies-natural h s i.rd (register h.x i.rs1) (λ old. combined AmomaxW old (register h.x i.rs2))
  row-natural h s i w AmominuW = modifies-natural h s i.rd (register h.x i.rs1) (λ old. combined AmominuW old (register h.x i.rs2))
  row-natural h s i w AmomaxuW = modifies-natural h s i.rd (register h.x i.rs1) (λ old. combined AmomaxuW old (register h.x i.rs2))

  pub meaning-natural : (h : Hart) (s : B) (i : Ins) (w : ℕ) → meaning m h (f s) i w ≡ outcome_map f (meaning m h s i w)
  meaning-natural h s i w = row-natural h s i w i.op
