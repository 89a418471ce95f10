-- An instruction leaves of the bus what its loads and stores leave.
use Rattle.std.proofs.Common.{◌≡◌, refl, ℕ, ◌%◌, ◌==◌, Bool, true, false, Result, Ok, Err, if◌then◌else◌}
use Rattle.rv_decode.specs.declared.ins.Ins.{Ins}
use Rattle.rv_decode.specs.declared.op.Op.{Op}
use Rattle.rv_decode.specs.declared.op.Op.TheVariants.{Lui, Auipc, Jal, Jalr, Beq, Bne, Blt, Bge, Bltu, Bgeu, Lb, Lh, Lw, Lbu, Lhu, Sb, Sh, Sw, Addi, Slti, Sltiu, Xori, Ori, Andi, Slli, Srli, Srai, Add, Sub, Sll, Slt, Sltu, Xor, Srl, Sra, Or, And, Mul, Mulh, Mulhsu, Mulhu, Div, Divu, Rem, Remu, Fence, FenceI, Ecall, Ebreak, Mret, Wfi, Csrrw, Csrrs, Csrrc, Csrrwi, Csrrsi, Csrrci, LrW, ScW, AmoaddW, AmoswapW, AmoxorW, AmoorW, AmoandW, AmominW, AmomaxW, AmominuW, AmomaxuW}
use Rattle.rv_exec.specs.declared.bus.BusError.{BusError}
use Rattle.rv_exec.specs.declared.bus.BusError.TheVariants.{Fault, NeedClock as BusNeedsClock, NoMemory as BusNoMemory}
use Rattle.rv_exec.specs.declared.hart.Hart.{Hart}
use Rattle.rv_exec.specs.Answers.{Answers}
use Rattle.rv_exec.specs.Arithmetic.{sum, word, extend_byte, extend_half}
use Rattle.rv_exec.specs.Registers.{register}
use Rattle.rv_exec.specs.Rows.{Outcome, gets, loads, stores, in_ram, takes_reservation, reserves, is_reserved, stores_if_reserved, combined, swaps, modifies, row, meaning}

-- a part of the bus that no access changes
pub record Holds {B X : Type 0} (m : Answers B) (f : B → X) : Type 0 where
  pub loaded : (s : B) (at size : ℕ) → f (m.loaded s at size) ≡ f s
  pub stored : (s : B) (at size value : ℕ) → f (m.stored s at size value) ≡ f s

module _ {B X : Type 0} (m : Answers B) (f : B → X) (same : Holds m f) where
  if-held : (s : B) (b : Bool) (o p : Outcome B) → f o.bus ≡ f s → f p.bus ≡ f s → f (if b then o else p).bus ≡ f s
  if-held s true o p x y = x
  if-held s false o p x y = y

  gets-held : (h : Hart) (s after : B) (rd at : ℕ) (g : ℕ → ℕ) (a : Result ℕ BusError) → f after ≡ f s → f (gets h s after rd at g a).bus ≡ f s
  gets-held h s after rd at g (Ok value) e = e
  gets-held h s after rd at g (Err Fault) e = refl
  gets-held h s after rd at g (Err BusNeedsClock) e = refl
  gets-held h s after rd at g (Err BusNoMemory) e = refl

  loads-held : (h : Hart) (s : B) (rd at size : ℕ) (g : ℕ → ℕ) → f (loads m h s rd at size g).bus ≡ f s
  unfolding loads
  loads-held h s rd at size g =
      if-held s (at % size == 0) _ _ (gets-held h s (m.loaded s at size) rd at g (m.load s at size) (same.loaded s at size)) refl

  stores-held : (h : Hart) (s : B) (at size value : ℕ) → f (stores m h s at size value).bus ≡ f s
  unfolding stores
  stores-held h s at size value =
      if-held s (at % size == 0) _ _ (if-held s (m.can_store s at size) _ _ (same.stored s at size value) refl) refl

  in-ram-held : (h : Hart) (s : B) (at a b : ℕ) (o : Outcome B) → f o.bus ≡ f s → f (in_ram m h s at a b o).bus ≡ f s
  in-ram-held h s at a b o e = if-held s (at % 4 == 0) _ _ (if-held s (m.is_ram s at) _ _ e refl) refl

  takes-held : (h : Hart) (s : B) (rd at : ℕ) (a : Result ℕ BusError) → f (takes_reservation h s rd at a).bus ≡ f s
  takes-held h s rd at (Ok value) = refl
  takes-held h s rd at (Err e) = refl

  reserves-held : (h : Hart) (s : B) (rd at : ℕ) → f (reserves m h s rd at).bus ≡ f s
  unfolding reserves
  reserves-held h s rd at = in-ram-held h s at 4 5 _ (takes-held h s rd at (m.load s at 4))

  conditional-held : (h : Hart) (s : B) (rd at value : ℕ) → f (stores_if_reserved m h s rd at value).bus ≡ f s
  unfolding stores_if_reserved
  conditional-held h s rd at value = in-ram-held h s at 6 7 _ (if-held s (is_reserved h.reservation at) _ _ (same.stored s at 4 value) refl)

  swaps-held : (h : Hart) (s : B) (rd at : ℕ) (g : ℕ → ℕ) (a : Result ℕ BusError) → f (swaps m h s rd at g a).bus ≡ f s
  swaps-held h s rd at g (Ok old) = same.stored s at 4 (g old)
  swaps-held h s rd at g (Err e) = refl

  modifies-held : (h : Hart) (s : B) (rd at : ℕ) (g : ℕ → ℕ) → f (modifies m h s rd at g).bus ≡ f s
  unfolding modifies
  modifies-held h s rd at g = in-ram-held h s at 6 7 _ (swaps-held h s rd at g (m.load s at 4))

  row-held : (h : Hart) (s : B) (i : Ins) (w : ℕ) (op : Op) → f (row m h s i w op).bus ≡ f s
  row-held h s i w Lui = refl
  row-held h s i w Auipc = refl
  row-held h s i w Jal = refl
  row-held h s i w Jalr = refl
  row-held h s i w Beq = refl
  row-held h s i w Bne = refl
  row-held h s i w Blt = refl
  row-held h s i w Bge = refl
  row-held h s i w Bltu = refl
  row-held h s i w Bgeu = refl
  row-held h s i w Lb = loads-held h s i.rd (sum (register h.x i.rs1) (word i.imm)) 1 extend_byte
  row-held h s i w Lh = loads-held h s i.rd (sum (register h.x i.rs1) (word i.imm)) 2 extend_half
  row-held h s i w Lw = loads-held h s i.rd (sum (register h.x i.rs1) (word i.imm)) 4 (λ n. n)
  row-held h s i w Lbu = loads-held h s i.rd (sum (register h.x i.rs1) (word i.imm)) 1 (λ n. n)
  row-held h s i w Lhu = loads-held h s i.rd (sum (register h.x i.rs1) (word i.imm)) 2 (λ n. n)
  row-held h s i w Sb = stores-held h s (sum (register h.x i.rs1) (word i.imm)) 1 (register h.x i.rs2 % 256)
  row-held h s i w Sh = stores-held h s (sum (register h.x i.rs1) (word i.imm)) 2 (register h.x i.rs2 % 65536)
  row-held h s i w Sw = stores-held h s (sum (register h.x i.rs1) (word i.imm)) 4 (register h.x i.rs2)
  row-held h s i w Addi = refl
  row-held h s i w Slti = refl
  row-held h s i w Sltiu = refl
  row-held h s i w Xori = refl
  row-held h s i w Ori = refl
  row-held h s i w Andi = refl
  row-held h s i w Slli = refl
  row-held h s i w Srli = refl
  row-held h s i w Srai = refl
  row-held h s i w Add = refl
  row-held h s i w Sub = refl
  row-held h s i w Sll = refl
  row-held h s i w Slt = refl
  row-held h s i w Sltu = refl
  row-held h s i w Xor = refl
  row-held h s i w Srl = refl
  row-held h s i w Sra = refl
  row-held h s i w Or = refl
  row-held h s i w And = refl
  row-held h s i w Mul = refl
  row-held h s i w Mulh = refl
  row-held h s i w Mulhsu = refl
  row-held h s i w Mulhu = refl
  row-held h s i w Div = refl
  row-held h s i w Divu = refl
  row-held h s i w Rem = refl
  row-held h s i w Remu = refl
  row-held h s i w Fence = refl
  row-held h s i w FenceI = refl
  row-held h s i w Ecall = refl
  row-held h s i w Ebreak = refl
  row-held h s i w Mret = refl
  row-held h s i w Wfi = refl
  row-held h s i w Csrrw = refl
  row-held h s i w Csrrs = refl
  row-held h s i w Csrrc = refl
  row-held h s i w Csrrwi = refl
  row-held h s i w Csrrsi = refl
  row-held h s i w Csrrci = refl
  row-held h s i w LrW = reserves-held h s i.rd (register h.x i.rs1)
  row-held h s i w ScW = conditional-held h s i.rd (register h.x i.rs1) (register h.x i.rs2)
  row-held h s i w AmoaddW = modifies-held h s i.rd (register h.x i.rs1) (λ old. combined AmoaddW old (register h.x i.rs2))
  row-held h s i w AmoswapW = modifies-held h s i.rd (register h.x i.rs1) (λ old. combined AmoswapW old (register h.x i.rs2))
  row-held h s i w AmoxorW = modifies-held h s i.rd (register h.x i.rs1) (λ old. combined AmoxorW old (register h.x i.rs2))
  row-held h s i w AmoorW = modifies-held h s i.rd (register h.x i.rs1) (λ old. combined AmoorW old (register h.x i.rs2))
  row-held h s i w AmoandW = modifies-held h s i.rd (register h.x i.rs1) (λ old. combined AmoandW old (register h.x i.rs2))
  row-held h s i w AmominW = modifies-held h s i.rd (register h.x i.rs1) (λ old. combined AmominW old (register h.x i.rs2))
  row-held h s i w AmomaxW = modifies-held h s i.rd (register h.x i.rs1) (λ old. combined AmomaxW old (register h.x i.rs2))
  row-held h s i w AmominuW = modifies-held h s i.rd (register h.x i.rs1) (λ old. combined AmominuW old (register h.x i.rs2))
  row-held h s i w AmomaxuW = modifies-held h s i.rd (register h.x i.rs1) (λ old. combined AmomaxuW old (register h.x i.rs2))

  pub meaning-held : (h : Hart) (s : B) (i : Ins) (w : ℕ) → f (meaning m h s i w).bus ≡ f s
  meaning-held h s i w = row-held h s i w i.op
