-- A plain row does to the hart and the devices what it does to the hart and RAM alone.
use Rattle.std.proofs.Common.{◌≡◌, refl, ℕ, ◌%◌, ◌==◌, Bool, true, false, List, Result, arith, inl, inr}
use Rattle.std.proofs.lemmas.Bool.{cases_Bool}
use Rattle.std.specs.Prelude.{◌||◌, not, nat_lt, is_some, Option, Some, None, if◌then◌else◌}
use Rattle.rv_decode.specs.declared.ins.Ins.{Ins}
use Rattle.rv_decode.specs.declared.op.Op.{Op}
use Rattle.rv_decode.specs.declared.op.Op.TheVariants.{Lui, Auipc, Jal, Jalr, Beq, Bne, Blt, Bge, Bltu, Bgeu, Lb, Lh, Lw, Lbu, Lhu, Sb, Sh, Sw, Addi, Slti, Sltiu, Xori, Ori, Andi, Slli, Srli, Srai, Add, Sub, Sll, Slt, Sltu, Xor, Srl, Sra, Or, And, Mul, Mulh, Mulhsu, Mulhu, Div, Divu, Rem, Remu, Fence, FenceI, Ecall, Ebreak, Mret, Wfi, Csrrw, Csrrs, Csrrc, Csrrwi, Csrrsi, Csrrci, LrW, ScW, AmoaddW, AmoswapW, AmoxorW, AmoorW, AmoandW, AmominW, AmomaxW, AmominuW, AmomaxuW}
use Rattle.rv_decode.specs.Fields.{decoded}
use Rattle.rv_csr.specs.Control.{Control as Csrs}
use Rattle.rv_exec.specs.declared.bus.BusError.{BusError}
use Rattle.rv_exec.specs.declared.done.Done.TheVariants.{Retired}
use Rattle.rv_exec.specs.declared.hart.Hart.{Hart}
use Rattle.rv_exec.specs.Arithmetic.{sum, word, extend_byte, extend_half, is_less_signed, without_bit_zero}
use Rattle.rv_exec.specs.Registers.{register}
use Rattle.rv_exec.specs.Plain.{is_plain}
use Rattle.rv_exec.specs.Rows.{Local, Outcome, beside, traps, jumps, branches, gets, loads, stores, stored_at, reserves, is_reserved, stores_if_reserved, combined, modifies, row, meaning}
use Rattle.ram_pages.specs.Memory.{number_at}
use Rattle.system_bus.specs.declared.devices.Devices.{Devices}
use Rattle.system_bus.specs.Memory.{lies_in, ram_load, ram_store, or_fault, ram_answers}
use Rattle.system_bus.specs.MemoryMap.{register_at}
use Rattle.system_bus.specs.Access.{answers, or_device, load, loaded, can_store, stored, register_read, register_after_read, register_written}
use Rattle.board.specs.Turn.{attempt, fetched, run_word}
use Rattle.plain_turns.specs.Turns.{plain_word, plain_fetched, plain_attempt}

module _ (c : Csrs) (d : Devices) where
  -- with other control registers, and with devices beside RAM
  abbrev pub inside : Hart → Hart
  inside h = record h { csrs = c }

  abbrev pub within : Outcome (List ℕ) → Outcome Devices
  within o = record { done = o.done; hart = inside o.hart; bus = record d { ram = o.bus } }

  if-within : (b : Bool) (l l' m m' : Local) → beside d l' ≡ within (beside d.ram l) → beside d m' ≡ within (beside d.ram m)
      → beside d (if b then l' else m') ≡ within (beside d.ram (if b then l else m))
  if-within true l l' m m' p q = p
  if-within false l l' m m' p q = q

  jumps-within : (h : Hart) (rd t : ℕ) → beside d (jumps (inside h) rd t) ≡ within (beside d.ram (jumps h rd t))
  unfolding jumps
  jumps-within h rd t = if-within (t % 4 == 0) _ _ _ _ refl refl

  branches-within : (h : Hart) (b : Bool) (t : ℕ) → beside d (branches (inside h) b t) ≡ within (beside d.ram (branches h b t))
  unfolding branches
  branches-within h b t = if-within b _ _ _ _ (if-within (t % 4 == 0) _ _ _ _ refl refl) refl

  gets-within : (h : Hart) (b : Bool) (v : ℕ) (x : Result ℕ BusError) (y : Devices) (rd at : ℕ) (g : ℕ → ℕ)
      → (gets h d.ram d.ram rd at g (or_fault (if b then Some v else None))).done ≡ Retired false
      → gets (inside h) d (if b then d else y) rd at g (or_device (if b then Some v else None) x)
      ≡ within (gets h d.ram d.ram rd at g (or_fault (if b then Some v else None)))
  gets-within h true v x y rd at g e = refl
  gets-within h false v x y rd at g e = grind arith

  loads-by : (h : Hart) (rd at size : ℕ) (g : ℕ → ℕ) (b : Bool) (o : Outcome (List ℕ)) (o' : Outcome Devices) → (o.done ≡ Retired false → o' ≡ within o)
      → (if b then o else beside d.ram (traps h 4 at)).done ≡ Retired false
      → (if b then o' else beside d (traps (inside h) 4 at)) ≡ within (if b then o else beside d.ram (traps h 4 at))
  loads-by h rd at size g true o o' f e = f e
  loads-by h rd at size g false o o' f e = refl

  loads-within : (h : Hart) (rd at size : ℕ) (g : ℕ → ℕ) → (loads ram_answers h d.ram rd at size g).done ≡ Retired false
      → loads answers (inside h) d rd at size g ≡ within (loads ram_answers h d.ram rd at size g)
  unfolding loads load loaded ram_load
  loads-within h rd at size g e =
      loads-by h rd at size g (at % size == 0) _ _
      (λ e. gets-within h (lies_in d.ram at size) (number_at d.ram at size) (register_read d (register_at at size)) (register_after_read d (register_at at size)) rd at g e) e

  puts-within : (h : Hart) (b z : Bool) (r : List ℕ) (y : Devices) (at : ℕ)
      → (if b then record { done = Retired false; hart = stored_at h at; bus = r } else beside d.ram (traps h 7 at)).done ≡ Retired false
      → (if b || z then record { done = Retired false; hart = stored_at (inside h) at; bus = if b then record d { ram = r } else y } else beside d (traps (inside h) 7 at))
      ≡ within (if b then record { done = Retired false; hart = stored_at h at; bus = r } else beside d.ram (traps h 7 at))
  puts-within h true z r y at e = refl
  puts-within h false z r y at e = grind arith

  stores-by : (h : Hart) (at : ℕ) (b : Bool) (o : Outcome (List ℕ)) (o' : Outcome Devices) → (o.done ≡ Retired false → o' ≡ within o)
      → (if b then o else beside d.ram (traps h 6 at)).done ≡ Retired false
      → (if b then o' else beside d (traps (inside h) 6 at)) ≡ within (if b then o else beside d.ram (traps h 6 at))
  stores-by h at true o o' f e = f e
  stores-by h at false o o' f e = refl

  stores-within : (h : Hart) (at size value : ℕ) → (stores ram_answers h d.ram at size value).done ≡ Retired false
      → stores answers (inside h) d at size value ≡ within (stores ram_answers h d.ram at size value)
  unfolding stores can_store stored
  stores-within h at size value e =
      stores-by h at (at % size == 0) _ _
      (λ e. puts-within h (lies_in d.ram at size) (is_some (register_at at size)) (ram_store d.ram at size value) (register_written d (register_at at size) value) at e) e

  either : (b : Bool) (o p : Outcome (List ℕ)) (o' p' : Outcome Devices) → o' ≡ within o → p' ≡ within p → (if b then o' else p') ≡ within (if b then o else p)
  either true o p o' p' x y = x
  either false o p o' p' x y = y

  reserves-within : (h : Hart) (rd at : ℕ) → reserves answers (inside h) d rd at ≡ within (reserves ram_answers h d.ram rd at)
  unfolding reserves load ram_load
  reserves-within h rd at =
      either (at % 4 == 0) _ _ _ _
      (elim (cases_Bool (lies_in d.ram at 4)) [
        | inl e ↦ rw e refl
        | inr e ↦ rw e refl
      ])
      refl

  conditional-within : (h : Hart) (rd at value : ℕ) → stores_if_reserved answers (inside h) d rd at value ≡ within (stores_if_reserved ram_answers h d.ram rd at value)
  unfolding stores_if_reserved stored
  conditional-within h rd at value =
      either (at % 4 == 0) _ _ _ _
      (elim (cases_Bool (lies_in d.ram at 4)) [
        | inl e ↦ rw e (either (is_reserved h.reservation at) _ _ _ _ refl refl)
        | inr e ↦ rw e refl
      ])
      refl

  modifies-within : (h : Hart) (rd at : ℕ) (f : ℕ → ℕ) → modifies answers (inside h) d rd at f ≡ within (modifies ram_answers h d.ram rd at f)
  unfolding modifies load stored ram_load
  modifies-within h rd at f =
      either (at % 4 == 0) _ _ _ _
      (elim (cases_Bool (lies_in d.ram at 4)) [
        | inl e ↦ rw e (rw e refl)
        | inr e ↦ rw e refl
      ])
      refl

  row-within : (h : Hart) (i : Ins) (w : ℕ) (op : Op) → is_plain op ≡ true → (row ram_answers h d.ram i w op).done ≡ Retired false
      → row answers (inside h) d i w op ≡ within (row ram_answers h d.ram i w op)
  row-within h i w Lui p e = refl
  row-within h i w Auipc p e = refl
  row-within h i w Jal p e = jumps-within h i.rd (sum h.pc (word i.imm))
  row-within h i w Jalr p e = jumps-within h i.rd (without_bit_zero (sum (register h.x i.rs1) (word i.imm)))
  row-within h i w Beq p e = branches-within h (register h.x i.rs1 == register h.x i.rs2) (sum h.pc (word i.imm))
  row-within h i w Bne p e = branches-within h (not (register h.x i.rs1 == register h.x i.rs2)) (sum h.pc (word i.imm))
  row-within h i w Blt p e = branches-within h (is_less_signed (register h.x i.rs1) (register h.x i.rs2)) (sum h.pc (word i.imm))
  row-within h i w Bge p e = branches-within h (not (is_less_signed (register h.x i.rs1) (register h.x i.rs2))) (sum h.pc (word i.imm))
  row-within h i w Bltu p e = branches-within h (nat_lt (register h.x i.rs1) (register h.x i.rs2)) (sum h.pc (word i.imm))
  row-within h i w Bgeu p e = branches-within h (not (nat_lt (register h.x i.rs1) (register h.x i.rs2))) (sum h.pc (word i.imm))
  row-within h i w Lb p e = loads-within h i.rd (sum (register h.x i.rs1) (word i.imm)) 1 extend_byte e
  row-within h i w Lh p e = loads-within h i.rd (sum (register h.x i.rs1) (word i.imm)) 2 extend_half e
  row-within h i w Lw p e = loads-within h i.rd (sum (register h.x i.rs1) (word i.imm)) 4 (λ n. n) e
  row-within h i w Lbu p e = loads-within h i.rd (sum (register h.x i.rs1) (word i.imm)) 1 (λ n. n) e
  row-within h i w Lhu p e = loads-within h i.rd (sum (register h.x i.rs1) (word i.imm)) 2 (λ n. n) e
  row-within h i w Sb p e = stores-within h (sum (register h.x i.rs1) (word i.imm)) 1 (register h.x i.rs2 % 256) e
  row-within h i w Sh p e = stores-within h (sum (register h.x i.rs1) (word i.imm)) 2 (register h.x i.rs2 % 65536) e
  row-within h i w Sw p e = stores-within h (sum (register h.x i.rs1) (word i.imm)) 4 (register h.x i.rs2) e
  row-within h i w Addi p e = refl
  row-within h i w Slti p e = refl
  row-within h i w Sltiu p e = refl
  row-within h i w Xori p e = refl
  row-within h i w Ori p e = refl
  row-within h i w Andi p e = refl
  row-within h i w Slli p e = refl
  row-within h i w Srli p e = refl
  row-within h i w Srai p e = refl
  row-within h i w Add p e = refl
  row-within h i w Sub p e = refl
  row-within h i w Sll p e = refl
  row-within h i w Slt p e = refl
  row-within h i w Sltu p e = refl
  row-within h i w Xor p e = refl
  row-within h i w Srl p e = refl
  row-within h i w Sra p e = refl
  row-within h i w Or p e = refl
  row-within h i w And p e = refl
  row-within h i w Mul p e = refl
  row-within h i w Mulh p e = refl
  row-within h i w Mulhsu p e = refl
  row-within h i w Mulhu p e = refl
  row-within h i w Div p e = refl
  row-within h i w Divu p e = refl
  row-within h i w Rem p e = refl
  row-within h i w Remu p e = refl
  row-within h i w Fence p e = refl
  row-within h i w FenceI p e = refl
  row-within h i w Ecall p e = grind arith
  row-within h i w Ebreak p e = grind arith
  row-within h i w Mret p e = grind arith
  row-within h i w Wfi p e = grind arith
  row-within h i w Csrrw p e = grind arith
  row-within h i w Csrrs p e = grind arith
  row-within h i w Csrrc p e = grind arith
  row-within h i w Csrrwi p e = grind arith
  row-within h i w Csrrsi p e = grind arith
  row-within h i w Csrrci p e = grind arith
  row-within h i w LrW p e = reserves-within h i.rd (register h.x i.rs1)
  row-within h i w ScW p e = conditional-within h i.rd (register h.x i.rs1) (register h.x i.rs2)
  row-within h i w AmoaddW p e = modifies-within h i.rd (register h.x i.rs1) (λ old. combined AmoaddW old (register h.x i.rs2))
  row-within h i w AmoswapW p e = modifies-within h i.rd (register h.x i.rs1) (λ old. combined AmoswapW old (register h.x i.rs2))
  row-within h i w AmoxorW p e = modifies-within h i.rd (register h.x i.rs1) (λ old. combined AmoxorW old (register h.x i.rs2))
  row-within h i w AmoorW p e = modifies-within h i.rd (register h.x i.rs1) (λ old. combined AmoorW old (register h.x i.rs2))
  row-within h i w AmoandW p e = modifies-within h i.rd (register h.x i.rs1) (λ old. combined AmoandW old (register h.x i.rs2))
  row-within h i w AmominW p e = modifies-within h i.rd (register h.x i.rs1) (λ old. combined AmominW old (register h.x i.rs2))
  row-within h i w AmomaxW p e = modifies-within h i.rd (register h.x i.rs1) (λ old. combined AmomaxW old (register h.x i.rs2))
  row-within h i w AmominuW p e = modifies-within h i.rd (register h.x i.rs1) (λ old. combined AmominuW old (register h.x i.rs2))
  row-within h i w AmomaxuW p e = modifies-within h i.rd (register h.x i.rs1) (λ old. combined AmomaxuW old (register h.x i.rs2))

  word-by : (h : Hart) (w : ℕ) (i : Ins) (b : Bool) → is_plain i.op ≡ b → (if b then meaning ram_answers h d.ram i w else beside d.ram (traps h 2 w)).done ≡ Retired false
      → meaning answers (inside h) d i w ≡ within (if b then meaning ram_answers h d.ram i w else beside d.ram (traps h 2 w))
  word-by h w i true p e = row-within h i w i.op p e
  word-by h w i false p e = grind arith

  word-within : (h : Hart) (w : ℕ) (i : Option Ins) → (plain_word h d.ram w i).done ≡ Retired false → run_word (inside h) d w i ≡ within (plain_word h d.ram w i)
  word-within h w None e = refl
  word-within h w (Some i) e = word-by h w i (is_plain i.op) refl e

  fetched-within : (h : Hart) (w : Option ℕ) → (plain_fetched h d.ram w).done ≡ Retired false → fetched (inside h) d w ≡ within (plain_fetched h d.ram w)
  fetched-within h None e = refl
  fetched-within h (Some w) e = word-within h w (decoded w) e

  pub attempt-within : (h : Hart) → (plain_attempt h d.ram).done ≡ Retired false → attempt (inside h) d ≡ within (plain_attempt h d.ram)
  unfolding attempt plain_attempt
  attempt-within h e = fetched-within h (ram_load d.ram h.pc 4) e
