-- What a bus answers, as functions of what it holds.
use Rattle.std.specs.Prelude.{ℕ, Bool, true, false, ◌≡◌, ◌==◌, ◌||◌, ◌&&◌, ◌%◌, Result, Ok, Err}
use Rattle.rv_csr.specs.declared.inputs.Inputs.{Inputs}
use Rattle.rv_exec.specs.declared.bus.BusError.{BusError}
use Rattle.rv_exec.specs.declared.bus.BusError.TheVariants.{Fault, NeedClock, NoMemory}

-- a bus by what each call answers and leaves. Whether memory is wanted is no part of it, but where it
-- may be
pub record Answers (B : Type 0) : Type 0 where
  -- what a load answers, and the bus after one that is answered by a value
  pub load : B → ℕ → ℕ → Result ℕ BusError
  pub loaded : B → ℕ → ℕ → B
  -- whether a store may be made, and the bus after it
  pub can_store : B → ℕ → ℕ → Bool
  pub stored : B → ℕ → ℕ → ℕ → B
  -- whether a store there may want memory
  pub may_want : B → ℕ → ℕ → Bool
  pub is_ram : B → ℕ → Bool
  pub inputs : B → Inputs

-- an access of 1, 2 or 4 bytes at a multiple of its size
abbrev pub is_access : ℕ → ℕ → Bool
is_access at size = ((size == 1) || (size == 2) || (size == 4)) && (at % size == 0)

-- what a store may answer and leave
abbrev pub StoreGives : {B : Type 0}
    → Answers B → B → ℕ → ℕ → ℕ → Result (Unit {0}) BusError → B → Type 0
StoreGives m old at size value (Ok done) new =
    (m.can_store old at size ≡ true) × (new ≡ m.stored old at size value)
StoreGives m old at size value (Err Fault) new = (m.can_store old at size ≡ false) × (new ≡ old)
StoreGives m old at size value (Err NoMemory) new = (m.can_store old at size ≡ true) × (new ≡ old)
StoreGives m old at size value (Err NeedClock) new = ⊥
