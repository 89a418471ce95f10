-- A range in RAM: the test and the fact.
use Rattle.std.proofs.Common.{◌≡◌, ℕ, true, false, List, arith}
use Rattle.ram_pages.specs.Memory.{LiesIn, IsSize}
use Rattle.system_bus.specs.Memory.{lies_in}

pub lies_true : (ram : List ℕ) (at size : ℕ) → LiesIn ram at size → lies_in ram at size ≡ true
lies_true ram at size h = grind arith

pub lies_false : (ram : List ℕ) (at size : ℕ) → (LiesIn ram at size → ⊥) → lies_in ram at size ≡ false
lies_false ram at size h = grind arith

pub lies_smaller : (ram : List ℕ) (at size : ℕ) → IsSize size → lies_in ram at size ≡ false → lies_in ram at 4 ≡ false
lies_smaller ram at size s h = grind arith

pub ruleset lying = (lies_true, lies_false, lies_smaller)
