-- What is kept of a word.
use Rattle.std.specs.Prelude.{◌≡◌, ℕ, Some}
use Rattle.rv_decode.specs.declared.ins.Ins.{Ins}
use Rattle.rv_decode.specs.Fields.{IsWithin, decoded}

-- what stands beside a word that was decoded
pub record Knows (w : ℕ) (ins : Ins) : Type 0 where
  pub instruction : decoded w ≡ Some ins
  pub registers : IsWithin ins
