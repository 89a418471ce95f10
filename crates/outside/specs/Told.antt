-- What a device tells: the bytes that it holds or has taken, or none where it doesn't tell.
use Rattle.std.specs.Prelude.{◌≡◌, ℕ, List, [], ◌++◌, ⊤, None, Some, Result, MatchResult, take}
use Rattle.std.specs.declared.option.Option.{Option}

-- what tells nothing tells nothing from then on
abbrev pub StaysQuiet : Option (List ℕ) → Option (List ℕ) → Type 0
StaysQuiet (Some xs) new = ⊤
StaysQuiet None None = ⊤
StaysQuiet None (Some ys) = ⊥

-- the bytes taken grow by bs, where they are told; a sink may fall silent, and stays so
abbrev pub Takes : Option (List ℕ) → Option (List ℕ) → List ℕ → Type 0
Takes old None bs = ⊤
Takes None (Some ys) bs = ⊥
Takes (Some xs) (Some ys) bs = ys ≡ xs ++ bs

-- a write took the n bytes that it answered, and none where it failed
abbrev pub WriteTakes :
    {E : Type 0} → Option (List ℕ) → Option (List ℕ) → Result ℕ E → List ℕ → Type 0
WriteTakes old new r bs = MatchResult r (λ n. Takes old new (take n bs)) (λ _. Takes old new [])

-- a front of bs was taken
pub record TakesFront (old new : Option (List ℕ)) (bs : List ℕ) : Type 0 where
  pub front : List ℕ
  pub rest : List ℕ
  pub whole : bs ≡ front ++ rest
  pub taken : Takes old new front
