-- A line, word by word.
use Rattle.std.specs.Prelude.{ℕ, ◌==◌, List, [], ◌∷◌, Some, None, if◌then◌else◌}
use Rattle.std.specs.declared.option.Option.{Option}

-- the first word and what follows the space after it, where there is one
abbrev pub in_front : ℕ → List ℕ × Option (List ℕ) → List ℕ × Option (List ℕ)
in_front b split = (b ∷ split.0, split.1)

abbrev pub split : List ℕ → List ℕ × Option (List ℕ)
split [] = ([], None)
split (b ∷ bs) = if b == 32 then ([], Some bs) else in_front b (split bs)

-- a word that is the last of its line
abbrev pub only : List ℕ × Option (List ℕ) → Option (List ℕ)
only (word, None) = Some word
only (word, Some rest) = None
