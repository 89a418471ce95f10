-- Words of which one isn't UTF-8.
use Rattle.std.specs.Prelude.{ℕ, List, [], ◌∷◌, ◌++◌, length}
use Rattle.command_line.specs.Words.{Reading, Bad, Early, reading_of}
use Rattle.commands.specs.declared.outcome.Outcome.TheVariants.{BadWord}
use Rattle.rrvm.specs.Messages.{line_of}

-- the number of the word that is called bad, else this one
abbrev pub bad_or : ℕ → Reading → ℕ
bad_or number (Bad k) = k
bad_or number other = number

-- the first bad word, where after these words comes one that isn't UTF-8: it is bad, whatever it is for
abbrev pub first_bad : List (List ℕ) → ℕ
first_bad words = bad_or (length words) (reading_of words)

-- the line for it, with the word's bytes as they are
abbrev pub raw_line : List (List ℕ) → List ℕ → List ℕ
raw_line words raw = line_of (words ++ raw ∷ []) Early (BadWord (first_bad words))
