-- What a read of a source adds to the bytes that are held.
use Rattle.std.specs.Prelude.{◌≡◌, ℕ, ◌+◌, ◌≤◌, List, ◌++◌, length, take, Result, Ok, Err}
use Rattle.std.specs.declared.option.Option.{Option}
use Rattle.std.specs.Io.KnownBytes.{Consumes, Keeps, IsAtEnd}
use Rattle.outside.specs.declared.devices.Failed.{Failed}

-- a piece of the source came, which is empty only at its end; where it failed, none came
abbrev pub Comes : (old new : Option (List ℕ)) → ℕ → Result ℕ Failed → List ℕ → Type 0
Comes old new most (Ok count) piece =
    (length piece ≡ count) × (count ≤ most) × Consumes old new piece × (count ≡ 0 → IsAtEnd new)
Comes old new most (Err failed) piece = (length piece ≡ 0) × Keeps old new

-- what came stands at the place
abbrev pub ReadAt : (left left' : Option (List ℕ)) → (most at : ℕ) → (buffer buffer' : List ℕ)
    → Result ℕ Failed → Type 0
ReadAt left left' most at buffer buffer' result =
    (piece : List ℕ) × Comes left left' most result piece × (at + length piece ≤ length buffer)
    × (take (at + length piece) buffer' ≡ take at buffer ++ piece)

-- what came stands behind what was held
abbrev pub Fills : (left left' : Option (List ℕ)) → ℕ → (held held' : List ℕ) → Result ℕ Failed
    → Type 0
Fills left left' most held held' result =
    (piece : List ℕ) × Comes left left' most result piece × (held' ≡ held ++ piece)
