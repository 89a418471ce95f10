-- What an image tells.
use Rattle.std.specs.Prelude.{ℕ, List, [], ◌∷◌, None}
use Rattle.std.specs.declared.option.Option.{Option}
use Rattle.plain_hub.specs.declared.base.Base.{Base}

-- the base of an image of this length that tells these bytes, or none
abbrev pub told : ℕ → Option (List ℕ) → Base
told len bytes = record { len = len; bytes = bytes }

-- the base of an image that has no bytes and tells none
abbrev pub nothing : Base
nothing = told 0 None

-- the base that a mark was made of
abbrev pub first_of : List Base → Base
first_of [] = nothing
first_of (b ∷ bs) = b
