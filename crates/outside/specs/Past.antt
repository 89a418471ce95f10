-- A list that only contracts see.
use Rattle.std.specs.Prelude.{List, [], ◌∷◌}
use Rattle.outside.specs.declared.past.Link.{Link}
use Rattle.outside.specs.declared.past.Link.TheVariants.{Start, More}

-- its items, the newest first
abbrev pub items : {T : Type 0} → Link T → List T
items Start = []
items (More item before) = item ∷ before.value
