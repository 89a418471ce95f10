-- What a world opened, by its list of openings, the latest first.
use Rattle.std.specs.Prelude.{◌≡◌, List, ◌++◌, reverse}
use Rattle.outside.specs.declared.openings.Opening.{Opening}

-- these were opened since, in this order
abbrev pub Opens : List Opening → List Opening → List Opening → Type 0
Opens old new added = new ≡ reverse added ++ old

-- a front of these was opened since, in their order
pub record OpensFront (old new due : List Opening) : Type 0 where
  pub front : List Opening
  pub rest : List Opening
  pub whole : due ≡ front ++ rest
  pub opened : Opens old new front
