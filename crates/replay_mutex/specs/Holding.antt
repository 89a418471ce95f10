-- What a pass holds.
use Rattle.std.specs.Prelude.{◌≡◌, [], ◌∷◌, false, None, Some}
use Rattle.atomic_table.specs.Seated.{TableId}
use Rattle.plain_hub.specs.Past.{Past}
use Rattle.replay_mutex.specs.Views.{Sits}

-- a table of two words and one slot
abbrev pub IsBoard : TableId → Type 0
IsBoard z = (z.words ≡ 2) × (z.slots ≡ 1)

-- it holds nothing
abbrev pub Rests : Sits → Type 0
Rests m = (m.0.spent ≡ false) × (m.0.noted ≡ None) × (m.1 ≡ [])

-- it holds the slot, from which this hub was moved out
abbrev pub Holds : Sits → Past → Type 0
Holds m h =
    (m.0.spent ≡ false) × (m.0.noted ≡ Some h.entries) × (h.base ≡ m.0.base)
    × (m.1 ≡ (0, None) ∷ [])
