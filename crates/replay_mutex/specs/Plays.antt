-- What each kind of step tells its pass.
use Rattle.std.specs.Prelude.{◌≡◌, ℕ, List, [], ◌∷◌, ◌++◌, length, drop, ◌==◌, None, Some, MatchBool}
use Rattle.std.specs.declared.option.Option.{Option}
use Rattle.atomic_table.specs.Table.{Step}
use Rattle.plain_hub.specs.declared.entry.Entry.{Entry}
use Rattle.plain_hub.specs.Hub.{Legal}
use Rattle.plain_hub.specs.Past.{Past}
use Rattle.replay_mutex.specs.declared.view.View.{View}
use Rattle.replay_mutex.specs.Views.{Slot, Sits, StartsWith, calls_by, knowing}

-- the history that was noted, if one was
abbrev pub or_none : Option (List Entry) → List Entry
or_none None = []
or_none (Some h) = h

-- the history of the hub in a slot
abbrev pub in_slot : Slot → List Entry
in_slot None = []
in_slot (Some h) = h.entries

-- the history of the hub in the slot that was taken last
abbrev pub in_hand : List (ℕ × Slot) → List Entry
in_hand [] = []
in_hand (x ∷ xs) = in_slot x.1

-- the hub's history is legal and begins with what the pass has seen, the pass has just its own
-- calls in it, and the base is the pass's
abbrev pub IsNew : View → Past → Type 0
IsNew v h =
    StartsWith h.entries v.seen × (calls_by v.number h.entries ≡ v.mine) × Legal h.entries
    × (h.base ≡ v.base)

-- the slot was taken out, and the history that the hub has is noted
abbrev pub Took : Sits → Sits → Type 0
Took m m' =
    (h : Past) × IsNew m.0 h
    × (m' ≡ (knowing m.0 (Some h.entries) m.0.seen m.0.mine, (0, Some h) ∷ m.1))

-- it was taken out, or nothing changed
abbrev pub Takes : Step Slot → Sits → ℕ → Sits → Type 0
Takes st m found m' = MatchBool (found == 0) (Took m m') (m' ≡ m)

-- the history in hand is noted and seen, and what it has more than the noted one is the pass's own
abbrev pub counted : View → List Entry → View
counted v h = knowing v (Some h) h (v.mine ++ drop (length (or_none v.noted)) h)

-- the history was counted, one entry longer
abbrev pub Counts : Step Slot → Sits → ℕ → Sits → Type 0
Counts st m found m' = m' ≡ (counted m.0 (in_hand m.1), m.1)

-- the noted history is seen, and its length found
abbrev pub Loads : Step Slot → Sits → ℕ → Sits → Type 0
Loads st m found m' =
    (m' ≡ (knowing m.0 m.0.noted (or_none m.0.noted) m.0.mine, m.1))
    × (found ≡ length (or_none m.0.noted))

-- the slot is out no more, and nothing is noted
abbrev pub Returns : Step Slot → Sits → ℕ → Sits → Type 0
Returns st m found m' = m' ≡ (knowing m.0 None m.0.seen m.0.mine, [])
