-- Fronts of the spellings of events.
use Rattle.std.specs.Prelude.{◌≡◌, ◌≢◌, List, [], ◌∷◌, ◌++◌, ℕ}
use Rattle.event_log.specs.declared.event.Event.{Event}
use Rattle.event_log.specs.Spelling.{text, texts}

-- a part of the first event's spelling, and not all of it; nothing where no event is left
abbrev pub IsPartOfNext : List Event → List ℕ → Type 0
IsPartOfNext [] part = part ≡ []
IsPartOfNext (e ∷ es) part = (rest : List ℕ) × (text e ≡ part ++ rest) × (rest ≢ [])

-- the spellings of the first events, and a part of the next one's
pub record FrontOfTexts (es : List Event) (front : List ℕ) : Type 0 where
  pub whole : List Event
  pub left : List Event
  pub part : List ℕ
  pub events : es ≡ whole ++ left
  pub bytes : front ≡ texts whole ++ part
  pub next : IsPartOfNext left part
