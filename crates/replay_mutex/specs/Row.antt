-- All passes of a hub.
use Rattle.std.specs.Prelude.{◌≡◌, ℕ, zero, suc, ◌<◌, ◌≤◌, List, [], length, slice_index_or, Bool, true, false, ◌&&◌, ◌==◌, All, find, None, Some}
use Rattle.std.specs.declared.option.Option.{Option}
use Rattle.std.specs.List.{list_any}
use Rattle.atomic_table.specs.Seated.{TableId}
use Rattle.plain_hub.specs.declared.base.Base.{Base}
use Rattle.plain_hub.specs.declared.entry.Entry.{Entry}
use Rattle.plain_hub.specs.Hub.{Legal}
use Rattle.plain_hub.specs.Proper.{Proper}
use Rattle.replay_mutex.specs.declared.pass.Pass.{Pass}
use Rattle.replay_mutex.specs.Views.{StartsWith, calls_by, newcomer}
use Rattle.replay_mutex.specs.Shown.{knows, table_of}

-- the pass 0 knows how many were made
abbrev pub made_at : ℕ → ℕ → ℕ
made_at count zero = count
made_at count (suc k) = 0

-- new passes of one hub, each at the place of its number
abbrev pub AreNew : TableId → Base → ℕ → List Pass → Type 0
AreNew z b count ps = (k : ℕ) (p : Pass) → k < length ps
    → (table_of (slice_index_or ps k p) ≡ z)
    × (knows (slice_index_or ps k p) ≡ newcomer b k (made_at count k))

-- a pass of this number is there
abbrev pub has_number : ℕ → List Pass → Bool
has_number n ps = list_any (λ p. p.number == n) ps

-- each number below n is there
abbrev pub has_below : ℕ → List Pass → Bool
has_below zero ps = true
has_below (suc n) ps = has_number n ps && has_below n ps

-- as many as this pass knows, with each number below that
abbrev pub are_all_with : Option Pass → List Pass → Bool
are_all_with None ps = false
are_all_with (Some first) ps = (length ps == first.made) && has_below first.made ps

-- all passes of their hub, each once: the pass 0 is there, which knows how many there are
abbrev pub are_all : List Pass → Bool
are_all ps = are_all_with (find (λ p. p.number == 0) ps) ps

-- the pass had seen a beginning of this history, and its own calls are all with its number
abbrev pub Ended : List Entry → Pass → Type 0
Ended h p = StartsWith h (knows p).seen × (calls_by (knows p).number h ≡ (knows p).mine)

-- the history of all these passes: a legal one, in which each call met its condition
pub record IsWhole (h : List Entry) (ps : List Pass) : Type 0 where
  pub legal : Legal h
  pub proper : All (λ p. Proper (knows p).base h) ps
  pub ended : All (Ended h) ps
  -- it has no other calls
  pub others : (n : ℕ) → length ps ≤ n → calls_by n h ≡ []
