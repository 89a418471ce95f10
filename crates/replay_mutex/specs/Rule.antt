-- The rule of the hub's table, which holds between any two steps. Word 0 is the lock: the holder's
-- number plus 1, or 0. Word 1 counts the history. The one slot is the hub's place. A pass that was
-- taken in is spent, and the rule says nothing of it.
use Rattle.std.specs.Prelude.{◌≡◌, ◌≢◌, ℕ, ◌+◌, ◌<◌, ◌≤◌, List, [], ◌∷◌, length, false, Some}
use mathlib.Core.Option.{some}
use lib.ListN.{get_elem?}
use Rattle.atomic_table.specs.Table.{State}
use Rattle.plain_hub.specs.declared.base.Base.{Base}
use Rattle.plain_hub.specs.declared.entry.Entry.{Entry}
use Rattle.plain_hub.specs.Hub.{Legal}
use Rattle.plain_hub.specs.Past.{past}
use Rattle.replay_mutex.specs.declared.view.View.{View}
use Rattle.replay_mutex.specs.declared.view.Joined.{Joined}
use Rattle.replay_mutex.specs.Views.{Slot, StartsWith, calls_by, is_joined}

-- of one pass: it has seen a beginning of the history, its own calls are all that the history has
-- of its number, and while it holds the hub the lock has its number and it has noted the history
pub record Fits (log : List Entry) (lock : ℕ) (v : View) : Type 0 where
  pub begins : StartsWith log v.seen
  pub own : calls_by v.number log ≡ v.mine
  pub own_seen : calls_by v.number v.seen ≡ v.mine
  pub earlier : (k : ℕ) (x : List Entry) → get_elem? v.earlier k ≡ some x → StartsWith log x
  pub held : (h : List Entry) → v.noted ≡ Some h → (lock ≡ v.number + 1) × (h ≡ log)

-- of the pass 0: the others have the numbers below `made`, each that it took in is gone and had
-- made all calls of its number, and numbers that were not made have no entry
pub record Keeps (log : List Entry) (views : List View) (v : View) : Type 0 where
  pub others : (j : ℕ) (u : View) → get_elem? views j ≡ some u → u.spent ≡ false
      → (u.number < v.made) × (is_joined u.number v.joined ≡ false)
  pub unmade : (n : ℕ) → v.made ≤ n → calls_by n log ≡ []
  pub gone : (k : ℕ) (x : Joined) → get_elem? v.joined k ≡ some x
      → StartsWith log x.seen × (calls_by x.number log ≡ x.mine) × (x.number < v.made)
      × (x.base ≡ v.base)

-- the whole rule, over one base, one history and the lock
pub record Ruled (s : State Slot View) : Type 0 where
  pub base : Base
  pub log : List Entry
  pub lock : ℕ
  pub words : s.words ≡ lock ∷ length log ∷ []
  pub legal : Legal log
  -- the history is the longest that was seen
  pub top : (i : ℕ) × (v : View)
      × (get_elem? s.views i ≡ some v) × (v.spent ≡ false) × (v.seen ≡ log)
  -- where nobody holds the lock, the hub is home; else its holder has noted the history
  pub home : lock ≡ 0 → s.homes ≡ some (Some (past base log)) ∷ []
  pub holder : lock ≢ 0 → (i : ℕ) × (v : View)
      × (get_elem? s.views i ≡ some v) × (v.spent ≡ false) × (v.noted ≡ Some log)
  -- all passes name one base, and each has a number of its own
  pub based : (i : ℕ) (v : View) → get_elem? s.views i ≡ some v → v.spent ≡ false → v.base ≡ base
  pub distinct : (i j : ℕ) (v w : View) → get_elem? s.views i ≡ some v
      → get_elem? s.views j ≡ some w → v.spent ≡ false → w.spent ≡ false
      → v.number ≡ w.number → i ≡ j
  pub each : (i : ℕ) (v : View) → get_elem? s.views i ≡ some v → v.spent ≡ false → Fits log lock v
  pub keeps : (i : ℕ) (v : View) → get_elem? s.views i ≡ some v → v.spent ≡ false
      → v.number ≡ 0 → Keeps log s.views v
