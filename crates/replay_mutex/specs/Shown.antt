-- What a call tells of its pass.
use Rattle.std.specs.Prelude.{◌≡◌, ℕ, List, [], ◌∷◌, ◌++◌, length, Bool, true, false, ◌||◌}
use Rattle.atomic_table.specs.Seated.{TableId}
use Rattle.plain_hub.specs.declared.job.Job.{Job}
use Rattle.plain_hub.specs.declared.entry.Call.{Call}
use Rattle.plain_hub.specs.declared.entry.Call.TheVariants.{Issue, Claim, Post, Flush, TakeDone, End, Stop}
use Rattle.plain_hub.specs.declared.entry.Entry.{Entry}
use Rattle.plain_hub.specs.Hub.{Legal, entry}
use Rattle.plain_hub.specs.Past.{Past, past}
use Rattle.replay_mutex.specs.declared.view.View.{View}
use Rattle.replay_mutex.specs.declared.pass.Pass.{Pass}
use Rattle.replay_mutex.specs.declared.hub.Hub.{Hub}
use Rattle.replay_mutex.specs.Views.{StartsWith, calls_by}

-- what a pass knows
abbrev pub knows : Pass → View
knows p = p.seat.me.0

-- the table at which a pass sits
abbrev pub table_of : Pass → TableId
table_of p = p.seat.table_id

-- the table of a hub
abbrev pub board_of : Hub → TableId
board_of h = h.board.shared.table_id

-- the pass is one of this hub
abbrev pub IsPassOf : Hub → Pass → Type 0
IsPassOf h p = table_of p ≡ board_of h

-- the same pass of the same hub
pub record IsSame (p q : Pass) : Type 0 where
  pub table : table_of q ≡ table_of p
  pub base : (knows q).base ≡ (knows p).base
  pub number : (knows q).number ≡ (knows p).number
  pub made : (knows q).made ≡ (knows p).made

-- the job that a call issued
abbrev pub issued_by : Call → List Job
issued_by (Issue j) = j ∷ []
issued_by (Claim j) = []
issued_by (Post x) = []
issued_by (Flush n) = []
issued_by (TakeDone id ok) = []
issued_by (End why) = []
issued_by Stop = []

-- the jobs that were issued, in order
abbrev pub issued_in : List Entry → List Job
issued_in [] = []
issued_in (e ∷ es) = issued_by e.call ++ issued_in es

-- whether it is a stop
abbrev pub is_stop : Call → Bool
is_stop (Issue j) = false
is_stop (Claim j) = false
is_stop (Post x) = false
is_stop (Flush n) = false
is_stop (TakeDone id ok) = false
is_stop (End why) = false
is_stop Stop = true

-- whether the hub was stopped by one of these calls
abbrev pub has_stop : List Entry → Bool
has_stop [] = false
has_stop (e ∷ es) = is_stop e.call || has_stop es

-- the base and the pass's own calls
abbrev pub own : View → Past
own v = past v.base v.mine

-- the pass has seen a legal history that begins with what it had seen, and its own calls are all
-- that this history has of its number
abbrev pub Goes : View → View → Type 0
Goes v w =
    (w.base ≡ v.base) × (w.number ≡ v.number) × StartsWith w.seen v.seen × Legal w.seen
    × (calls_by w.number w.seen ≡ w.mine)

-- the history that it has seen ends with this call, which is one more of its own
abbrev pub Makes : View → View → Call → Type 0
Makes v w c =
    Goes v w
    × ((before : List Entry) × StartsWith before v.seen
    × (w.seen ≡ before ++ entry v.number c ∷ []))
    × (w.mine ≡ v.mine ++ entry v.number c ∷ [])

-- it has seen the first k entries, and its own calls are the same
abbrev pub Looks : View → View → ℕ → Type 0
Looks v w k = Goes v w × (k ≡ length w.seen) × (w.mine ≡ v.mine)
