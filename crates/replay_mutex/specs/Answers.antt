-- What a call gives, and when it is refused.
use Rattle.std.specs.Prelude.{◌≡◌, ◌≢◌, ℕ, List, [], ◌∷◌, ◌++◌, true, false, None, Bool, All, length, vec_len}
use Rattle.plain_hub.specs.declared.entry.Entry.{Entry}
use Rattle.plain_hub.specs.declared.entry.Call.TheVariants.{Flush, TakeDone}
use Rattle.plain_hub.specs.declared.item.Item.{Item}
use Rattle.plain_hub.specs.declared.item.Short.TheVariants.{Done}
use Rattle.plain_hub.specs.declared.replies.Flushed.{Flushed}
use Rattle.plain_hub.specs.Hub.{state_of, done_of}
use Rattle.plain_hub.specs.Items.{short}
use Rattle.plain_hub.specs.Proper.{Promised}
use Rattle.plain_hub.specs.Replies.{Gives}
use Rattle.replay_mutex.specs.declared.view.View.{View}
use Rattle.replay_mutex.specs.declared.machine.Look.{Look}
use Rattle.replay_mutex.specs.declared.errors.TakeError.{TakeError}
use Rattle.replay_mutex.specs.declared.errors.TakeError.TheVariants as take
use Rattle.replay_mutex.specs.declared.errors.PostError.{PostError}
use Rattle.replay_mutex.specs.declared.errors.PostError.TheVariants as post
use Rattle.replay_mutex.specs.declared.errors.ClaimError.{ClaimError}
use Rattle.replay_mutex.specs.declared.errors.ClaimError.TheVariants as claim
use Rattle.replay_mutex.specs.Shown.{Goes, Makes, Looks}

-- after the first k entries the hub isn't stopped and has no job, or it is stopped;
-- memory is refused only where a job is there
abbrev pub ClaimFails : View → View → ClaimError → Type 0
ClaimFails v w (claim.Empty k) =
    Looks v w k × ((state_of w.seen).stopped ≡ false) × ((state_of w.seen).jobs ≡ [])
ClaimFails v w (claim.Stopped k) = Looks v w k × ((state_of w.seen).stopped ≡ true)
ClaimFails v w claim.NoMemory =
    Looks v w (length w.seen) × ((state_of w.seen).stopped ≡ false) × ((state_of w.seen).jobs ≢ [])

-- after the first k entries the hub is stopped, or it isn't and memory is refused; the item comes
-- back
abbrev pub PostFails : View → View → Item → PostError → Type 0
PostFails v w x (post.Stopped k y) =
    Looks v w k × ((state_of w.seen).stopped ≡ true) × (y ≡ x)
PostFails v w x (post.NoMemory y) =
    Looks v w (length w.seen) × ((state_of w.seen).stopped ≡ false) × (y ≡ x)

-- after the first k entries no posted item is the Done of this id; memory is refused only where
-- one is
abbrev pub TakeFails : View → View → ℕ → TakeError → Type 0
TakeFails v w id (take.NotYet k) = Looks v w k × (done_of id (state_of w.seen).items ≡ None)
TakeFails v w id take.NoMemory =
    Looks v w (length w.seen) × (done_of id (state_of w.seen).items ≢ None)

-- the Done was taken, and it is as promised
abbrev pub TakesDone : View → View → ℕ → Item → Type 0
TakesDone v w id x =
    ((ok : Bool) × (short x ≡ Done id ok) × Makes v w (TakeDone id ok)) × Promised w.base w.seen x

-- what the hub had before the last entry was given: all items in order, each as promised
abbrev pub GivesAll : View → View → Flushed → Type 0
GivesAll v w t =
    Makes v w (Flush (vec_len t.items))
    × ((before : List Entry) × (last : Entry)
    × (w.seen ≡ before ++ last ∷ []) × Gives (state_of before) t)
    × All (Promised w.base w.seen) t.items.items

-- what the hub has after the first `at` entries
abbrev pub LooksAt : View → View → Look → Type 0
LooksAt v w l =
    Looks v w l.at × (l.waiting ≡ length (state_of w.seen).items)
    × (l.ended ≡ (state_of w.seen).ended) × (l.trouble ≡ (state_of w.seen).trouble)

-- the hub was stopped already
abbrev pub WasStopped : View → View → Type 0
WasStopped v w = Goes v w × (w.mine ≡ v.mine) × ((state_of w.seen).stopped ≡ true)
