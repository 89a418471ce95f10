-- When a call is refused, and what it gives.
use Rattle.std.specs.Prelude.{◌≡◌, ◌≢◌, ℕ, [], true, false, map, length, None}
use Rattle.plain_hub.specs.declared.replies.ClaimRefusal.{ClaimRefusal}
use Rattle.plain_hub.specs.declared.replies.ClaimRefusal.TheVariants as claim
use Rattle.plain_hub.specs.declared.replies.PostRefusal.{PostRefusal}
use Rattle.plain_hub.specs.declared.replies.PostRefusal.TheVariants as post
use Rattle.plain_hub.specs.declared.replies.TakeRefusal.{TakeRefusal}
use Rattle.plain_hub.specs.declared.replies.TakeRefusal.TheVariants as take
use Rattle.plain_hub.specs.declared.replies.Flushed.{Flushed}
use Rattle.plain_hub.specs.declared.replies.Sight.{Sight}
use Rattle.plain_hub.specs.declared.item.Item.{Item}
use Rattle.plain_hub.specs.Hub.{State, done_of}
use Rattle.plain_hub.specs.Items.{short}

-- it is stopped, or no job is there; memory is refused only where it could else claim
abbrev pub ClaimRefuses : State → ClaimRefusal → Type 0
ClaimRefuses s claim.Empty = (s.stopped ≡ false) × (s.jobs ≡ [])
ClaimRefuses s claim.Stopped = s.stopped ≡ true
ClaimRefuses s claim.NoMemory = (s.stopped ≡ false) × (s.jobs ≢ [])

-- it is stopped; the item comes back
abbrev pub PostRefuses : State → Item → PostRefusal → Type 0
PostRefuses s x (post.Stopped y) = (s.stopped ≡ true) × (y ≡ x)
PostRefuses s x (post.NoMemory y) = (s.stopped ≡ false) × (y ≡ x)

-- no posted item is the Done of this id; memory is refused only where one is
abbrev pub TakeRefuses : State → ℕ → TakeRefusal → Type 0
TakeRefuses s id take.NotYet = done_of id s.items ≡ None
TakeRefuses s id take.NoMemory = done_of id s.items ≢ None

-- all posted items, the number of ends and the first trouble
abbrev pub Gives : State → Flushed → Type 0
Gives s t = (map short t.items.items ≡ s.items) × (t.ended ≡ s.ended) × (t.trouble ≡ s.trouble)

-- the number of posted items, the number of ends and the first trouble
abbrev pub Sees : State → Sight → Type 0
Sees s t = (t.waiting ≡ length s.items) × (t.ended ≡ s.ended) × (t.trouble ≡ s.trouble)
