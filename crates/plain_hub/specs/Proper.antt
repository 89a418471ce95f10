-- What a call asks of its caller, and what follows for the items that the hub gives.
use Rattle.std.specs.Prelude.{◌≡◌, ◌≢◌, ℕ, ◌+◌, ◌<◌, ◌≤◌, List, [], ◌∷◌, ◌++◌, length, take, drop, Bool, true, false, ◌==◌, None, Some, IfSome, Contains}
use Rattle.std.specs.declared.option.Option.{Option}
use Rattle.plain_hub.specs.declared.base.Base.{Base}
use Rattle.plain_hub.specs.declared.job.Job.{Job}
use Rattle.plain_hub.specs.declared.item.Item.{Item}
use Rattle.plain_hub.specs.declared.item.Item.TheVariants as item
use Rattle.plain_hub.specs.declared.item.Short.{Short}
use Rattle.plain_hub.specs.declared.item.Short.TheVariants.{Done, Console, Packet}
use Rattle.plain_hub.specs.declared.entry.Call.{Call}
use Rattle.plain_hub.specs.declared.entry.Call.TheVariants.{Issue, Claim, Post, Flush, TakeDone, End, Stop}
use Rattle.plain_hub.specs.declared.entry.Entry.{Entry}
use Rattle.plain_hub.specs.Hub.{state_of, job_of, has_end, entry}
use Rattle.plain_hub.specs.Past.{Past}

-- 1 where it is so
abbrev pub one_if : Bool → ℕ
one_if true = 1
one_if false = 0

-- 1 where the call claims this id, and else 0
abbrev pub is_claim : ℕ → Call → ℕ
is_claim id (Issue j) = 0
is_claim id (Claim j) = one_if (j.id == id)
is_claim id (Post x) = 0
is_claim id (Flush n) = 0
is_claim id (TakeDone i ok) = 0
is_claim id (End why) = 0
is_claim id Stop = 0

-- 1 where it is the Done of this id, and else 0
abbrev pub is_done_of : ℕ → Short → ℕ
is_done_of id (Done i ok) = one_if (i == id)
is_done_of id (Console b) = 0
is_done_of id (Packet b) = 0

-- 1 where the call posts the Done of this id, and else 0
abbrev pub is_post : ℕ → Call → ℕ
is_post id (Issue j) = 0
is_post id (Claim j) = 0
is_post id (Post x) = is_done_of id x
is_post id (Flush n) = 0
is_post id (TakeDone i ok) = 0
is_post id (End why) = 0
is_post id Stop = 0

-- how often an id was claimed
abbrev pub claims : ℕ → List Entry → ℕ
claims id [] = 0
claims id (e ∷ es) = is_claim id e.call + claims id es

-- how often its Done was posted
abbrev pub posts : ℕ → List Entry → ℕ
posts id [] = 0
posts id (e ∷ es) = is_post id e.call + posts id es

-- where its length isn't 0, the job's range lies in the base
abbrev pub LiesIn : Base → Job → Type 0
LiesIn b j = j.len ≢ 0 → j.at + j.len ≤ b.len

-- what a console item has: 1 to 256 bytes
abbrev pub IsPiece : List ℕ → Type 0
IsPiece xs = (1 ≤ length xs) × (length xs ≤ 256)

-- what a packet has: 14 to 1514 bytes
abbrev pub IsPacket : List ℕ → Type 0
IsPacket xs = (14 ≤ length xs) × (length xs ≤ 1514)

-- what was read for a job: nothing, and then the job asks for something; or as many bytes as it
-- asks for, which are the base's where it tells them
abbrev pub Answers : Base → Job → Option (List ℕ) → Type 0
Answers b j None = j.len ≢ 0
Answers b j (Some xs) =
    (length xs ≡ j.len) × IfSome b.bytes (λ all. xs ≡ take j.len (drop j.at all))

-- the pass has claimed this job, and nobody has posted its Done
abbrev pub Owes : List Entry → ℕ → Job → Type 0
Owes es p j = Contains es (entry p (Claim j)) × (posts j.id es ≡ 0)

-- the pass may post this item
abbrev pub MayPost : Past → ℕ → Item → Type 0
MayPost h p (item.Done id read) =
    (j : Job) × (j.id ≡ id) × Owes h.entries p j × Answers h.base j read
MayPost h p (item.Console xs) = IsPiece xs
MayPost h p (item.Packet xs) = IsPacket xs

-- what the history keeps of that
abbrev pub MeetsPost : List Entry → ℕ → Short → Type 0
MeetsPost es p (Done id ok) =
    (j : Job) × (j.id ≡ id) × Owes es p j × (ok ≡ false → j.len ≢ 0)
MeetsPost es p (Console xs) = IsPiece xs
MeetsPost es p (Packet xs) = IsPacket xs

-- the call met its condition, after these entries
abbrev pub Meets : Base → List Entry → ℕ → Call → Type 0
Meets b es p (Issue j) = LiesIn b j
Meets b es p (Claim j) = Unit {0}
Meets b es p (Post x) = MeetsPost es p x
Meets b es p (Flush n) = Unit {0}
Meets b es p (TakeDone id ok) = Unit {0}
Meets b es p (End why) = (p < 17) × (has_end p es ≡ false)
Meets b es p Stop = Unit {0}

-- each call met its condition, after those that were seen before
abbrev pub ProperFrom : Base → List Entry → List Entry → Type 0
ProperFrom b seen [] = Unit {0}
ProperFrom b seen (e ∷ es) = Meets b seen e.pass e.call × ProperFrom b (seen ++ e ∷ []) es

-- each call of the history met its condition
abbrev pub Proper : Base → List Entry → Type 0
Proper b es = ProperFrom b [] es

-- what holds of an item that the hub gives: a Done answers the job of its id, and no other Done
-- of that id was posted
abbrev pub Promised : Base → List Entry → Item → Type 0
Promised b es (item.Done id read) =
    (j : Job) × (job_of id (state_of es).issued ≡ Some j) × Answers b j read × (posts id es ≡ 1)
Promised b es (item.Console xs) = IsPiece xs
Promised b es (item.Packet xs) = IsPacket xs
