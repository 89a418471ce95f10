-- The hub of one thread, as a table of its calls, and its histories.
use Rattle.std.specs.Prelude.{◌≡◌, ◌≢◌, ℕ, zero, suc, ◌+◌, List, [], ◌∷◌, ◌++◌, length, Bool, true, false, ◌||◌, ◌==◌, if◌then◌else◌, None, Some, find}
use Rattle.std.specs.declared.option.Option.{Option}
use Rattle.plain_hub.specs.declared.job.Job.{Job}
use Rattle.plain_hub.specs.declared.trouble.Why.{Why}
use Rattle.plain_hub.specs.declared.trouble.Why.TheVariants.{Ended, Fault, NoMemory}
use Rattle.plain_hub.specs.declared.item.Short.{Short}
use Rattle.plain_hub.specs.declared.item.Short.TheVariants.{Done, Console, Packet}
use Rattle.plain_hub.specs.declared.entry.Call.{Call}
use Rattle.plain_hub.specs.declared.entry.Call.TheVariants.{Issue, Claim, Post, Flush, TakeDone, End, Stop}
use Rattle.plain_hub.specs.declared.entry.Entry.{Entry}

-- what the hub has
pub record State : Type 0 where
  -- the jobs that nobody has claimed, and all that were ever issued
  pub jobs : List Job
  pub issued : List Job
  -- the posted items that were not taken
  pub items : List Short
  -- how many passes have ended, and the first of them that ended by a fault or without memory
  pub ended : ℕ
  pub trouble : Option (ℕ × Why)
  pub stopped : Bool

-- the hub at the start
abbrev pub empty : State
empty = record { jobs = []; issued = []; items = []; ended = 0; trouble = None; stopped = false }

-- the job of this id
abbrev pub job_of : ℕ → List Job → Option Job
job_of id jobs = find (λ j. j.id == id) jobs

-- the jobs behind the first
abbrev pub rest_of : List Job → List Job
rest_of [] = []
rest_of (j ∷ js) = js

-- whether the first Done of an id has bytes, where there is one
abbrev pub done_of : ℕ → List Short → Option Bool
done_of id [] = None
done_of id (Done i ok ∷ xs) = if i == id then Some ok else done_of id xs
done_of id (Console b ∷ xs) = done_of id xs
done_of id (Packet b ∷ xs) = done_of id xs

-- the items without the first Done of an id
abbrev pub without : ℕ → List Short → List Short
without id [] = []
without id (Done i ok ∷ xs) = if i == id then xs else Done i ok ∷ without id xs
without id (Console b ∷ xs) = Console b ∷ without id xs
without id (Packet b ∷ xs) = Packet b ∷ without id xs

-- the trouble of a pass that ended
abbrev pub trouble_at : ℕ → Why → Option (ℕ × Why)
trouble_at p Ended = None
trouble_at p Fault = Some (p, Fault)
trouble_at p NoMemory = Some (p, NoMemory)

-- the earlier of two troubles
abbrev pub first_of_two : Option (ℕ × Why) → Option (ℕ × Why) → Option (ℕ × Why)
first_of_two None later = later
first_of_two (Some earlier) later = Some earlier

-- the hub after a call
abbrev pub after : State → ℕ → Call → State
after s p (Issue j) = record s { jobs = s.jobs ++ j ∷ []; issued = s.issued ++ j ∷ [] }
after s p (Claim j) = record s { jobs = rest_of s.jobs }
after s p (Post x) = record s { items = s.items ++ x ∷ [] }
after s p (Flush n) = record s { items = [] }
after s p (TakeDone id ok) = record s { items = without id s.items }
after s p (End why) = record s {
  ended = s.ended + 1;
  trouble = first_of_two s.trouble (trouble_at p why);
}
after s p Stop = record s { stopped = true }

-- which calls stand there, and with which replies
abbrev pub Allows : State → ℕ → Call → Type 0
Allows s p (Issue j) = (p ≡ 0) × (job_of j.id s.issued ≡ None)
Allows s p (Claim j) = (p ≢ 0) × (s.stopped ≡ false) × (s.jobs ≡ j ∷ rest_of s.jobs)
Allows s p (Post x) = (p ≢ 0) × (s.stopped ≡ false)
Allows s p (Flush n) = (p ≡ 0) × (n ≡ length s.items)
Allows s p (TakeDone id ok) = (p ≡ 0) × (done_of id s.items ≡ Some ok)
Allows s p (End why) = p ≢ 0
Allows s p Stop = (p ≡ 0) × (s.stopped ≡ false)

-- the hub after a history that begins at a hub
abbrev pub state_from : State → List Entry → State
state_from s [] = s
state_from s (e ∷ es) = state_from (after s e.pass e.call) es

-- each reply is the one that the hub gives there, and each pass makes only calls of its kind
abbrev pub LegalFrom : State → List Entry → Type 0
LegalFrom s [] = Unit {0}
LegalFrom s (e ∷ es) = Allows s e.pass e.call × LegalFrom (after s e.pass e.call) es

-- what the hub of one thread has after a history
abbrev pub state_of : List Entry → State
state_of es = state_from empty es

-- a history that the hub of one thread can have
abbrev pub Legal : List Entry → Type 0
Legal es = LegalFrom empty es

-- a call of a pass
abbrev pub entry : ℕ → Call → Entry
entry p c = record { pass = p; call = c }

-- whether it is an end
abbrev pub is_end : Call → Bool
is_end (Issue j) = false
is_end (Claim j) = false
is_end (Post x) = false
is_end (Flush n) = false
is_end (TakeDone id ok) = false
is_end (End why) = true
is_end Stop = false

-- whether a pass has ended
abbrev pub has_end : ℕ → List Entry → Bool
has_end p [] = false
has_end p (e ∷ es) = (if e.pass == p then is_end e.call else false) || has_end p es

-- 1 where it isn't so
abbrev pub one_unless : Bool → ℕ
one_unless true = 0
one_unless false = 1

-- how many of the passes below n have not ended
abbrev pub left_below : ℕ → List Entry → ℕ
left_below zero es = 0
left_below (suc n) es = left_below n es + one_unless (has_end n es)

-- the entries that may still come without room being made: 17 ends at most, and one stop
abbrev pub to_come : List Entry → ℕ
to_come es = left_below 17 es + one_unless ((state_of es).stopped)
