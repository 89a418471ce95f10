-- What passes know, and how that changes.
use Rattle.std.specs.Prelude.{◌≡◌, ℕ, ◌+◌, List, [], ◌∷◌, ◌++◌, length, Bool, true, false, ◌||◌, ◌==◌, if◌then◌else◌, nat_le, None}
use Rattle.std.specs.declared.option.Option.{Option}
use Rattle.plain_hub.specs.declared.base.Base.{Base}
use Rattle.plain_hub.specs.declared.entry.Entry.{Entry}
use Rattle.plain_hub.specs.Base.{nothing}
use Rattle.plain_hub.specs.Past.{Past}
use Rattle.atomic_table.specs.Table.{Me}
use Rattle.replay_mutex.specs.declared.view.View.{View}
use Rattle.replay_mutex.specs.declared.view.Joined.{Joined}

-- a slot holds the hub, which contracts see as its base and its history, or nothing
abbrev pub Slot : Type 0
Slot = Option Past

-- a pass's view, and the slots that it has taken out
abbrev pub Sits : Type 0
Sits = Me Slot View

-- the history begins with what was seen
abbrev pub StartsWith : List Entry → List Entry → Type 0
StartsWith log seen = (more : List Entry) × (log ≡ seen ++ more)

-- the entries of one pass, in order
abbrev pub calls_by : ℕ → List Entry → List Entry
calls_by p [] = []
calls_by p (e ∷ es) = if e.pass == p then e ∷ calls_by p es else calls_by p es

-- whether a pass of this number was taken in
abbrev pub is_joined : ℕ → List Joined → Bool
is_joined n [] = false
is_joined n (x ∷ xs) = (x.number == n) || is_joined n xs

-- the longer of two histories
abbrev pub longer : List Entry → List Entry → List Entry
longer xs ys = if nat_le (length ys) (length xs) then xs else ys

-- a pass of this number that has seen and called nothing
abbrev pub newcomer : Base → ℕ → ℕ → View
newcomer b n made = record {
  base = b;
  number = n;
  spent = false;
  noted = None;
  seen = [];
  mine = [];
  made = made;
  joined = [];
  earlier = [];
}

-- one pass more was made
abbrev pub one_more : View → View
one_more v = record v { made = v.made + 1 }

-- what is kept of a pass that was taken in
abbrev pub joined : View → Joined
joined w = record { base = w.base; number = w.number; seen = w.seen; mine = w.mine }

-- the first pass keeps the longer of both histories, and what the other knew
abbrev pub taken_in : View → View → View
taken_in v w = record v {
  seen = longer v.seen w.seen;
  joined = v.joined ++ joined w ∷ [];
  earlier = v.earlier ++ v.seen ∷ [];
}

-- what is left of a pass that was taken in
abbrev pub spent : View
spent = record (newcomer nothing 0 0) { spent = true }

-- the pass has noted, seen and called this
abbrev pub knowing : View → Option (List Entry) → List Entry → List Entry → View
knowing v noted seen mine = record v { noted = noted; seen = seen; mine = mine }
