-- What a list of a log's events gives: the grammar alone is asked, and no machine.
use Rattle.std.specs.Prelude.{◌≡◌, ◌≢◌, ◌<◌, ◌≤◌, ℕ, ◌+◌, ◌^◌, ◌⊎◌, Bool, true, false, List, [], ◌∷◌, ◌++◌, length, IfSome, ⊤}
use Rattle.std.specs.declared.option.Option.{Option}
use Rattle.std.specs.List.{AllByRecursion}
use Rattle.outside.specs.Causes.{Rose}
use Rattle.outside.specs.Told.{Takes}
use Rattle.event_log.specs.declared.event.Event.{Event}
use Rattle.event_log.specs.declared.event.Event.TheVariants as event_is
use Rattle.event_log.specs.declared.parse.ParseError.TheVariants as parse
use Rattle.event_log.specs.declared.stream_error.StreamError.{StreamError}
use Rattle.event_log.specs.declared.stream_error.StreamError.TheVariants as stream
use Rattle.event_log.specs.Grammar.{Stops, Cut, Bad}
use Rattle.event_log.specs.Spelling.{event, text, texts, IsEvent}
use Rattle.event_log.specs.Reading.{Reader, ahead, to_limit}
use Rattle.board.specs.declared.due.Due.TheVariants as due_is
use Rattle.log_order.specs.declared.refusal.Refusal.{Refusal}
use Rattle.log_order.specs.declared.refusal.Found.{Found}
use Rattle.log_order.specs.declared.refusal.Found.TheVariants as found
use Rattle.event_list.specs.declared.listing.ListEnd.{ListEnd}
use Rattle.event_list.specs.declared.listing.ListEnd.TheVariants.{Whole, Refused, LogRead, LogTooLong, WriteFault, NoMemory}
use Rattle.event_list.specs.Texts.{event_line, event_lines}

abbrev pub is_end : Event → Bool
is_end (event_is.End reason code) = true
is_end e = false

-- END stands last, if at all
unfoldable pub EndIsLast : List Event → Type 0
EndIsLast [] = ⊤
EndIsLast (e ∷ []) = ⊤
EndIsLast (e ∷ f ∷ es) = (is_end e ≡ false) × EndIsLast (f ∷ es)

-- the last event is END
unfoldable pub ended : List Event → Bool
ended [] = false
ended (e ∷ []) = is_end e
ended (e ∷ f ∷ es) = ended (f ∷ es)

-- a log, and a sink with what it took and how often it failed
pub record Listed : Type 0 where
  pub log : Reader
  pub taken : Option (List ℕ)
  pub faults : ℕ

abbrev pub listed : Reader → Option (List ℕ) → ℕ → Listed
listed log taken faults = record { log = log; taken = taken; faults = faults }

-- the place behind these events
abbrev pub behind : List Event → ℕ
behind es = 98 + length (texts es)

-- The log begins with these events, END last if at all, up to its limit of 2^40 bytes at most.
-- Where it tells its bytes, the rest is such.
pub record Begins (log : Reader) (es : List Event) (IsRest : List ℕ → Type 0) : Type 0 where
  pub are : AllByRecursion IsEvent es
  pub one_end : EndIsLast es
  pub within : behind es ≤ 2 ^ 40
  pub spelled : IfSome (ahead log) (λ bytes. (rest : List ℕ) × (bytes ≡ texts es ++ rest)
      × IsRest rest)

-- What is wrong at the front of the rest, which begins at that place, stands before the limit: more
-- bytes, after END; no whole event, at the log's own end; or a broken rule.
abbrev pub IsWrongAt : Bool → ℕ → Found → List ℕ → Type 0
IsWrongAt over place found.MoreBytes rest = (over ≡ true) × (to_limit place rest ≢ [])
IsWrongAt over place found.Cut rest =
    (over ≡ false) × (place + length rest ≤ 2 ^ 40) × Stops event rest Cut
IsWrongAt over place (found.Rule rule) rest =
    (over ≡ false) × Stops event (to_limit place rest) (Bad rule)
IsWrongAt over place (found.Event e) rest = ⊥

-- The rest, which begins at that place, reaches past the limit. Up to it nothing is wrong: an event
-- is cut, or END came and no byte stands there.
abbrev pub IsPastLimit : Bool → ℕ → List ℕ → Type 0
IsPastLimit over place rest =
    (2 ^ 40 < place + length rest)
    × (((over ≡ false) × Stops event (to_limit place rest) Cut)
    ⊎ ((over ≡ true) × (to_limit place rest ≡ [])))

-- that event stands at the front
abbrev pub StartsWith : Event → List ℕ → Type 0
StartsWith e bytes = (rest : List ℕ) × (bytes ≡ text e ++ rest)

-- no device failed
pub record Unfaulted (p q : Listed) : Type 0 where
  pub log : q.log.faults ≡ p.log.faults
  pub sink : q.faults ≡ p.faults

-- the log is these events, the last of which is END, and each has its line
pub record ListsWhole (p q : Listed) : Type 0 where
  pub events : List Event
  pub begins : Begins p.log events (λ rest. rest ≡ [])
  pub over : ended events ≡ true
  pub lines : Takes p.taken q.taken (event_lines events)
  pub unfaulted : Unfaulted p q

-- the log is refused at its first wrong place, where nothing is due
pub record ListsToWrong (p q : Listed) (r : Refusal) : Type 0 where
  pub events : List Event
  pub begins : Begins p.log events (IsWrongAt (ended events) (behind events) r.found)
  pub index : r.index ≡ length events
  pub offset : r.offset ≡ behind events
  pub due : r.due ≡ due_is.Nothing
  pub lines : Takes p.taken q.taken (event_lines events)
  pub unfaulted : Unfaulted p q

-- the log is longer than 2^40 bytes, and none of these is wrong
pub record ListsToLimit (p q : Listed) : Type 0 where
  pub events : List Event
  pub begins : Begins p.log events (IsPastLimit (ended events) (behind events))
  pub lines : Takes p.taken q.taken (event_lines events)
  pub unfaulted : Unfaulted p q

-- the log's source failed behind these events
pub record ListsToFault (p q : Listed) : Type 0 where
  pub events : List Event
  pub begins : Begins p.log events (λ rest. ⊤)
  pub lines : Takes p.taken q.taken (event_lines events)
  pub log : Rose p.log.faults q.log.faults
  pub sink : q.faults ≡ p.faults

-- The list stopped before an event: those before it have their lines, and of its own line this
-- front was taken.
pub record ListsFront (p q : Listed) (front : List ℕ) : Type 0 where
  pub events : List Event
  pub next : Event
  pub is : IsEvent next
  pub going : ended events ≡ false
  pub begins : Begins p.log events (StartsWith next)
  pub line : (rest : List ℕ) × (event_line (length events) (behind events) next ≡ front ++ rest)
  pub lines : Takes p.taken q.taken (event_lines events ++ front)

-- What a list answers, and what it leaves. Memory is refused only where an event stands next.
abbrev pub ListsTo : Listed → Listed → ListEnd → Type 0
ListsTo p q Whole = ListsWhole p q
ListsTo p q (Refused r) = ListsToWrong p q r
ListsTo p q LogRead = ListsToFault p q
ListsTo p q LogTooLong = ListsToLimit p q
ListsTo p q WriteFault =
    (front : List ℕ) × ListsFront p q front × Rose p.faults q.faults
    × (q.log.faults ≡ p.log.faults)
ListsTo p q NoMemory = ListsFront p q [] × Unfaulted p q

-- ---- event by event

-- the refusal of what stands at a place, where nothing is due
abbrev pub refusal_of : ℕ → ℕ → Found → Refusal
refusal_of index offset f =
    record { index = index; offset = offset; due = due_is.Nothing; found = f }

-- how a list ends that the log gives no more
abbrev pub stopped_as : ℕ → StreamError → ListEnd
stopped_as index (stream.Parse (parse.Cut offset)) = Refused (refusal_of index offset found.Cut)
stopped_as index (stream.Parse (parse.Bad offset rule)) =
    Refused (refusal_of index offset (found.Rule rule))
stopped_as index (stream.Parse parse.NoMemory) = NoMemory
stopped_as index stream.TooLong = LogTooLong
stopped_as index stream.Failed = LogRead
stopped_as index stream.NoMemory = NoMemory
