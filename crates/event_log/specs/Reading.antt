-- What a reader of a log does with its bytes.
use Rattle.std.specs.Prelude.{◌≡◌, ℕ, ◌+◌, ◌^◌, ◌<◌, ◌≤◌, ◌⊎◌, Bool, true, false, List, [], ◌++◌, length, take, ◌-◌, Result, Ok, Err, IfSome, ⊤}
use Rattle.std.specs.declared.option.Option.{Option}
use Rattle.std.specs.Io.KnownBytes.{Consumes, Keeps, IsAtEnd, prepend_known}
use Rattle.outside.specs.Causes.{Rose}
use Rattle.event_log.specs.declared.event.Event.{Event}
use Rattle.event_log.specs.declared.header.Header.{Header}
use Rattle.event_log.specs.declared.parse.ParseError.{ParseError}
use Rattle.event_log.specs.declared.parse.ParseError.TheVariants as parse
use Rattle.event_log.specs.declared.stream_error.StreamError.{StreamError}
use Rattle.event_log.specs.declared.stream_error.StreamError.TheVariants as stream
use Rattle.event_log.specs.Grammar.{Stops, Cut, Bad}
use Rattle.event_log.specs.Spelling.{event, text, IsEvent}
use Rattle.event_log.specs.HeaderFormat.{header, header_text, IsHeader}
use Rattle.event_log.specs.Log.{AsksMemory}

-- what a reader holds of a log
pub record Unread : Type 0 where
  -- the bytes that are held, the place of the first of them, and whether the source failed
  pub held : List ℕ
  pub place : ℕ
  pub failed : Bool

-- a reader and its source
pub record Reader : Type 0 where
  -- the bytes that the source has left, where it tells them, and how often it failed
  pub left : Option (List ℕ)
  pub faults : ℕ
  pub unread : Unread

-- nothing was read yet, from that place on
abbrev pub none_read : ℕ → Unread
none_read place = record { held = []; place = place; failed = false }

-- a source that has those bytes left and that count, before what is held
abbrev pub reading : Option (List ℕ) → ℕ → Unread → Reader
reading left faults unread = record { left = left; faults = faults; unread = unread }

-- the bytes from the place on, where they are told
abbrev pub ahead : Reader → Option (List ℕ)
ahead r = prepend_known r.unread.held r.left

-- how many bytes were read, from the log's beginning on
abbrev pub read_so_far : Unread → ℕ
read_so_far u = u.place + length u.held

-- the source didn't fail, and no byte past 2^40 was read
pub record Runs (old new : Reader) : Type 0 where
  pub worked : old.unread.failed ≡ false
  pub works : new.unread.failed ≡ false
  pub faults : new.faults ≡ old.faults
  pub read : read_so_far new.unread ≤ 2 ^ 40
  pub later : read_so_far old.unread ≤ read_so_far new.unread

-- the same bytes are ahead, at the same place
pub record Stays (old new : Reader) : Type 0 where
  pub bytes : Keeps (ahead old) (ahead new)
  pub place : new.unread.place ≡ old.unread.place

-- the bytes ahead began with those, which are behind now
pub record Passes (old new : Reader) (front : List ℕ) : Type 0 where
  pub bytes : Consumes (ahead old) (ahead new) front
  pub place : new.unread.place ≡ old.unread.place + length front

-- The source failed before, and all is as before; or it failed now.
abbrev pub Breaks : Reader → Reader → Type 0
Breaks old new =
    (new.unread.failed ≡ true) × (((old.unread.failed ≡ true) × (new ≡ old))
    ⊎ ((old.unread.failed ≡ false) × Rose old.faults new.faults × Stays old new
    × (read_so_far new.unread ≤ 2 ^ 40)))

-- a byte past 2^40 was read, now or before
pub record IsLong (old new : Reader) : Type 0 where
  pub worked : old.unread.failed ≡ false
  pub works : new.unread.failed ≡ false
  pub faults : new.faults ≡ old.faults
  pub read : 2 ^ 40 < read_so_far new.unread
  pub later : read_so_far old.unread ≤ read_so_far new.unread
  pub stays : Stays old new

-- A byte past 2^40 was read. Where it was read now, then for this reason.
abbrev pub Overran : Reader → Reader → Type 0 → Type 0
Overran old new reason = IsLong old new × (read_so_far old.unread ≤ 2 ^ 40 → reason)

-- what can go wrong with the source, and for what reason a byte past 2^40 is read
abbrev pub Stopped : Reader → Reader → Type 0 → StreamError → Type 0
Stopped old new reason stream.Failed = Breaks old new
Stopped old new reason stream.TooLong = Overran old new reason
Stopped old new reason stream.NoMemory = ⊥
Stopped old new reason (stream.Parse fault) = ⊥

-- the bytes from a place on, up to the limit of 2^40
abbrev pub to_limit : ℕ → List ℕ → List ℕ
to_limit place bytes = take (2 ^ 40 - place) bytes

-- so many bytes are held, or all that there are
abbrev pub Waits : Reader → Reader → ℕ → Result Bool StreamError → Type 0
Waits old new count (Ok true) = Runs old new × Stays old new × (count ≤ length new.unread.held)
Waits old new count (Ok false) =
    Runs old new × Stays old new × (length new.unread.held < count) × IsAtEnd new.left
Waits old new count (Err error) = Stopped old new (2 ^ 40 < old.unread.place + count) error

-- a header that stands there was read, or the first fault
abbrev pub Heads : Reader → Reader → Result Header StreamError → Type 0
Heads old new (Ok h) =
    Runs old new × IsHeader h × Passes old new (header_text h) × (new.unread.place ≡ 98)
Heads old new (Err (stream.Parse (parse.Bad offset rule))) =
    Runs old new × Stays old new
    × IfSome (ahead old) (λ bytes. (98 ≤ length bytes) × Stops header bytes (Bad (offset, rule)))
Heads old new (Err (stream.Parse (parse.Cut offset))) =
    Runs old new × Stays old new × (offset ≡ 0) × IfSome (ahead old) (λ bytes. length bytes < 98)
Heads old new (Err (stream.Parse parse.NoMemory)) = ⊥
Heads old new (Err stream.Failed) = Breaks old new
Heads old new (Err stream.TooLong) = ⊥
Heads old new (Err stream.NoMemory) = ⊥

-- The event that stands there was read, with its place, or the first fault of what stands before
-- the limit. A byte past 2^40 is read only where that is cut.
abbrev pub Nexts : Reader → Reader → Result (Event × ℕ) StreamError → Type 0
Nexts old new (Ok found) =
    Runs old new × (found.1 ≡ old.unread.place) × IsEvent found.0 × Passes old new (text found.0)
Nexts old new (Err (stream.Parse (parse.Bad offset rule))) =
    Runs old new × Stays old new × (offset ≡ old.unread.place)
    × IfSome (ahead old) (λ bytes. Stops event (to_limit old.unread.place bytes) (Bad rule))
Nexts old new (Err (stream.Parse (parse.Cut offset))) =
    Runs old new × Stays old new × (offset ≡ old.unread.place)
    × IfSome (ahead old) (λ bytes.
    (old.unread.place + length bytes ≤ 2 ^ 40) × Stops event bytes Cut)
Nexts old new (Err (stream.Parse parse.NoMemory)) = ⊥
Nexts old new (Err stream.Failed) = Breaks old new
Nexts old new (Err stream.TooLong) = Overran old new
    (IfSome (ahead old) (λ bytes. Stops event (to_limit old.unread.place bytes) Cut))
Nexts old new (Err stream.NoMemory) =
    Runs old new × Stays old new × IfSome (ahead old) (λ bytes. AsksMemory bytes)

-- whether nothing is ahead
abbrev pub Ends : Reader → Reader → Result Bool StreamError → Type 0
Ends old new (Ok true) =
    Runs old new × Stays old new × IfSome (ahead old) (λ bytes. length bytes ≡ 0)
Ends old new (Ok false) =
    Runs old new × Stays old new × (0 < length new.unread.held)
    × IfSome (ahead old) (λ bytes. 0 < length bytes)
Ends old new (Err error) = Stopped old new (old.unread.place ≡ 2 ^ 40) error

-- one piece more is held, or there is no more
abbrev pub Mores : Reader → Reader → Result Bool StreamError → Type 0
Mores old new (Ok true) =
    Runs old new × Stays old new × (length old.unread.held < length new.unread.held)
Mores old new (Ok false) =
    Runs old new × Stays old new × (new.unread.held ≡ old.unread.held) × IsAtEnd new.left
Mores old new (Err error) = Stopped old new (read_so_far old.unread ≡ 2 ^ 40) error

-- the event at the front of what is held, or the first fault there
abbrev pub Parses : Unread → Unread → Result (Event × ℕ) ParseError → Type 0
Parses old new (Ok found) =
    (found.1 ≡ old.place) × IsEvent found.0 × (old.held ≡ text found.0 ++ new.held)
    × (new ≡ record old { held = new.held; place = old.place + length (text found.0) })
Parses old new (Err (parse.Bad offset rule)) =
    (new ≡ old) × (offset ≡ old.place) × Stops event old.held (Bad rule)
Parses old new (Err (parse.Cut offset)) =
    (new ≡ old) × (offset ≡ old.place) × Stops event old.held Cut × (length old.held < 1525)
Parses old new (Err parse.NoMemory) = (new ≡ old) × AsksMemory old.held

-- the header at the front of what is held, or the first fault there
abbrev pub HeadParses : Unread → Unread → Result Header ParseError → Type 0
HeadParses old new (Ok h) =
    IsHeader h × (old.held ≡ header_text h ++ new.held)
    × (new ≡ record old { held = new.held; place = old.place + 98 })
HeadParses old new (Err (parse.Bad offset rule)) =
    (new ≡ old) × Stops header old.held (Bad (offset, rule))
HeadParses old new (Err (parse.Cut offset)) = ⊥
HeadParses old new (Err parse.NoMemory) = ⊥

-- whether the source may be asked: it didn't fail, and no byte past 2^40 was read
abbrev pub IsReady : Unread → Result Unit StreamError → Type 0
IsReady u (Ok _) = (u.failed ≡ false) × (read_so_far u ≤ 2 ^ 40)
IsReady u (Err stream.Failed) = u.failed ≡ true
IsReady u (Err stream.TooLong) = (u.failed ≡ false) × (2 ^ 40 < read_so_far u)
IsReady u (Err stream.NoMemory) = ⊥
IsReady u (Err (stream.Parse fault)) = ⊥

-- what stands there was answered: an event, or the first fault
abbrev pub IsAnswer : Result (Event × ℕ) StreamError → Type 0
IsAnswer (Ok found) = ⊤
IsAnswer (Err (stream.Parse fault)) = ⊤
IsAnswer (Err stream.Failed) = ⊥
IsAnswer (Err stream.TooLong) = ⊥
IsAnswer (Err stream.NoMemory) = ⊥
