-- What a list of a log's events gives over a world: by the grammar alone, as no machine is asked.
use Rattle.std.specs.Prelude.{◌≡◌, ◌≢◌, ◌≤◌, ◌^◌, ℕ, true, ⊤, List, [], ◌∷◌, ◌++◌, length, drop, Some, IfSome}
use Rattle.std.specs.declared.option.Option.{Option}
use Rattle.std.specs.List.{AllByRecursion}
use Rattle.outside.specs.Causes.{Rose}
use Rattle.outside.specs.Ledger.{Ledger}
use Rattle.outside.specs.Roles.{at}
use Rattle.outside.specs.Told.{Takes, TakesFront}
use Rattle.outside.specs.declared.openings.Opening.{Opening}
use Rattle.outside.specs.declared.openings.Opening.TheVariants.{Source}
use Rattle.outside.specs.declared.roles.Role.TheVariants.{ConsoleOut, LogIn}
use Rattle.event_log.specs.declared.event.Event.{Event}
use Rattle.event_log.specs.declared.header.Header.{Header}
use Rattle.event_log.specs.Spelling.{texts, IsEvent}
use Rattle.board.specs.declared.due.Due.TheVariants as due_is
use Rattle.log_order.specs.declared.refusal.Refusal.{Refusal}
use Rattle.event_list.specs.declared.listing.ListEnd.{ListEnd}
use Rattle.event_list.specs.declared.listing.ListEnd.TheVariants as list_end
use Rattle.event_list.specs.Listing.{EndIsLast, ended, behind, IsWrongAt, IsPastLimit}
use Rattle.event_list.specs.Texts.{event_lines}
use Rattle.run_files.specs.Files.{FailsToOpen}
use Rattle.run_files.specs.Headers.{HasHeader, IsBadHeader}
use Rattle.run_files.specs.Ledgers.{only, only_opening, Untouched}
use Rattle.commands.specs.Faults.{Fault, Device}
use Rattle.commands.specs.Openings.{console_openings}
use Rattle.commands.specs.declared.outcome.Outcome.{Outcome}
use Rattle.commands.specs.declared.outcome.Outcome.TheVariants.{Printed, CannotOpen, LogUnreadable, HeaderRefused, LogRefused, LogTooLong, QuietFailed, NoMemory}

-- The log has a header, behind that these events, END last if at all, and then a rest that is such.
pub record HasEvents (log : List ℕ) (events : List Event) (IsRest : List ℕ → Type 0) : Type 0 where
  pub header : Header
  pub has : HasHeader log header
  pub are : AllByRecursion IsEvent events
  pub one_end : EndIsLast events
  pub rest : List ℕ
  pub parts : drop 98 log ≡ texts events ++ rest
  pub such : IsRest rest

-- behind its header the log is these events, the last of which is END, and the console took their
-- lines
pub record IsListed (log : List ℕ) (console : Option (List ℕ)) : Type 0 where
  pub events : List Event
  pub has : HasEvents log events (λ rest. rest ≡ [])
  pub over : ended events ≡ true
  pub short : length log ≤ 2 ^ 40
  pub lines : Takes (Some []) console (event_lines events)

-- the log is refused at its first wrong place, where nothing is due, and the console took the lines
-- of the events before
pub record IsListedToWrong (log : List ℕ) (console : Option (List ℕ)) (refusal : Refusal)
    : Type 0 where
  pub events : List Event
  pub has : HasEvents log events (IsWrongAt (ended events) (behind events) refusal.found)
  pub index : refusal.index ≡ length events
  pub offset : refusal.offset ≡ behind events
  pub within : behind events ≤ 2 ^ 40
  pub due : refusal.due ≡ due_is.Nothing
  pub lines : Takes (Some []) console (event_lines events)

-- the log is longer than 2^40 bytes, of which none is wrong, and the console took the lines of the
-- events that end among them
pub record IsListedToLimit (log : List ℕ) (console : Option (List ℕ)) : Type 0 where
  pub events : List Event
  pub has : HasEvents log events (IsPastLimit (ended events) (behind events))
  pub within : behind events ≤ 2 ^ 40
  pub lines : Takes (Some []) console (event_lines events)

-- the console took a front of the lines of events that the log begins with
pub record IsShownFront (log : List ℕ) (console : Option (List ℕ)) : Type 0 where
  pub events : List Event
  pub has : HasEvents log events (λ rest. ⊤)
  pub lines : TakesFront (Some []) console (event_lines events)

-- When a list of the log of that name, which holds these bytes, has an outcome, where the last
-- condition says that the log's source failed.
abbrev pub ListCause :
    List ℕ → Option (List ℕ) → Ledger → Ledger → Type 0 → Outcome → Type 0
ListCause name log old new failed Printed =
    IfSome log (λ bytes. IsListed bytes (at new.last ConsoleOut))
ListCause name log old new failed (LogRefused refusal) =
    IfSome log (λ bytes. IsListedToWrong bytes (at new.last ConsoleOut) refusal)
ListCause name log old new failed LogTooLong =
    IfSome log (λ bytes. IsListedToLimit bytes (at new.last ConsoleOut))
ListCause name log old new failed (HeaderRefused offset) =
    IfSome log (λ bytes. IsBadHeader bytes offset) × Untouched old new
ListCause name log old new failed (CannotOpen LogIn) =
    FailsToOpen (Source LogIn (Some name)) old new
ListCause name log old new failed LogUnreadable = failed
ListCause name log old new failed QuietFailed =
    Rose (at old.faults ConsoleOut) (at new.faults ConsoleOut)
ListCause name log old new failed NoMemory = ⊤
ListCause name log old new failed other = ⊥

-- the log under that name, and the console
abbrev pub list_openings : List ℕ → List Opening
list_openings log = Source LogIn (Some log) ∷ console_openings

-- the old ledger with what a list may change
abbrev pub only_listing : Ledger → Ledger → Ledger
only_listing old new = only ConsoleOut (only_opening LogIn old new) new

-- ---- while the log is read

abbrev pub list_outcome_of : ListEnd → Outcome
list_outcome_of list_end.Whole = Printed
list_outcome_of (list_end.Refused refusal) = LogRefused refusal
list_outcome_of list_end.LogRead = LogUnreadable
list_outcome_of list_end.LogTooLong = LogTooLong
list_outcome_of list_end.WriteFault = QuietFailed
list_outcome_of list_end.NoMemory = NoMemory

-- neither the console's count nor that of the log's source rose, but for this one
pub record ListingKeptBut (fault : Option Fault) (old new : Ledger) (before now : ℕ)
    : Type 0 where
  pub console : fault ≢ Some (Device ConsoleOut)
      → at new.faults ConsoleOut ≡ at old.faults ConsoleOut
  pub log : fault ≢ Some (Device LogIn) → now ≡ before
