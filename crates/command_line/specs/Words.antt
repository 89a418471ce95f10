-- The words of the command line: options in any order, each at most once, one word alone, or a
-- quiet command with its own words.
use Rattle.std.specs.Prelude.{ℕ, ◌+◌, ◌<◌, ◌≤◌, ◌^◌, ◌&&◌, ◌||◌, Bool, true, false, not, List, [], ◌∷◌, Some, None, IfSome, codes, is_none, if◌then◌else◌, option_map, option_and_then, unwrap_or, Result, Ok, Err, ⊤}
use Rattle.std.specs.declared.option.Option.{Option}
use Rattle.std.specs.Str.{bytes_eq}
use Rattle.command_line.specs.Number.{number_in}
use Rattle.command_line.specs.Icount.{Icount, RecordInto, ReplayFrom, name_of, icount_of}

-- what words ask to record
pub record Recording : Type 0 where
  pub shift : ℕ
  pub ram_mib : ℕ
  pub slice : ℕ
  pub budget : ℕ
  pub log : List ℕ
  pub bios : List ℕ

-- what words ask to replay; the log has whatever isn't given
pub record Replaying : Type 0 where
  pub shift : Option ℕ
  pub ram_mib : Option ℕ
  pub log : List ℕ
  pub bios : List ℕ

-- a recorded run: its log, and the firmware that the log names
pub record Run : Type 0 where
  pub log : List ℕ
  pub bios : List ℕ

-- what words are: a request, or word number n is bad, or they end early
pub data Reading : Type 0 where
  Records : Recording → Reading
  Replays : Replaying → Reading
  Debugs : Run → Reading
  Checks : Run → Reading
  Lists : List ℕ → Reading
  Demonstrates : ℕ → Reading
  Help : Reading
  Version : Reading
  Bad : ℕ → Reading
  Early : Reading

-- what the options so far gave
pub record Given : Type 0 where
  pub icount : Option Icount
  pub bios : Option (List ℕ)
  pub ram_mib : Option ℕ
  pub budget : Option ℕ
  pub slice : Option ℕ

-- an option, by the word before its value
pub data Key : Type 0 where
  IcountKey : Key
  BiosKey : Key
  RamKey : Key
  BudgetKey : Key
  SliceKey : Key

-- the log is to be replayed
abbrev pub is_replay : Option Icount → Bool
is_replay (Some (ReplayFrom shift log)) = true
is_replay (Some (RecordInto shift log)) = false
is_replay None = false

-- a replay takes the budget and the slice from its log
abbrev pub go_together : Given → Bool
go_together g = not (is_replay g.icount) || (is_none g.budget && is_none g.slice)

-- the option may still come: it wasn't given yet, and goes with what was
abbrev pub is_open : Given → Key → Bool
is_open g IcountKey = is_none g.icount
is_open g BiosKey = is_none g.bios
is_open g RamKey = is_none g.ram_mib
is_open g BudgetKey = is_none g.budget && not (is_replay g.icount)
is_open g SliceKey = is_none g.slice && not (is_replay g.icount)

-- the option that a word names, where it may still come
abbrev pub key_of : Given → List ℕ → Option Key
key_of g word =
    if bytes_eq word (codes "-icount") && is_open g IcountKey then Some IcountKey else
    if bytes_eq word (codes "-bios") && is_open g BiosKey then Some BiosKey else
    if bytes_eq word (codes "-m") && is_open g RamKey then Some RamKey else
    if bytes_eq word (codes "-budget") && is_open g BudgetKey then Some BudgetKey else
    if bytes_eq word (codes "-slice") && is_open g SliceKey then Some SliceKey else None

-- the options with one more, where its value is one
abbrev pub with_value : Given → Key → List ℕ → Option Given
with_value g IcountKey value = option_map (λ x. record g { icount = Some x }) (icount_of value)
with_value g BiosKey value = option_map (λ x. record g { bios = Some x }) (name_of value)
with_value g RamKey value = option_map (λ x. record g { ram_mib = Some x }) (number_in 1 64 value)
with_value g BudgetKey value =
    option_map (λ x. record g { budget = Some x }) (number_in 1 (2 ^ 40) value)
with_value g SliceKey value =
    option_map (λ x. record g { slice = Some x }) (number_in 1 65536 value)

abbrev pub together : Given → Option Given
together g = if go_together g then Some g else None

-- the same, where the options then go together
abbrev pub with_option : Given → Key → List ℕ → Option Given
with_option g key value = option_and_then together (with_value g key value)

-- at the end `-icount` and `-bios` must be there, and what a recording isn't given has its default
abbrev pub request : Given → Option Icount → Option (List ℕ) → Reading
request g (Some (RecordInto shift log)) (Some bios) = Records (record {
  shift = shift;
  ram_mib = unwrap_or g.ram_mib 16;
  slice = unwrap_or g.slice 10000;
  budget = unwrap_or g.budget 1000000000;
  log = log;
  bios = bios;
})
request g (Some (ReplayFrom shift log)) (Some bios) = Replays (record {
  shift = shift;
  ram_mib = g.ram_mib;
  log = log;
  bios = bios;
})
request g _ _ = Early

abbrev pub at_end : Given → Reading
at_end g = request g g.icount g.bios

-- the options so far after an option and its value, or what the words are
pub data Step : Type 0 where
  Next : Given → Step
  Stop : Reading → Step

abbrev pub value_step : ℕ → Option Given → Step
value_step k (Some g) = Next g
value_step k None = Stop (Bad (k + 1))

abbrev pub pair_step : Given → ℕ → Option Key → List ℕ → Step
pair_step g k None value = Stop (Bad k)
pair_step g k (Some key) value = value_step k (with_option g key value)

abbrev pub follow : Step → (Given → Reading) → Reading
follow (Next g) f = f g
follow (Stop r) f = r

-- an option without its value
abbrev pub last_word : ℕ → Option Key → Reading
last_word k None = Bad k
last_word k (Some key) = Early

-- what the words from number k on make of the options so far
abbrev pub reading : Given → ℕ → List (List ℕ) → Reading
reading g k [] = at_end g
reading g k (word ∷ []) = last_word k (key_of g word)
reading g k (word ∷ value ∷ rest) =
    follow (pair_step g k (key_of g word) value) (λ h. reading h (k + 2) rest)

abbrev pub given_none : Given
given_none = record { icount = None; bios = None; ram_mib = None; budget = None; slice = None }

-- a word that stands alone makes the next one bad
abbrev pub alone : Reading → List (List ℕ) → Reading
alone what [] = what
alone what (word ∷ rest) = Bad 1

-- the number of letters stands alone
abbrev pub demo_letters : Option ℕ → List (List ℕ) → Reading
demo_letters None rest = Bad 1
demo_letters (Some n) [] = Demonstrates n
demo_letters (Some n) (word ∷ rest) = Bad 2

-- what the words after `demo` are: how many letters the guest prints, and no more words
abbrev pub demo_reading : List (List ℕ) → Reading
demo_reading [] = Early
demo_reading (word ∷ rest) = demo_letters (number_in 1 2000 word) rest

-- the name of the log stands alone
abbrev pub listed_log : Option (List ℕ) → List (List ℕ) → Reading
listed_log None rest = Bad 1
listed_log (Some log) [] = Lists log
listed_log (Some log) (word ∷ rest) = Bad 2

-- what the words after `events` are: a log's name, and no more words
abbrev pub events_reading : List (List ℕ) → Reading
events_reading [] = Early
events_reading (word ∷ rest) = listed_log (name_of word) rest

-- the name of the firmware stands last
abbrev pub run_bios : List ℕ → Option (List ℕ) → List (List ℕ) → Result Run Reading
run_bios log None rest = Err (Bad 3)
run_bios log (Some bios) [] = Ok (record { log = log; bios = bios })
run_bios log (Some bios) (word ∷ rest) = Err (Bad 4)

abbrev pub after_bios : List ℕ → List (List ℕ) → Result Run Reading
after_bios log [] = Err Early
after_bios log (word ∷ rest) = run_bios log (name_of word) rest

-- after the log comes `-bios`
abbrev pub run_option : List ℕ → List (List ℕ) → Result Run Reading
run_option log [] = Err Early
run_option log (word ∷ rest) =
    if bytes_eq word (codes "-bios") then after_bios log rest else Err (Bad 2)

abbrev pub run_log : Option (List ℕ) → List (List ℕ) → Result Run Reading
run_log None rest = Err (Bad 1)
run_log (Some log) rest = run_option log rest

-- a log's name, and the firmware's behind `-bios`; or what the words are
abbrev pub run_words : List (List ℕ) → Result Run Reading
run_words [] = Err Early
run_words (word ∷ rest) = run_log (name_of word) rest

-- what the words after `debug` and `check` are
abbrev pub run_reading : (Run → Reading) → Result Run Reading → Reading
run_reading asks (Ok run) = asks run
run_reading asks (Err other) = other

-- the quiet commands
pub data Command : Type 0 where
  DebugCommand : Command
  CheckCommand : Command
  EventsCommand : Command
  DemoCommand : Command

-- the command that a word names
abbrev pub command_of : List ℕ → Option Command
command_of word =
    if bytes_eq word (codes "debug") then Some DebugCommand else
    if bytes_eq word (codes "check") then Some CheckCommand else
    if bytes_eq word (codes "events") then Some EventsCommand else
    if bytes_eq word (codes "demo") then Some DemoCommand else None

-- what the words after a command are
abbrev pub command_reading : Command → List (List ℕ) → Reading
command_reading DebugCommand rest = run_reading Debugs (run_words rest)
command_reading CheckCommand rest = run_reading Checks (run_words rest)
command_reading EventsCommand rest = events_reading rest
command_reading DemoCommand rest = demo_reading rest

-- a command's words, or else these
abbrev pub command_or : Option Command → List (List ℕ) → Reading → Reading
command_or (Some command) rest other = command_reading command rest
command_or None rest other = other

-- the words that ask for the help, and for the version
abbrev pub is_help : List ℕ → Bool
is_help word = bytes_eq word (codes "--help")
    || (bytes_eq word (codes "-help") || bytes_eq word (codes "-h"))

abbrev pub is_version : List ℕ → Bool
is_version word = bytes_eq word (codes "--version") || bytes_eq word (codes "-version")

-- what the words of a command line are
abbrev pub reading_of : List (List ℕ) → Reading
reading_of [] = Early
reading_of (word ∷ rest) =
    if is_help word then alone Help rest else
    if is_version word then alone Version rest else
    command_or (command_of word) rest (reading given_none 0 (word ∷ rest))

-- what the words of a quiet command are: any other first word is bad
abbrev pub quiet_reading : List (List ℕ) → Reading
quiet_reading [] = Early
quiet_reading (word ∷ rest) = command_or (command_of word) rest (Bad 0)

-- the words leave the grammar
abbrev pub IsBadLine : Reading → Type 0
IsBadLine (Records r) = ⊥
IsBadLine (Replays r) = ⊥
IsBadLine (Debugs r) = ⊥
IsBadLine (Checks r) = ⊥
IsBadLine (Lists log) = ⊥
IsBadLine (Demonstrates n) = ⊥
IsBadLine Help = ⊥
IsBadLine Version = ⊥
IsBadLine (Bad k) = ⊤
IsBadLine Early = ⊤

-- a word that is called bad is one of the n words
abbrev pub NamesWord : Reading → ℕ → Type 0
NamesWord (Bad k) n = k < n
NamesWord r n = ⊤

-- what words can ask to record
pub record IsInRange (r : Recording) : Type 0 where
  pub shift : r.shift ≤ 10
  pub ram_mib : (1 ≤ r.ram_mib) × (r.ram_mib ≤ 64)
  pub slice : (1 ≤ r.slice) × (r.slice ≤ 65536)
  pub budget : (1 ≤ r.budget) × (r.budget ≤ 2 ^ 40)

-- what words can ask to replay
pub record IsReplayInRange (r : Replaying) : Type 0 where
  pub shift : IfSome r.shift (λ n. n ≤ 10)
  pub ram_mib : IfSome r.ram_mib (λ n. (1 ≤ n) × (n ≤ 64))

abbrev pub IsLineInRange : Reading → Type 0
IsLineInRange (Records r) = IsInRange r
IsLineInRange (Replays r) = IsReplayInRange r
IsLineInRange (Demonstrates n) = (1 ≤ n) × (n ≤ 2000)
IsLineInRange other = ⊤
