-- The grammar of the words, as what an allowed line is.
use Rattle.std.specs.Prelude.{◌≡◌, ◌≢◌, ◌⊎◌, ℕ, suc, ◌<◌, ◌≤◌, Bool, true, List, [], ◌∷◌, ◌++◌, Some, None, IfSome, All, IsPermutation, is_none, codes, take, length}
use Rattle.std.specs.declared.option.Option.{Option}
use Rattle.std.specs.Fmt.{decimal}
use Rattle.std.specs.List.{join_with_byte}
use Rattle.command_line.specs.Icount.{Icount, RecordInto, ReplayFrom}
use Rattle.command_line.specs.Words.{Given, given_none, Key, IcountKey, BiosKey, RamKey, BudgetKey, SliceKey, go_together, with_value, at_end, Run, Reading, Records, Replays, Debugs, Checks, Lists, Demonstrates, Help, Version, Bad, Early}

-- the shift, which a replay may leave out
abbrev pub shift_of : Icount → Option ℕ
shift_of (RecordInto shift log) = Some shift
shift_of (ReplayFrom shift log) = shift

abbrev pub log_of : Icount → List ℕ
log_of (RecordInto shift log) = log
log_of (ReplayFrom shift log) = log

abbrev pub mode_text : Icount → List ℕ
mode_text (RecordInto shift log) = codes "rr=record"
mode_text (ReplayFrom shift log) = codes "rr=replay"

abbrev pub shift_texts : Option ℕ → List (List ℕ)
shift_texts (Some shift) = (codes "shift=" ++ decimal shift) ∷ []
shift_texts None = []

-- the settings that ask for this
abbrev pub setting_texts : Icount → List (List ℕ)
setting_texts asked =
    mode_text asked ∷ (codes "rrfile=" ++ log_of asked) ∷ shift_texts (shift_of asked)

-- the value is the settings that ask for this, in some order, parted by commas
pub record IsIcount (value : List ℕ) (asked : Icount) : Type 0 where
  pub parts : List (List ℕ)
  pub permuted : IsPermutation (setting_texts asked) parts
  pub joined : join_with_byte 44 parts ≡ value
  pub shift : IfSome (shift_of asked) (λ n. n ≤ 10)
  pub named : 0 < length (log_of asked)
  pub no_comma : All (λ c. c ≢ 44) (log_of asked)

-- an option of a line: its key and the word after it
pub record Choice : Type 0 where
  pub key : Key
  pub value : List ℕ

abbrev pub key_word : Key → List ℕ
key_word IcountKey = codes "-icount"
key_word BiosKey = codes "-bios"
key_word RamKey = codes "-m"
key_word BudgetKey = codes "-budget"
key_word SliceKey = codes "-slice"

-- the words of these options, one after the other
abbrev pub line_words : List Choice → List (List ℕ)
line_words [] = []
line_words (o ∷ os) = key_word o.key ∷ o.value ∷ line_words os

-- the option wasn't given yet
abbrev pub is_new : Given → Key → Bool
is_new g IcountKey = is_none g.icount
is_new g BiosKey = is_none g.bios
is_new g RamKey = is_none g.ram_mib
is_new g BudgetKey = is_none g.budget
is_new g SliceKey = is_none g.slice

-- these options, each a new one with a good value, lead from g to h
abbrev pub Adds : Given → List Choice → Given → Type 0
Adds g [] h = g ≡ h
Adds g (o ∷ os) h =
    (m : Given) × (is_new g o.key ≡ true) × (with_value g o.key o.value ≡ Some m) × Adds m os h

-- after the options g the words are options that go together, and ask for this
pub record Asks (g : Given) (words : List (List ℕ)) (meaning : Reading) : Type 0 where
  pub choices : List Choice
  pub last : Given
  pub spelled : line_words choices ≡ words
  pub adds : Adds g choices last
  pub fits : go_together last ≡ true
  pub asks : at_end last ≡ meaning

-- the word asks for the help
abbrev pub IsHelp : List ℕ → Type 0
IsHelp word =
    (word ≡ codes "--help") ⊎ ((word ≡ codes "-help") ⊎ (word ≡ codes "-h"))

-- the word asks for the version
abbrev pub IsVersion : List ℕ → Type 0
IsVersion word = (word ≡ codes "--version") ⊎ (word ≡ codes "-version")

-- the words are this command, a log's name, and the firmware's behind `-bios`
abbrev pub IsRunLine : List (List ℕ) → List ℕ → Run → Type 0
IsRunLine words command r =
    (words ≡ command ∷ r.log ∷ codes "-bios" ∷ r.bios ∷ [])
    × (0 < length r.log) × (0 < length r.bios)

-- the words are an allowed line with this meaning
abbrev pub IsLine : List (List ℕ) → Reading → Type 0
IsLine words (Records r) = Asks given_none words (Records r)
IsLine words (Replays r) = Asks given_none words (Replays r)
IsLine words (Debugs r) = IsRunLine words (codes "debug") r
IsLine words (Checks r) = IsRunLine words (codes "check") r
IsLine words (Lists log) = (words ≡ codes "events" ∷ log ∷ []) × (0 < length log)
IsLine words (Demonstrates n) = (words ≡ codes "demo" ∷ decimal n ∷ []) × (1 ≤ n) × (n ≤ 2000)
IsLine words Help = (word : List ℕ) × (words ≡ word ∷ []) × IsHelp word
IsLine words Version = (word : List ℕ) × (words ≡ word ∷ []) × IsVersion word
IsLine words (Bad k) = ⊥
IsLine words Early = ⊥

-- an allowed line begins with these words
pub record GoesOn (words : List (List ℕ)) : Type 0 where
  pub rest : List (List ℕ)
  pub meaning : Reading
  pub line : IsLine (words ++ rest) meaning

-- word number k is the first that no allowed line goes on with
pub record IsFirstBad (words : List (List ℕ)) (k : ℕ) : Type 0 where
  pub within : k < length words
  pub before : GoesOn (take k words)
  pub bad : GoesOn (take (suc k) words) → ⊥
