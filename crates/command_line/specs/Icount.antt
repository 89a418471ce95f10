-- The value of `-icount`, its keys in any order, each once: `shift=N,rr=record,rrfile=LOG`, or
-- `rr=replay,rrfile=LOG` with `shift=N` or without.
use Rattle.std.specs.Prelude.{ℕ, ◌&&◌, ◌==◌, Bool, nat_lt, List, [], ◌∷◌, Some, None, codes, is_none, length, if◌then◌else◌, option_map, option_and_then}
use Rattle.std.specs.declared.option.Option.{Option}
use Rattle.std.specs.List.{slice_split, position_or_len, before_first, after_first}
use Rattle.std.specs.Str.{bytes_eq}
use Rattle.command_line.specs.Number.{number_in}

-- what a value of `-icount` asks for: the shift, and the name of the log
pub data Icount : Type 0 where
  RecordInto : ℕ → List ℕ → Icount
  ReplayFrom : Option ℕ → List ℕ → Icount

-- what `rr` says is done with the log
pub data Mode : Type 0 where
  RecordMode : Mode
  ReplayMode : Mode

-- what its keys so far gave
pub record Settings : Type 0 where
  pub shift : Option ℕ
  pub mode : Option Mode
  pub log : Option (List ℕ)

-- a name isn't empty
abbrev pub name_of : List ℕ → Option (List ℕ)
name_of [] = None
name_of (c ∷ cs) = Some (c ∷ cs)

abbrev pub mode_of : List ℕ → Option Mode
mode_of value =
    if bytes_eq value (codes "record") then Some RecordMode else
    if bytes_eq value (codes "replay") then Some ReplayMode else None

-- the settings with one key more, which wasn't given yet and has a good value
abbrev pub with_setting : Settings → List ℕ → List ℕ → Option Settings
with_setting s key value =
    if bytes_eq key (codes "shift") && is_none s.shift
    then option_map (λ n. record s { shift = Some n }) (number_in 0 10 value) else
    if bytes_eq key (codes "rr") && is_none s.mode
    then option_map (λ mode. record s { mode = Some mode }) (mode_of value) else
    if bytes_eq key (codes "rrfile") && is_none s.log
    then option_map (λ name. record s { log = Some name }) (name_of value) else None

abbrev pub is_comma : ℕ → Bool
is_comma b = b == 44

abbrev pub is_equals : ℕ → Bool
is_equals b = b == 61

-- a part is `KEY=VALUE`, cut at its first `=`
abbrev pub with_part : Settings → List ℕ → Option Settings
with_part s part = if nat_lt (position_or_len is_equals part) (length part)
    then with_setting s (before_first is_equals part) (after_first is_equals part) else None

-- the settings after these parts, one after the other
abbrev pub with_parts : Settings → List (List ℕ) → Option Settings
with_parts s [] = Some s
with_parts s (part ∷ rest) = option_and_then (λ t. with_parts t rest) (with_part s part)

abbrev pub no_settings : Settings
no_settings = record { shift = None; mode = None; log = None }

-- each key must have been given, but `shift` to a replay
abbrev pub whole_of : Option ℕ → Option Mode → Option (List ℕ) → Option Icount
whole_of (Some shift) (Some RecordMode) (Some log) = Some (RecordInto shift log)
whole_of shift (Some ReplayMode) (Some log) = Some (ReplayFrom shift log)
whole_of _ _ _ = None

abbrev pub whole : Settings → Option Icount
whole s = whole_of s.shift s.mode s.log

-- what the value asks for, by its parts between the commas
abbrev pub icount_of : List ℕ → Option Icount
icount_of value = option_and_then whole (with_parts no_settings (slice_split is_comma value))
