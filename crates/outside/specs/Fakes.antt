-- What the fakes in memory hold, and what their calls do.
use Rattle.std.specs.Prelude.{ℕ, Bool, List, ◌-◌, ◌^◌, Some, None, Result, Ok, Err, if◌then◌else◌, min, max, length, nat_eq, nat_lt, slice_get, slice_index, map}
use Rattle.std.specs.declared.option.Option.{Option}
use Rattle.std.specs.List.{list_any, range_with_len}
use Rattle.outside.specs.declared.roles.Role.{Role}
use Rattle.outside.specs.Causes.{one_more}

-- the calls of a fake: the numbers of those that fail, how many were made, and how many failed
pub record NumberedCalls : Type 0 where
  pub failing : List ℕ
  pub made : ℕ
  pub faults : ℕ

-- no call was made yet
abbrev pub uncalled : List ℕ → NumberedCalls
uncalled failing = record { failing = failing; made = 0; faults = 0 }

-- whether the next call is to fail: calls are numbered from 0
abbrev pub fails : NumberedCalls → Bool
fails c = list_any (λ n. nat_eq n c.made) c.failing

-- the calls after one more, which failed or not
abbrev pub called : Bool → NumberedCalls → NumberedCalls
called failed c = record c {
  made = one_more c.made;
  faults = if failed then one_more c.faults else c.faults;
}

-- a source in memory: the bytes left, the most that each call gives, and its calls
pub record SourceState : Type 0 where
  pub left : List ℕ
  pub chunks : List ℕ
  pub calls : NumberedCalls

-- how much of a room a call fills that gives so many bytes at most, and at least one
abbrev pub filled : Option ℕ → ℕ → ℕ
filled (Some most) room = min (max most 1) room
filled None room = room

-- how many bytes the next call gives that doesn't fail
abbrev pub share : SourceState → ℕ → ℕ
share s room = min (filled (slice_get s.chunks s.calls.made) room) (length s.left)

-- a sink in memory: the role that it was opened for, the bytes taken, and its calls
pub record SinkState : Type 0 where
  pub role : Option Role
  pub kept : List ℕ
  pub calls : NumberedCalls

-- an image in memory: its bytes, and its calls
pub record ImageState : Type 0 where
  pub bytes : List ℕ
  pub calls : NumberedCalls

-- how many bytes an answer moved
abbrev pub moved : {E : Type 0} → Result ℕ E → ℕ
moved (Ok n) = n
moved (Err _) = 0

-- a clock in memory: its values, and how many calls were made
pub record ClockState : Type 0 where
  pub values : List ℕ
  pub calls : ℕ

-- the value that a call gives: the list's, past its end the last, and 0 where there is none
abbrev pub value_at : List ℕ → ℕ → ℕ
value_at values call = slice_index values (min call (length values - 1))

-- the values of all calls, while these can be counted
abbrev pub clock_gave : ClockState → Option (List ℕ)
clock_gave c = if nat_lt c.calls (2 ^ 64 - 1)
    then Some (map (λ call. value_at c.values call) (range_with_len 0 c.calls))
    else None
