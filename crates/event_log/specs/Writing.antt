-- What a writer of a log does with its bytes.
use Rattle.std.specs.Prelude.{◌≡◌, ℕ, ◌⊎◌, Bool, true, false, List, [], ◌++◌, length, take, drop, Result, Ok, Err, nat_lt, if◌then◌else◌}
use Rattle.std.specs.declared.option.Option.{Option}
use Rattle.outside.specs.declared.roles.Role.{Role}
use Rattle.outside.specs.Causes.{Rose}
use Rattle.outside.specs.Told.{Takes, TakesFront}
use Rattle.event_log.specs.declared.stream_error.StreamError.{StreamError}
use Rattle.event_log.specs.declared.stream_error.StreamError.TheVariants as stream

-- what a writer holds of a log
pub record Unsent : Type 0 where
  -- the bytes that are held, and whether the sink failed
  pub held : List ℕ
  pub failed : Bool

-- a writer and its sink
pub record Writer : Type 0 where
  -- the bytes that the sink has taken, where it tells them, and how often it failed
  pub taken : Option (List ℕ)
  pub faults : ℕ
  pub unsent : Unsent

-- a writer, with the role of its sink
pub record RoleWriter : Type 0 where
  pub role : Option Role
  pub writer : Writer

-- nothing was written yet
abbrev pub none_written : Unsent
none_written = record { held = []; failed = false }

-- a sink that took those bytes and has that count, behind what is held
abbrev pub writing : Option (List ℕ) → ℕ → Unsent → Writer
writing taken faults unsent = record { taken = taken; faults = faults; unsent = unsent }

-- of the bytes that have gathered, those that go to the sink:
-- the first 65,536, once there are so many
unfoldable pub sent : List ℕ → List ℕ
sent bytes = if nat_lt (length bytes) 65536 then [] else take 65536 bytes

-- and those that are held
unfoldable pub kept : List ℕ → List ℕ
kept bytes = if nat_lt (length bytes) 65536 then bytes else drop 65536 bytes

-- The sink failed before, and all is as before; or it failed now, and took a front of the bytes.
abbrev pub Breaks : Writer → Writer → List ℕ → Type 0
Breaks old new bytes =
    (new.unsent.failed ≡ true) × (((old.unsent.failed ≡ true) × (new ≡ old))
    ⊎ ((old.unsent.failed ≡ false) × Rose old.faults new.faults
    × TakesFront old.taken new.taken bytes))

-- the sink took the bytes, and those others are held
abbrev pub Sends : Writer → Writer → List ℕ → List ℕ → Result Unit StreamError → Type 0
Sends old new bytes held (Ok _) =
    (old.unsent.failed ≡ false) × (new.unsent.failed ≡ false) × (new.faults ≡ old.faults)
    × Takes old.taken new.taken bytes × (new.unsent.held ≡ held)
Sends old new bytes held (Err stream.Failed) = Breaks old new bytes
Sends old new bytes held (Err stream.NoMemory) = (old.unsent.failed ≡ false) × (new ≡ old)
Sends old new bytes held (Err stream.TooLong) = ⊥
Sends old new bytes held (Err (stream.Parse fault)) = ⊥

-- Since the start nothing failed, and what the sink took and what is held are exactly these bytes.
pub record Wrote (start now : Writer) (bytes : List ℕ) : Type 0 where
  pub works : now.unsent.failed ≡ false
  pub faults : now.faults ≡ start.faults
  pub behind : List ℕ
  pub taken : Takes start.taken now.taken behind
  pub whole : bytes ≡ behind ++ now.unsent.held

-- What was written since the start, where these bytes were and more was to follow:
-- all of it; or the sink failed, and took a front of it;
-- or memory was refused, and no more followed.
abbrev pub Writes : Writer → Writer → List ℕ → List ℕ → Result Unit StreamError → Type 0
Writes start new bytes more (Ok _) = Wrote start new (bytes ++ more)
Writes start new bytes more (Err stream.Failed) =
    (new.unsent.failed ≡ true) × Rose start.faults new.faults
    × TakesFront start.taken new.taken (bytes ++ more)
Writes start new bytes more (Err stream.NoMemory) = Wrote start new bytes
Writes start new bytes more (Err stream.TooLong) = ⊥
Writes start new bytes more (Err (stream.Parse fault)) = ⊥
