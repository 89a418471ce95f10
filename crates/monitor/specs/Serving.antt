-- What a session does to its devices.
use Rattle.std.specs.Prelude.{◌≡◌, ◌≤◌, ◌+◌, ◌^◌, ◌⊎◌, ℕ, true, false, List, length, take, Result, Ok, Err}
use Rattle.std.specs.declared.option.Option.{Option}
use Rattle.std.specs.Io.KnownBytes.{Consumes, Keeps, IsAtEnd}
use Rattle.outside.specs.Causes.{Rose}
use Rattle.outside.specs.Told.{Takes, TakesFront}
use Rattle.reverse_seek.specs.Backing.{Backing, Fails}
use Rattle.reverse_seek.specs.Script.{Script}
use Rattle.reverse_seek.specs.Timeline.{Timeline}
use Rattle.monitor.specs.declared.desk.Keeping.{Keeping}
use Rattle.monitor.specs.declared.desk.Halt.{Halt}
use Rattle.monitor.specs.declared.desk.Halt.TheVariants as halt
use Rattle.monitor.specs.declared.sessions.ReadStop.{ReadStop}
use Rattle.monitor.specs.declared.sessions.ReadStop.TheVariants as read_stop
use Rattle.monitor.specs.declared.sessions.SessionEnd.{SessionEnd}
use Rattle.monitor.specs.declared.sessions.SessionEnd.TheVariants as session_end
use Rattle.monitor.specs.Session.{Desk, answered, quits, transcript}

-- a session's timeline and what it keeps, as a desk
abbrev pub desk_of : Timeline → Keeping → Desk
desk_of t k = record { place = t.at; breaks = k.breaks.items; line = k.line.items; quit = k.quit }

-- a sink: the bytes that it took, where it tells them, and how often it failed
pub record Written : Type 0 where
  pub taken : Option (List ℕ)
  pub faults : ℕ

abbrev pub written : Option (List ℕ) → ℕ → Written
written taken faults = record { taken = taken; faults = faults }

-- A text was written and this is the desk then; or the sink failed, and a front of it was written;
-- or the image failed, or memory was refused.
abbrev pub Says : List ℕ × Desk → Result Unit Halt → Desk → Written → Written → Type 0
Says told (Ok done) d old new =
    Takes old.taken new.taken told.0 × (d ≡ told.1) × (new.faults ≡ old.faults)
Says told (Err halt.WriteFault) d old new =
    TakesFront old.taken new.taken told.0 × Rose old.faults new.faults
Says told (Err halt.ImageFault) d old new =
    TakesFront old.taken new.taken told.0 × (new.faults ≡ old.faults)
Says told (Err halt.NoMemory) d old new =
    TakesFront old.taken new.taken told.0 × (new.faults ≡ old.faults)

-- what a text leaves of the image: all, unless it failed
abbrev pub TextLeaves : Result Unit Halt → Backing → Backing → Type 0
TextLeaves (Err halt.ImageFault) old new = Fails old new
TextLeaves r old new = new ≡ old

-- the most bytes that a session reads
abbrev pub most : ℕ
most = 2 ^ 20

-- a source: the bytes that it has left, where it tells them, and how often it failed
pub record Heard : Type 0 where
  pub left : Option (List ℕ)
  pub faults : ℕ

abbrev pub heard : Option (List ℕ) → ℕ → Heard
heard left faults = record { left = left; faults = faults }

-- the next bytes came, at most so many, and none only at the end
abbrev pub Reads : ℕ → Heard → Heard → Result (List ℕ) ReadStop → Type 0
Reads room old new (Ok piece) =
    Consumes old.left new.left piece × (length piece ≤ room)
    × (length piece ≡ 0 → IsAtEnd new.left) × (new.faults ≡ old.faults)
Reads room old new (Err read_stop.Failed) =
    Keeps old.left new.left × Rose old.faults new.faults
Reads room old new (Err read_stop.NoMemory) = new ≡ old

-- how a session ends that can't go on
abbrev pub halted_as : Halt → SessionEnd
halted_as halt.WriteFault = session_end.WriteFault
halted_as halt.ImageFault = session_end.ImageFault
halted_as halt.NoMemory = session_end.NoMemory

abbrev pub closed_as : Result Unit Halt → SessionEnd
closed_as (Ok done) = session_end.Done
closed_as (Err h) = halted_as h

-- how a session ended that read these bytes
abbrev pub EndsBy : Script → List ℕ → SessionEnd → Heard → Heard → Written → Written → Type 0
EndsBy s read session_end.Done input input' out out' =
    Takes out.taken out'.taken (transcript s read) × (length read ≤ most)
    × ((quits s read ≡ true) ⊎ IsAtEnd input'.left)
    × (input'.faults ≡ input.faults) × (out'.faults ≡ out.faults)
EndsBy s read session_end.TooMuchInput input input' out out' =
    (length read ≡ most + 1) × Takes out.taken out'.taken (answered s (take most read))
    × (quits s (take most read) ≡ false)
    × (input'.faults ≡ input.faults) × (out'.faults ≡ out.faults)
EndsBy s read session_end.ReadFault input input' out out' =
    Takes out.taken out'.taken (answered s read) × (length read ≤ most)
    × (quits s read ≡ false) × Rose input.faults input'.faults × (out'.faults ≡ out.faults)
EndsBy s read session_end.WriteFault input input' out out' =
    TakesFront out.taken out'.taken (transcript s read) × (length read ≤ most)
    × (input'.faults ≡ input.faults) × Rose out.faults out'.faults
EndsBy s read session_end.ImageFault input input' out out' =
    TakesFront out.taken out'.taken (transcript s read) × (length read ≤ most)
    × (input'.faults ≡ input.faults) × (out'.faults ≡ out.faults)
EndsBy s read session_end.NoMemory input input' out out' =
    TakesFront out.taken out'.taken (transcript s read) × (length read ≤ most)
    × (input'.faults ≡ input.faults) × (out'.faults ≡ out.faults)

-- what a session read, and what it wrote
pub record Serves (s : Script) (result : SessionEnd) (input input' : Heard) (out out' : Written)
    : Type 0 where
  pub read : List ℕ
  pub came : Consumes input.left input'.left read
  pub ends : EndsBy s read result input input' out out'

-- what a session leaves of the image: all, unless it failed
abbrev pub SessionLeaves : SessionEnd → Backing → Backing → Type 0
SessionLeaves session_end.ImageFault old new = Fails old new
SessionLeaves end old new = new ≡ old
