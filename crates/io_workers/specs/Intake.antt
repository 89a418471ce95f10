-- How a source is read in pieces.
use Rattle.std.specs.Prelude.{◌≡◌, ℕ, ◌+◌, ◌^◌, ◌≤◌, ◌⊎◌, Bool, true, false, List, length, Result, Ok, Err, Some, None}
use Rattle.std.specs.declared.option.Option.{Option}
use Rattle.std.specs.Io.KnownBytes.{Consumes, Keeps, IsAtEnd}
use Rattle.outside.specs.Causes.{Rose}
use Rattle.io_workers.specs.declared.read_error.ReadError.{ReadError}
use Rattle.io_workers.specs.declared.read_error.ReadError.TheVariants as error

-- how far a source was read
pub record Progress : Type 0 where
  -- how many bytes it gave, and whether its end was answered
  pub count : ℕ
  pub ended : Bool

-- a source and how far it was read
pub record Intake : Type 0 where
  -- the bytes that it has left, where it tells them, and how often it failed
  pub left : Option (List ℕ)
  pub faults : ℕ
  pub progress : Progress

-- nothing was read yet
abbrev pub none_given : Progress
none_given = record { count = 0; ended = false }

-- a source that has those bytes left and that count of faults, read so far
abbrev pub intake : Option (List ℕ) → ℕ → Progress → Intake
intake left faults progress = record { left = left; faults = faults; progress = progress }

-- the source has nothing left, or gave so many bytes that it counts as ended
abbrev pub IsOver : Intake → Type 0
IsOver i = IsAtEnd i.left ⊎ (i.progress.count ≡ 2 ^ 40)

-- the next 1 to 256 bytes of the source were given
pub record Gives (old new : Intake) (piece : List ℕ) : Type 0 where
  pub going : old.progress.ended ≡ false
  pub goes_on : new.progress.ended ≡ false
  pub bytes : Consumes old.left new.left piece
  pub some : 1 ≤ length piece
  pub few : length piece ≤ 256
  pub count : new.progress.count ≡ old.progress.count + length piece
  pub within : new.progress.count ≤ 2 ^ 40
  pub faults : new.faults ≡ old.faults

-- The end was answered before, and all is as before; or the source was found at its end.
abbrev pub Ends : Intake → Intake → Type 0
Ends old new =
    ((old.progress.ended ≡ true) × (new ≡ old))
    ⊎ ((old.progress.ended ≡ false) × (new.progress ≡ record old.progress { ended = true })
    × Keeps old.left new.left × (new.faults ≡ old.faults) × IsOver new)

-- the source failed, and gave nothing
pub record Fails (old new : Intake) : Type 0 where
  pub going : old.progress.ended ≡ false
  pub progress : new.progress ≡ old.progress
  pub bytes : Keeps old.left new.left
  pub faults : Rose old.faults new.faults

-- the next piece, none exactly at the end, or why there is no answer
abbrev pub Nexts : Intake → Intake → Result (Option (List ℕ)) ReadError → Type 0
Nexts old new (Ok (Some piece)) = Gives old new piece
Nexts old new (Ok None) = Ends old new
Nexts old new (Err error.Failed) = Fails old new
Nexts old new (Err error.NoMemory) = (old.progress.ended ≡ false) × (new ≡ old)
