-- A timeline, as contracts see it, and what its moves do.
use Rattle.std.specs.Prelude.{◌≡◌, ◌≤◌, ◌<◌, ℕ, ◌%◌, max, min, nat_lt, List, [], ◌∷◌, Result, Ok, Err, if◌then◌else◌}
use Rattle.board.specs.State.{State}
use Rattle.board.specs.Runs.{state_at}
use Rattle.reverse_seek.specs.declared.error.SeekError.{SeekError}
use Rattle.reverse_seek.specs.declared.error.SeekError.TheVariants as error
use Rattle.reverse_seek.specs.Backing.{Backing, Fails}
use Rattle.reverse_seek.specs.Script.{Script}
use Rattle.reverse_seek.specs.Stride.{stride_of}

-- the accepted part of a log, the count of turns at which one stands in it, and the disk's image
pub record Timeline : Type 0 where
  pub script : Script
  pub at : ℕ
  pub image : Backing

-- the state at a count
abbrev pub shows : Timeline → ℕ → State
shows t n = state_at t.script.start t.script.events n

-- the timeline at another count
abbrev pub moved : Timeline → ℕ → Timeline
moved t n = record t { at = n }

-- the image failed, and the timeline stands where it stood
abbrev pub StaysFailing : Timeline → Timeline → Type 0
StaysFailing t t' = Fails t.image t'.image × (t' ≡ record t { image = t'.image })

-- the greatest break below a count, else 0
abbrev pub break_below : ℕ → List ℕ → ℕ
break_below at [] = 0
break_below at (b ∷ bs) =
    if nat_lt b at then max b (break_below at bs) else break_below at bs

-- the least break above a count that isn't above the last one, else the last one
abbrev pub break_above : ℕ → ℕ → List ℕ → ℕ
break_above at last [] = last
break_above at last (b ∷ bs) =
    if nat_lt at b then min b (break_above at last bs) else break_above at last bs

-- To a count, unless it is above the last one. After an error all is as before, but for the count
-- of an image that failed.
abbrev pub Seeks : ℕ → Timeline → Result Unit SeekError → Timeline → Type 0
Seeks n t (Ok _) t' = (n ≤ t.script.last) × (t' ≡ moved t n)
Seeks n t (Err (error.PastEnd asked last)) t' =
    (t.script.last < n) × (asked ≡ n) × (last ≡ t.script.last) × (t' ≡ t)
Seeks n t (Err error.ImageFailed) t' = (n ≤ t.script.last) × StaysFailing t t'
Seeks n t (Err error.NoMemory) t' = (n ≤ t.script.last) × (t' ≡ t)
Seeks n t (Err _) t' = ⊥

-- back to a count, unless it stands at 0
abbrev pub GoesBack : ℕ → Timeline → Result Unit SeekError → Timeline → Type 0
GoesBack n t (Ok _) t' = (0 < t.at) × (t' ≡ moved t n)
GoesBack n t (Err error.AtStart) t' = (t.at ≡ 0) × (t' ≡ t)
GoesBack n t (Err error.ImageFailed) t' = (0 < t.at) × StaysFailing t t'
GoesBack n t (Err error.NoMemory) t' = (0 < t.at) × (t' ≡ t)
GoesBack n t (Err _) t' = ⊥

-- on to a count, unless it stands at the last one
abbrev pub GoesOn : ℕ → Timeline → Result Unit SeekError → Timeline → Type 0
GoesOn n t (Ok _) t' = (t.at < t.script.last) × (t' ≡ moved t n)
GoesOn n t (Err error.AtEnd) t' = (t.at ≡ t.script.last) × (t' ≡ t)
GoesOn n t (Err error.ImageFailed) t' = (t.at < t.script.last) × StaysFailing t t'
GoesOn n t (Err error.NoMemory) t' = (t.at < t.script.last) × (t' ≡ t)
GoesOn n t (Err _) t' = ⊥

-- the turns from the kept count at or below a count to it
abbrev pub turns_to : ℕ → Timeline → ℕ
turns_to n t = n % stride_of t.script.last
