-- What a session over a log does.
use Rattle.std.specs.Prelude.{◌≡◌, ◌⊎◌, ℕ, List, Some, None}
use Rattle.std.specs.declared.option.Option.{Option}
use Rattle.board.specs.State.{State}
use Rattle.log_order.specs.declared.refusal.Refusal.{Refusal}
use Rattle.reverse_seek.specs.Backing.{Backing, Fails}
use Rattle.reverse_seek.specs.Script.{Script, Reads}
use Rattle.monitor.specs.Serving.{Heard, Written, Serves}
use Rattle.monitor.specs.declared.sessions.SessionEnd.{SessionEnd}
use Rattle.monitor.specs.declared.sessions.SessionEnd.TheVariants as session_end
use Rattle.monitor.specs.declared.debugging.DebugEnd.{DebugEnd}
use Rattle.monitor.specs.declared.debugging.DebugEnd.TheVariants as debug_end

-- how it ends, by the session's end and the log's refusal, which a fault goes before
abbrev pub ended_as : SessionEnd → Option Refusal → DebugEnd
ended_as session_end.Done None = debug_end.Done
ended_as session_end.Done (Some r) = debug_end.Refused r
ended_as session_end.ReadFault refusal = debug_end.ReadFault
ended_as session_end.WriteFault refusal = debug_end.WriteFault
ended_as session_end.TooMuchInput refusal = debug_end.TooMuchInput
ended_as session_end.ImageFault refusal = debug_end.ImageFault
ended_as session_end.NoMemory refusal = debug_end.NoMemory

-- The accepted part of the log was read, and the session over it wrote its transcript.
pub record Session (start : State) (log : List ℕ) (result : DebugEnd) (input input' : Heard)
    (out out' : Written) : Type 0 where
  pub script : Script
  pub refusal : Option Refusal
  pub end : SessionEnd
  pub reads : Reads start log script refusal
  pub serves : Serves script end input input' out out'
  pub is : result ≡ ended_as end refusal

-- A session; or the image failed or memory was refused before it began, and nothing was read or
-- written.
abbrev pub Debugs : State → List ℕ → DebugEnd → Heard → Heard → Written → Written → Type 0
Debugs start log result input input' out out' =
    Session start log result input input' out out'
    ⊎ (((result ≡ debug_end.ImageFault) ⊎ (result ≡ debug_end.NoMemory))
    × (input' ≡ input) × (out' ≡ out))

-- what all of it leaves of the image: all, unless it failed
abbrev pub DebugLeaves : DebugEnd → Backing → Backing → Type 0
DebugLeaves debug_end.ImageFault old new = Fails old new
DebugLeaves end old new = new ≡ old
