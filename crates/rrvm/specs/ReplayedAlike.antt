-- What a replay makes of the log that a recording wrote.
use Rattle.std.specs.Prelude.{◌≡◌, ℕ, List, [], Some, None}
use Rattle.outside.specs.Ledger.{Ledger}
use Rattle.outside.specs.Roles.{at}
use Rattle.outside.specs.Told.{Takes}
use Rattle.outside.specs.declared.roles.Role.TheVariants.{ConsoleOut}
use Rattle.command_line.specs.Words.{Recording, Replaying}
use Rattle.log_order.specs.declared.refusal.Refusal.{Refusal}
use Rattle.run_files.specs.Headers.{header_of}
use Rattle.commands.specs.Replays.{word_difference, IsReplayed, IsReplayable, IsRefusedLog}

-- the consoles of two runs took the same bytes
abbrev pub TookAlike : Ledger → Ledger → Type 0
TookAlike k l = (bytes : List ℕ)
    × Takes (Some []) (at k.last ConsoleOut) bytes × Takes (Some []) (at l.last ConsoleOut) bytes

-- words that give the recording's shift and RAM, or none
abbrev pub Agrees : Recording → List ℕ → Replaying → Type 0
Agrees r file p = word_difference p (header_of r file) ≡ None

-- A replay over the same file by words that agree: the log is accepted whole, and ends by this
-- reason and code. A replay that comes to an end comes to this one, with the recording's console
-- bytes, and none refuses the log.
pub record IsReplayedAlike (r : Recording) (log file : List ℕ) (recorded : Ledger) (reason code : ℕ)
    : Type 0 where
  pub accepted : (p : Replaying) → Agrees r file p → IsReplayable p log file reason code
  pub alike : (p : Replaying) (l : Ledger) (m n : ℕ) → Agrees r file p
      → IsReplayed p log file l m n → (m ≡ reason) × (n ≡ code) × TookAlike recorded l
  pub unrefused : (p : Replaying) (l : Ledger) (refusal : Refusal) → Agrees r file p
      → IsRefusedLog p log file l refusal → ⊥
