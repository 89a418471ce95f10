-- What the top call answers, by its causes in the ledgers before and after.
use Rattle.std.specs.Prelude.{◌≡◌, ◌⊎◌, ◌<◌, ◌≤◌, ◌^◌, ℕ, ⊤, List, [], ◌==◌, length, Some, if◌then◌else◌}
use Rattle.outside.specs.Causes.{Stood}
use Rattle.outside.specs.Ledger.{Ledger}
use Rattle.outside.specs.Told.{Takes, TakesFront}
use Rattle.outside.specs.Roles.{at}
use Rattle.outside.specs.declared.roles.Role.TheVariants.{Messages}
use Rattle.command_line.specs.Words.{Run, Reading}
use Rattle.run_files.specs.Ledgers.{CountsStood}
use Rattle.debug_command.specs.declared.debugging.TheConstants.{LOG_LIMIT}
use Rattle.commands.specs.declared.outcome.Outcome.{Outcome}
use Rattle.commands.specs.declared.outcome.Outcome.TheVariants.{BadWord, WordsMissing}
use Rattle.rrvm.specs.Causes.{Cause, Names}
use Rattle.commands.specs.Outcomes.{status_of}
use Rattle.rrvm.specs.Messages.{line_of}

-- The status, what it came by, and no other fault, and what the messages took: a front of the
-- status's line, and all of it where the messages counted no fault and memory wasn't refused.
pub record Explained (words : List (List ℕ)) (r : Reading) (old new : Ledger) (status : ℕ)
    : Type 0 where
  pub outcome : Outcome
  pub is_status : status ≡ status_of outcome
  pub cause : Cause r old new outcome
  pub named : Names r outcome old new
  pub said : at old.opened Messages < at new.opened Messages
      → TakesFront (Some []) (at new.last Messages) (line_of words r outcome)
  pub all_said : (status ≡ 30 → ⊥) → Stood (at old.faults Messages) (at new.faults Messages)
      → Takes (Some []) (at new.last Messages) (line_of words r outcome)

-- A debugging session whose files and standard input tell their bytes, no more than it takes, and
-- where no count of faults rises.
pub record DebugsFreely (r : Run) (log file input : List ℕ) (old new : Ledger) : Type 0 where
  pub told : old.names r.log ≡ Some log
  pub held : old.names r.bios ≡ Some file
  pub heard : old.input ≡ Some input
  pub short : length log ≤ LOG_LIMIT
  pub few : length input ≤ 2 ^ 20
  pub stood : CountsStood old new

-- the words leave the grammar
abbrev pub IsWordFault : Outcome → Type 0
IsWordFault (BadWord number) = ⊤
IsWordFault WordsMissing = ⊤
IsWordFault other = ⊥

-- the statuses of a machine that ran to an end of its own
abbrev pub HasRun : ℕ → Type 0
HasRun status = (status ≡ 0) ⊎ ((status ≡ 10) ⊎ ((status ≡ 12) ⊎ (status ≡ 13)))

-- the status of a replay whose log ends by this reason and code
abbrev pub ending_status : ℕ → ℕ → ℕ
ending_status reason code =
    if reason == 0 then (if code == 0 then 0 else 10)
    else if reason == 1 then 12
    else if reason == 2 then 13
    else 14
