-- Which counts of faults a recording leaves as they were.
use Rattle.std.proofs.Common.{◌≡◌, ℕ, Bool, true, false, List, refl, sym, ap, ◌∙◌, subst, arith}
use Rattle.std.specs.Prelude.{None, ◌==◌, if◌then◌else◌}
use Rattle.outside.specs.Causes.{both}
use Rattle.outside.specs.Ledger.{Ledger}
use Rattle.outside.specs.Roles.{at}
use Rattle.outside.specs.declared.roles.Role.{Role}
use Rattle.outside.specs.declared.roles.Role.TheVariants.{ConsoleIn, ConsoleOut, LogIn, LogOut, Firmware}
use Rattle.board.specs.State.{State}
use Rattle.rr_engine.specs.declared.ends.RunEnd.{RunEnd}
use Rattle.rr_engine.specs.declared.ends.RunEnd.TheVariants.{End, ConsoleRead, ConsoleWrite, LogWrite, NoMemory}
use Rattle.rr_engine.specs.Stand.{Devices}
use Rattle.rr_engine.specs.Runs.{Records}
use Rattle.commands.specs.declared.devices.RecordingEnd.{RecordingEnd}
use Rattle.commands.specs.declared.devices.RecordingEnd.TheVariants as ends
use Rattle.commands.specs.declared.outcome.Outcome.{Outcome}
use Rattle.commands.specs.declared.outcome.Outcome.TheVariants as outcome
use Rattle.commands.specs.Asking.{ending_outcome_of}
use Rattle.commands.specs.Endings.{IsFresh, OpeningsKept, KeptOf, KeepsCounts, closed, recording_end_of}
use Rattle.commands.specs.Faults.{KeptBut, NamesFirstFault}
use Rattle.run_files.specs.Files.{CountsSame}
use Rattle.run_files.specs.Ledgers.{only_opening, only_recording}

-- a device that had no fault and has none was given back
given-back : (before held now was : ℕ) → held ≡ before → now ≡ was → was ≡ 0
    → both held now ≡ before
given-back before held now was opened same fresh = omega (arith, opened, same, fresh)

-- the counts are those from before the devices were opened
pub record AsBefore (l k : Ledger) : Type 0 where
  pub opening : k.opening_faults ≡ l.opening_faults
  pub faults : k.faults ≡ l.faults

held : (l k : Ledger) → AsBefore l k → (role : Role) → at k.faults role ≡ at l.faults role
held l k same role = ap (λ p. at p role) same.faults

records-keep : (start : State) (head : List ℕ) (l k : Ledger) (old new : Devices) (end : RunEnd)
    → IsFresh l old → AsBefore l k → Records start head old new end
    → KeepsCounts (recording_end_of end) l (closed k new)
records-keep start head l k old new (End reason code) fresh same r = (
  same.opening,
  given-back _ _ _ _ (held l k same ConsoleIn) r.4 fresh.input_faults,
  given-back _ _ _ _ (held l k same ConsoleOut) r.3 fresh.console_faults,
  given-back _ _ _ _ (held l k same LogOut) r.2 fresh.log_faults,
)
records-keep start head l k old new ConsoleRead fresh same r =
    (same.opening, given-back _ _ _ _ (held l k same ConsoleOut) r.3 fresh.console_faults)
records-keep start head l k old new ConsoleWrite fresh same r =
    (same.opening, given-back _ _ _ _ (held l k same ConsoleIn) r.3 fresh.input_faults)
records-keep start head l k old new LogWrite fresh same r = (
  same.opening,
  given-back _ _ _ _ (held l k same ConsoleIn) r.3 fresh.input_faults,
  given-back _ _ _ _ (held l k same ConsoleOut) r.2 fresh.console_faults,
)
records-keep start head l k old new NoMemory fresh same r = tt

pub recorded-kept : (start : State) (head : List ℕ) (l k m : Ledger) (old new : Devices)
    (end : RunEnd) (result : RecordingEnd) → IsFresh l old → AsBefore l k
    → Records start head old new end → m ≡ closed k new → result ≡ recording_end_of end
    → KeepsCounts result l m
recorded-kept start head l k m old new end result fresh same r back is =
    subst (λ (z : RecordingEnd). KeepsCounts z l m) (sym is)
    (subst (λ (z : Ledger). KeepsCounts (recording_end_of end) l z) (sym back)
    (records-keep start head l k old new end fresh same r))

-- ---- the run

-- what a run leaves: the firmware's file was read without a fault, and then a recording was made
pub record Ran (old mid new : Ledger) : Type 0 where
  pub read : CountsSame Firmware old mid
  pub only_read : mid ≡ only_opening Firmware old mid
  pub only_recorded : new ≡ only_recording mid new

-- the counts of a run by those of its recording
opening-ran : (old mid new : Ledger) → Ran old mid new → OpeningsKept mid new → OpeningsKept old new
opening-ran old mid new x kept = kept ∙ x.read.opening

firmware-ran : (old mid new : Ledger) → Ran old mid new → KeptOf Firmware old new
firmware-ran old mid new x =
    ap (λ (l : Ledger). at l.faults Firmware) x.only_recorded ∙ x.read.faults

input-ran : (old mid new : Ledger) → Ran old mid new → KeptOf ConsoleIn mid new
    → KeptOf ConsoleIn old new
input-ran old mid new x kept = kept ∙ ap (λ (l : Ledger). at l.faults ConsoleIn) x.only_read

console-ran : (old mid new : Ledger) → Ran old mid new → KeptOf ConsoleOut mid new
    → KeptOf ConsoleOut old new
console-ran old mid new x kept = kept ∙ ap (λ (l : Ledger). at l.faults ConsoleOut) x.only_read

log-ran : (old mid new : Ledger) → Ran old mid new → KeptOf LogOut mid new → KeptOf LogOut old new
log-ran old mid new x kept = kept ∙ ap (λ (l : Ledger). at l.faults LogOut) x.only_read

replayed-ran : (old mid new : Ledger) → Ran old mid new → KeptOf LogIn old new
replayed-ran old mid new x =
    ap (λ (l : Ledger). at l.faults LogIn) x.only_recorded
    ∙ ap (λ (l : Ledger). at l.faults LogIn) x.only_read

-- an end of the machine's own names no fault
ended-named : (guest idle : Bool) (code : ℕ) (old new : Ledger) → KeptBut None old new
    → NamesFirstFault (if guest then outcome.GuestEnded code
    else if idle then outcome.IdleForEver else outcome.BudgetReached) old new
ended-named true idle code old new kept = kept
ended-named false true code old new kept = kept
ended-named false false code old new kept = kept

run-names : (old mid new : Ledger) (end : RecordingEnd) → Ran old mid new
    → KeepsCounts end mid new → NamesFirstFault (ending_outcome_of end) old new
run-names old mid new (ends.End reason code) x k =
    ended-named (reason == 0) (reason == 1) code old new (record {
      opening = λ other. opening-ran old mid new x k.0;
      firmware = λ other. firmware-ran old mid new x;
      input = λ other. input-ran old mid new x k.1;
      console = λ other. console-ran old mid new x k.2;
      log = λ other. log-ran old mid new x k.3;
      replayed_log = λ other. replayed-ran old mid new x;
    })
run-names old mid new ends.CannotOpenLog x k = record {
  opening = λ other. absurd (other refl);
  firmware = λ other. firmware-ran old mid new x;
  input = λ other. input-ran old mid new x k.0;
  console = λ other. console-ran old mid new x k.1;
  log = λ other. log-ran old mid new x k.2;
  replayed_log = λ other. replayed-ran old mid new x;
}
run-names old mid new ends.ConsoleUnreadable x k = record {
  opening = λ other. opening-ran old mid new x k.0;
  firmware = λ other. firmware-ran old mid new x;
  input = λ other. absurd (other refl);
  console = λ other. console-ran old mid new x k.1;
  replayed_log = λ other. replayed-ran old mid new x;
}
run-names old mid new ends.ConsoleFailed x k = record {
  opening = λ other. opening-ran old mid new x k.0;
  firmware = λ other. firmware-ran old mid new x;
  input = λ other. input-ran old mid new x k.1;
  console = λ other. absurd (other refl);
  replayed_log = λ other. replayed-ran old mid new x;
}
run-names old mid new ends.LogFailed x k = record {
  opening = λ other. opening-ran old mid new x k.0;
  firmware = λ other. firmware-ran old mid new x;
  input = λ other. input-ran old mid new x k.1;
  console = λ other. console-ran old mid new x k.2;
  log = λ other. absurd (other refl);
  replayed_log = λ other. replayed-ran old mid new x;
}
run-names old mid new ends.NoMemory x k = tt

pub run-named : (old mid new : Ledger) (end : RecordingEnd) (result : Outcome) → Ran old mid new
    → KeepsCounts end mid new → result ≡ ending_outcome_of end → NamesFirstFault result old new
run-named old mid new end result x k is =
    subst (λ (z : Outcome). NamesFirstFault z old new) (sym is) (run-names old mid new end x k)
