-- A check whose images are those of its log's header, where no count of faults rises: a log that is
-- accepted whole gives status 0, and one with a first wrong event is refused.
use Rattle.std.proofs.Common.{◌≡◌, ◌⊎◌, inl, inr, ℕ, List, refl, sym, subst, arith}
use Rattle.std.specs.Prelude.{Some}
use Rattle.outside.specs.Ledger.{Ledger}
use Rattle.command_line.specs.Words.{Replaying, Run, Reading, Checks}
use Rattle.elf_load.specs.declared.pieces.Loaded.{Loaded}
use Rattle.event_log.specs.declared.header.Header.{Header}
use Rattle.log_order.specs.declared.refusal.Refusal.{Refusal}
use Rattle.run_files.specs.Ledgers.{CountsStood}
use Rattle.commands.specs.Asking.{replaying_of}
use Rattle.commands.specs.Outcomes.{status_of}
use Rattle.commands.specs.Replays.{Starts, IsTooLong, IsReplayable, IsRefusable}
use Rattle.commands.specs.declared.outcome.Outcome.{Outcome}
use Rattle.commands.specs.declared.outcome.Outcome.TheVariants.{Printed, CannotOpen, CannotRead, LogUnreadable, BadFirmware, HeaderRefused, LogRefused, ImagesDiffer, LogTooLong, QuietFailed, NoMemory}
use Rattle.check_command.specs.Checks.{CheckCause, IsAccepted, IsChecked, IsRefusedAt}
use Rattle.check_command.specs.declared.tally.Tally.{Tally}
use Rattle.rrvm.specs.Answers.{Explained}
use Rattle.rrvm.specs.Causes.{Cause}
use Rattle.rrvm.proofs.Completing.{both-told, rose-stood, never-early, whole-refused, long-refused}

-- the status of a log that is accepted, is refused, or is too long; or memory is refused
abbrev Judged : Replaying → List ℕ → List ℕ → ℕ → Type 0
Judged r log file status =
    (((t : Tally) × IsAccepted r log file t) × (status ≡ 0))
    ⊎ (((refusal : Refusal) × IsRefusedAt r log file refusal × (status ≡ 20))
    ⊎ ((IsTooLong r log file × (status ≡ 22)) ⊎ (status ≡ 30)))

judged : (r : Replaying) (log file : List ℕ) (h : Header) (f : Loaded) (old new : Ledger)
    (outcome : Outcome)
    → old.names r.log ≡ Some log → old.names r.bios ≡ Some file → Starts r log file h f
    → CountsStood old new → CheckCause r old new outcome → Judged r log file (status_of outcome)
judged r log file h f old new Printed told held s stood k =
    let checked = both-told (old.names r.log) (old.names r.bios) log file
    (λ xs ys. IsChecked r xs ys new) told held k in
    inl ((checked.0, checked.1), refl)
judged r log file h f old new (LogRefused refusal) told held s stood k =
    let refused = both-told (old.names r.log) (old.names r.bios) log file
    (λ xs ys. IsRefusedAt r xs ys refusal) told held k in
    inr (inl (refusal, refused, refl))
judged r log file h f old new LogTooLong told held s stood k =
    let long = both-told (old.names r.log) (old.names r.bios) log file
    (λ xs ys. IsTooLong r xs ys) told held k in
    inr (inr (inl (long, refl)))
judged r log file h f old new QuietFailed told held s stood k =
    absurd (rose-stood _ _ k.0 stood.console)
judged r log file h f old new NoMemory told held s stood k = inr (inr (inr refl))
judged r log file h f old new (CannotOpen role) told held s stood k =
    absurd (never-early r log file h f old new (CannotOpen role) told held s stood tt k)
judged r log file h f old new CannotRead told held s stood k =
    absurd (never-early r log file h f old new CannotRead told held s stood tt k)
judged r log file h f old new LogUnreadable told held s stood k =
    absurd (never-early r log file h f old new LogUnreadable told held s stood tt k)
judged r log file h f old new (BadFirmware rule) told held s stood k =
    absurd (never-early r log file h f old new (BadFirmware rule) told held s stood tt k)
judged r log file h f old new (HeaderRefused offset) told held s stood k =
    absurd (never-early r log file h f old new (HeaderRefused offset) told held s stood tt k)
judged r log file h f old new (ImagesDiffer which) told held s stood k =
    absurd (never-early r log file h f old new (ImagesDiffer which) told held s stood tt k)
judged r log file h f old new outcome told held s stood k = absurd k

explained-judged : {words : List (List ℕ)} {line : Reading} {old new : Ledger} {status : ℕ}
    → Explained words line old new status
    → (r : Run) (log file : List ℕ) (h : Header) (f : Loaded) → line ≡ Checks r
    → old.names r.log ≡ Some log → old.names r.bios ≡ Some file
    → Starts (replaying_of r.log r.bios) log file h f
    → CountsStood old new → Judged (replaying_of r.log r.bios) log file status
explained-judged {old = old} {new = new} x r log file h f asks told held s stood =
    let cause = subst (λ (z : Reading). Cause z old new x.outcome) asks x.cause in
    subst (λ (z : ℕ). Judged (replaying_of r.log r.bios) log file z) (sym x.is_status)
    (judged (replaying_of r.log r.bios) log file h f old new x.outcome told held s stood cause)

accepts : (r : Replaying) (log file : List ℕ) (reason code status : ℕ)
    → IsReplayable r log file reason code → Judged r log file status
    → (status ≡ 0) ⊎ (status ≡ 30)
accepts r log file reason code status x (inl (k, e)) = inl e
accepts r log file reason code status x (inr (inl (refusal, k, e))) =
    absurd (whole-refused r log file x.starts x.short x.whole k.starts k.wrong)
accepts r log file reason code status x (inr (inr (inl (k, e)))) =
    absurd (omega (arith, k.long, x.short))
accepts r log file reason code status x (inr (inr (inr e))) = inr e

refuses : (r : Replaying) (log file : List ℕ) (status : ℕ) → IsRefusable r log file
    → Judged r log file status → (status ≡ 20) ⊎ (status ≡ 30)
refuses r log file status x (inl ((t, k), e)) =
    absurd (whole-refused r log file k.starts k.short k.whole x.starts x.wrong)
refuses r log file status x (inr (inl (refusal, k, e))) = inl e
refuses r log file status x (inr (inr (inl (k, e)))) =
    absurd (long-refused r log file k.starts k.long k.undecided x.starts x.wrong)
refuses r log file status x (inr (inr (inr e))) = inr e

pub accepts-told : {words : List (List ℕ)} {line : Reading} {old new : Ledger} {status : ℕ}
    → Explained words line old new status
    → (r : Run) (log file : List ℕ) (reason code : ℕ) → line ≡ Checks r
    → old.names r.log ≡ Some log → old.names r.bios ≡ Some file
    → IsReplayable (replaying_of r.log r.bios) log file reason code → CountsStood old new
    → (status ≡ 0) ⊎ (status ≡ 30)
accepts-told {status = status} e r log file reason code asks told held x stood =
    accepts (replaying_of r.log r.bios) log file reason code status x
    (explained-judged e r log file x.header x.firmware asks told held x.starts stood)

pub rejects-told : {words : List (List ℕ)} {line : Reading} {old new : Ledger} {status : ℕ}
    → Explained words line old new status
    → (r : Run) (log file : List ℕ) → line ≡ Checks r
    → old.names r.log ≡ Some log → old.names r.bios ≡ Some file
    → IsRefusable (replaying_of r.log r.bios) log file → CountsStood old new
    → (status ≡ 20) ⊎ (status ≡ 30)
rejects-told {status = status} e r log file asks told held x stood =
    refuses (replaying_of r.log r.bios) log file status x
    (explained-judged e r log file x.header x.firmware asks told held x.starts stood)
