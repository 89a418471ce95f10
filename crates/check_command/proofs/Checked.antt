-- What a check comes to, by what the run of its log gave and by what was printed.
use Rattle.std.proofs.Common.{◌≡◌, ℕ, List, refl, sym, ap, ◌∙◌, subst}
use Rattle.std.specs.Prelude.{Some, None, Result, Ok, Err, OnOk, IsErrOf, [], ◌∷◌}
use Rattle.std.specs.declared.option.Option.{Option}
use Rattle.outside.specs.Causes.{Rose, both}
use Rattle.outside.specs.Ledger.{Ledger, opens, source_back}
use Rattle.outside.specs.Openings.{OpensFront}
use Rattle.outside.specs.Roles.{at}
use Rattle.outside.specs.Told.{Takes}
use Rattle.outside.specs.declared.openings.Opening.TheVariants.{Source}
use Rattle.outside.specs.declared.roles.Role.TheVariants.{ConsoleOut, LogIn}
use Rattle.outside.proofs.OpeningLemmas.{OpensFront-after, OpensFront-longer}
use Rattle.command_line.specs.Words.{Replaying}
use Rattle.event_log.specs.Reading.{Reader, ahead, reading, none_read}
use Rattle.commands.specs.Asking.{quiet_outcome_of}
use Rattle.run_files.specs.Files.{firmware_opening}
use Rattle.commands.specs.Causes.{IfBoth}
use Rattle.commands.specs.Openings.{console_openings, played_openings}
use Rattle.commands.specs.declared.outcome.Outcome.{Outcome}
use Rattle.commands.specs.declared.outcome.Outcome.TheVariants as outcome
use Rattle.commands.specs.declared.printing.PrintFault.{PrintFault}
use Rattle.commands.specs.declared.printing.PrintFault.TheVariants.{Failed, NoMemory}
use Rattle.commands.proofs.Replayed.{both-rose}
use Rattle.check_command.specs.Checks.{accepted_line, IsAccepted, UnacceptedCause, CheckCause, only_judging}
use Rattle.check_command.specs.declared.tally.Tally.{Tally}
use Rattle.check_command.proofs.Judged.{both-some}

-- ---- the log that was opened

all-ahead : (log : Option (List ℕ)) → ahead (reading log 0 (none_read 0)) ≡ log
all-ahead None = refl
all-ahead (Some bytes) = refl

-- Until the log is given back, nothing is opened or counted of the console.
pub console-untouched : (old opened mid back : Ledger) (log : List ℕ) (n : ℕ)
    (left : Option (List ℕ))
    → opened ≡ opens old LogIn (Some log) → mid ≡ only_judging opened mid
    → back ≡ source_back mid LogIn n left
    → (at back.faults ConsoleOut ≡ at old.faults ConsoleOut)
    × (at back.opened ConsoleOut ≡ at old.opened ConsoleOut)
console-untouched old opened mid back log n left opens_ rest back_ = (
  ap (λ (l : Ledger). at l.faults ConsoleOut) back_
      ∙ ap (λ (l : Ledger). at l.faults ConsoleOut) rest
      ∙ ap (λ (l : Ledger). at l.faults ConsoleOut) opens_,
  ap (λ (l : Ledger). at l.opened ConsoleOut) back_
      ∙ ap (λ (l : Ledger). at l.opened ConsoleOut) rest
      ∙ ap (λ (l : Ledger). at l.opened ConsoleOut) opens_,
)

-- it was opened, and then the firmware or not
pub judged-openings : (log bios : List ℕ) (old opened mid back : Ledger) (n : ℕ)
    (left : Option (List ℕ)) → opened ≡ opens old LogIn (Some log)
    → OpensFront opened.openings mid.openings (firmware_opening bios ∷ [])
    → back ≡ source_back mid LogIn n left
    → OpensFront old.openings back.openings (Source LogIn (Some log) ∷ played_openings bios)
judged-openings log bios old opened mid back n left opens_ judged back_ =
    subst (λ z. OpensFront old.openings z (Source LogIn (Some log) ∷ played_openings bios))
    (sym (ap (λ (l : Ledger). l.openings) back_))
    (OpensFront-after old.openings opened.openings mid.openings (Source LogIn (Some log) ∷ [])
    (played_openings bios) (ap (λ (l : Ledger). l.openings) opens_)
    (OpensFront-longer _ _ (firmware_opening bios ∷ []) console_openings judged))

-- ---- where it has a tally

-- what holds of what a reader of it has ahead holds of the log
pub accepted-log : (r : Replaying) (t : Tally) (old mid : Ledger) (log : Reader)
    → mid ≡ opens old LogIn (Some r.log) → log ≡ reading (old.names r.log) 0 (none_read 0)
    → IfBoth (ahead log) (mid.names r.bios) (λ bytes file. IsAccepted r bytes file t)
    → IfBoth (old.names r.log) (old.names r.bios) (λ bytes file. IsAccepted r bytes file t)
accepted-log r t old mid log opened is k =
    subst (λ (l : Ledger). IfBoth (old.names r.log) (l.names r.bios)
    (λ bytes file. IsAccepted r bytes file t)) opened
    (subst (λ (o : Option (List ℕ)). IfBoth o (mid.names r.bios)
    (λ bytes file. IsAccepted r bytes file t)) (ap ahead is ∙ all-ahead (old.names r.log)) k)

-- its line was printed or not
pub told-cause : (r : Replaying) (t : Tally) (old mid new : Ledger) (line : List ℕ)
    (printed : Result (Unit {0}) PrintFault) (x : Outcome)
    → IfBoth (old.names r.log) (old.names r.bios) (λ bytes file. IsAccepted r bytes file t)
    → at mid.faults ConsoleOut ≡ at old.faults ConsoleOut → line ≡ accepted_line t
    → OnOk printed (Takes (Some []) (at new.last ConsoleOut) line)
    → (IsErrOf printed Failed → Rose (at mid.faults ConsoleOut) (at new.faults ConsoleOut))
    → x ≡ quiet_outcome_of printed → CheckCause r old new x
told-cause r t old mid new line printed x k same is taken failed by =
    subst (λ (z : Outcome). CheckCause r old new z) (sym by) (told printed taken failed)
  where
    told : (p : Result (Unit {0}) PrintFault)
        → OnOk p (Takes (Some []) (at new.last ConsoleOut) line)
        → (IsErrOf p Failed → Rose (at mid.faults ConsoleOut) (at new.faults ConsoleOut))
        → CheckCause r old new (quiet_outcome_of p)
    told (Ok done) took fault =
        both-some (old.names r.log) (old.names r.bios) (λ bytes file a. (
          t,
          a,
          subst (λ (z : List ℕ). Takes (Some []) (at new.last ConsoleOut) z) is took,
        )) k
    told (Err Failed) took fault = (
      subst (λ (n : ℕ). Rose n (at new.faults ConsoleOut)) same (fault refl),
      both-some (old.names r.log) (old.names r.bios) (λ bytes file a. (t, a)) k,
    )
    told (Err NoMemory) took fault = tt

-- ---- where it has none

log-rose : (old mid : Ledger) (n : ℕ) → at mid.faults LogIn ≡ at old.faults LogIn → Rose 0 n
    → Rose (at old.faults LogIn) (both (at mid.faults LogIn) n)
log-rose old mid n same rose =
    subst (λ (z : ℕ). Rose (at old.faults LogIn) z)
    (sym (ap (λ (z : ℕ). both z n) same)) (both-rose (at old.faults LogIn) n rose)

-- the log was opened, run and given back
given-back : (r : Replaying) (old mid : Ledger) (n : ℕ) (left : Option (List ℕ)) (x : Outcome)
    → at mid.faults LogIn ≡ at old.faults LogIn
    → UnacceptedCause r (old.names r.log) (opens old LogIn (Some r.log)) mid (Rose 0 n) x
    → CheckCause r old (source_back mid LogIn n left) x
given-back r old mid n left (outcome.CannotOpen role) same k =
    record { counted = k.counted; which = k.which }
given-back r old mid n left outcome.CannotRead same k = k
given-back r old mid n left outcome.LogUnreadable same k = log-rose old mid n same k
given-back r old mid n left (outcome.BadFirmware rule) same k = k
given-back r old mid n left (outcome.HeaderRefused offset) same k =
    (k.0, record { shown = k.1.shown; read = k.1.read })
given-back r old mid n left (outcome.LogRefused refusal) same k = k
given-back r old mid n left (outcome.ImagesDiffer which) same k = k
given-back r old mid n left outcome.LogTooLong same k = k
given-back r old mid n left outcome.NoMemory same k = tt
given-back r old mid n left outcome.Printed same k = absurd k
given-back r old mid n left outcome.QuietFailed same k = absurd k
given-back r old mid n left other same k = absurd k

pub untold-cause : (r : Replaying) (old opened mid new : Ledger) (log log' : Reader) (n : ℕ)
    (left : Option (List ℕ)) (x : Outcome)
    → opened ≡ opens old LogIn (Some r.log) → log ≡ reading (old.names r.log) 0 (none_read 0)
    → mid ≡ only_judging opened mid → new ≡ source_back mid LogIn n left → n ≡ log'.faults
    → UnacceptedCause r (ahead log) opened mid (Rose log.faults log'.faults) x
    → CheckCause r old new x
untold-cause r old opened mid new log log' n left x opens_ is rest back counted k =
    let failed = Rose log.faults log'.faults in
    let names = old.names r.log in
    let first = opens old LogIn (Some r.log) in
    let one = subst (λ (o : Option (List ℕ)). UnacceptedCause r o opened mid failed x)
    (ap ahead is ∙ all-ahead names) k in
    let two = subst (λ (l : Ledger). UnacceptedCause r names l mid failed x) opens_ one in
    let three = subst (λ (z : ℕ). UnacceptedCause r names first mid (Rose z log'.faults) x)
    (ap (λ (l : Reader). l.faults) is) two in
    let four = subst (λ (z : ℕ). UnacceptedCause r names first mid (Rose 0 z) x) (sym counted) three in
    subst (λ (l : Ledger). CheckCause r old l x) (sym back)
    (given-back r old mid n left x
    (ap (λ (l : Ledger). at l.faults LogIn) rest ∙ ap (λ (l : Ledger). at l.faults LogIn) opens_)
    four)
