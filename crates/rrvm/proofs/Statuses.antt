-- What a status says of its outcome, and so of its cause.
use Rattle.std.proofs.Common.{◌≡◌, ◌⊎◌, inl, inr, ℕ, Bool, true, false, List, [], ◌∷◌, refl, sym, ap, ◌∙◌, subst}
use Rattle.std.specs.Prelude.{Some, None, IfSome, ◌==◌, codes, if◌then◌else◌, Result, Ok, Err, ⊤}
use Rattle.std.specs.Str.{bytes_eq}
use Rattle.std.proofs.lemmas.Bool.{eqb-true}
use Rattle.command_line.specs.Icount.{name_of}
use Rattle.command_line.specs.Number.{number_in}
use Rattle.std.specs.declared.option.Option.{Option}
use Rattle.outside.specs.Ledger.{Ledger}
use Rattle.command_line.specs.Words.{Recording, Run, Reading, Records, Replays, Debugs, Checks, Bad, Early, demo_letters, demo_reading, listed_log, events_reading, run_bios, after_bios, run_option, run_log, run_words, run_reading, Command, DebugCommand, CheckCommand, EventsCommand, DemoCommand, command_of, command_or, quiet_reading}
use Rattle.elf_load.specs.declared.error.LoadError.{LoadError}
use Rattle.commands.specs.declared.outcome.Outcome.{Outcome}
use Rattle.commands.specs.declared.outcome.Outcome.TheVariants.{Printed, GuestEnded, IdleForEver, BudgetReached, BadFirmware, RecordingStopped, HeaderRefused, LogRefused}
use Rattle.run_files.specs.Ledgers.{CountsKept}
use Rattle.commands.specs.Faults.{KeptBut, NamesFault, NamesFirstFault, IsFaultless}
use Rattle.commands.specs.Outcomes.{status_of}
use Rattle.run_files.specs.Firmwares.{IsBadFirmware}
use Rattle.commands.specs.Causes.{IfRecords, IsEnded}
use Rattle.rrvm.specs.Causes.{Cause, Names, IsPrinted}
use Rattle.rrvm.specs.Answers.{Explained}

ended-eight : (b : Bool) → ◌≡◌ {A = ℕ} (if b then 0 else 10) 8 → ⊥
ended-eight true e = absurd cc
ended-eight false e = absurd cc

-- status 8 is a bad firmware's
eight : (outcome : Outcome) → status_of outcome ≡ 8
    → (rule : LoadError) × (outcome ≡ BadFirmware rule)
eight (BadFirmware rule) e = (rule, refl)
eight (GuestEnded code) e = absurd (ended-eight (code == 0) e)
eight outcome e = absurd cc

not-zero : (code : ℕ) → status_of (GuestEnded code) ≡ 10 → code ≡ 0 → ⊥
not-zero code e zero = (let z : ◌≡◌ {A = ℕ} 10 0 = sym e ∙ ap (λ (n : ℕ). status_of (GuestEnded n))
    zero in absurd cc)

-- status 10 is a guest's whose code isn't 0
ten : (outcome : Outcome) → status_of outcome ≡ 10
    → (code : ℕ) × (code ≡ 0 → ⊥) × (outcome ≡ GuestEnded code)
ten (GuestEnded code) e = (code, not-zero code e, refl)
ten outcome e = absurd cc

some-rule : (o : Option (List ℕ)) (r : Recording) (rule : LoadError)
    → IfSome o (λ file. IsBadFirmware file r.ram_mib rule)
    → IfSome o (λ file. (x : LoadError) × IsBadFirmware file r.ram_mib x)
some-rule None r rule k = tt
some-rule (Some file) r rule k = (rule, k)

bad-firmware : (r : Reading) (old new : Ledger) (rule : LoadError)
    → Cause r old new (BadFirmware rule)
    → IfRecords r old (λ words file. (x : LoadError) × IsBadFirmware file words.ram_mib x)
bad-firmware (Records words) old new rule k = some-rule (old.names words.bios) words rule k
bad-firmware other old new rule k = tt

pub bad-firmware-told : {words : List (List ℕ)} {r : Reading} {old new : Ledger} {status : ℕ}
    → Explained words r old new status
    → status ≡ 8 → IfRecords r old (λ words file. (x : LoadError) × IsBadFirmware file words.ram_mib
    x)
bad-firmware-told {r = r} {old = old} {new = new} x e =
    let is = eight x.outcome (sym x.is_status ∙ e) in
    bad-firmware r old new is.0 (subst (λ (z : Outcome). Cause r old new z) is.1 x.cause)

guest-ended : (r : Reading) (old new : Ledger) (code : ℕ) → Cause r old new (GuestEnded code)
    → IsEnded r old new 0 code
guest-ended (Records words) old new code k = k
guest-ended (Replays words) old new code k = k
guest-ended (Bad n) old new code (inl e) = absurd cc
guest-ended (Bad n) old new code (inr e) = absurd cc
guest-ended Early old new code (inl e) = absurd cc
guest-ended Early old new code (inr e) = absurd cc
guest-ended other old new code k = absurd k

pub guest-ended-told : {words : List (List ℕ)} {r : Reading} {old new : Ledger} {status : ℕ}
    → Explained words r old new status
    → status ≡ 10 → (code : ℕ) × (code ≡ 0 → ⊥) × IsEnded r old new 0 code
guest-ended-told {r = r} {old = old} {new = new} x e =
    let is = ten x.outcome (sym x.is_status ∙ e) in (
      is.0,
      is.1,
      guest-ended r old new is.0
          (subst (λ (z : Outcome). Cause r old new z) is.2 x.cause),
    )

-- status 0 is a printed text's, or a guest's whose code is 0
code-zero : (b : Bool) → ◌≡◌ {A = ℕ} (if b then 0 else 10) 0 → b ≡ true
code-zero true e = refl
code-zero false e = absurd cc

passes : (outcome : Outcome) → status_of outcome ≡ 0 → (outcome ≡ Printed) ⊎ (outcome ≡ GuestEnded 0)
passes Printed e = inl refl
passes (GuestEnded code) e = inr (ap GuestEnded (eqb-true code 0 (code-zero (code == 0) e)))
passes outcome e = absurd cc

printed : (r : Reading) (old new : Ledger) → Cause r old new Printed → IsPrinted r old new
printed (Bad n) old new (inl e) = absurd cc
printed (Bad n) old new (inr e) = absurd cc
printed Early old new (inl e) = absurd cc
printed Early old new (inr e) = absurd cc
printed r old new k = k

passed : (r : Reading) (old new : Ledger) (outcome : Outcome) → Cause r old new outcome
    → (outcome ≡ Printed) ⊎ (outcome ≡ GuestEnded 0) → IsPrinted r old new ⊎ IsEnded r old new 0 0
passed r old new outcome k (inl e) =
    inl (printed r old new (subst (λ (z : Outcome). Cause r old new z) e k))
passed r old new outcome k (inr e) =
    inr (guest-ended r old new 0 (subst (λ (z : Outcome). Cause r old new z) e k))

pub passed-told : {words : List (List ℕ)} {r : Reading} {old new : Ledger} {status : ℕ}
    → Explained words r old new status
    → status ≡ 0 → IsPrinted r old new ⊎ IsEnded r old new 0 0
passed-told {r = r} {old = old} {new = new} x e =
    passed r old new x.outcome x.cause (passes x.outcome (sym x.is_status ∙ e))

-- ---- a quiet command records and replays nothing

-- the words don't ask for a run that ends with a guest's code
abbrev RunsNothing : Reading → Type 0
RunsNothing r = (old new : Ledger) → IsEnded r old new 0 0 → ⊥

letters-quiet : (o : Option ℕ) (rest : List (List ℕ)) → RunsNothing (demo_letters o rest)
letters-quiet None rest = λ old new k. k
letters-quiet (Some n) [] = λ old new k. k
letters-quiet (Some n) (word ∷ rest) = λ old new k. k

demo-quiet : (rest : List (List ℕ)) → RunsNothing (demo_reading rest)
demo-quiet [] = λ old new k. k
demo-quiet (n ∷ rest) = letters-quiet (number_in 1 2000 n) rest

log-quiet : (o : Option (List ℕ)) (rest : List (List ℕ)) → RunsNothing (listed_log o rest)
log-quiet None rest = λ old new k. k
log-quiet (Some log) [] = λ old new k. k
log-quiet (Some log) (word ∷ rest) = λ old new k. k

events-quiet : (rest : List (List ℕ)) → RunsNothing (events_reading rest)
events-quiet [] = λ old new k. k
events-quiet (word ∷ rest) = log-quiet (name_of word) rest

-- what words that name no run are
abbrev ErrQuiet : Result Run Reading → Type 0
ErrQuiet (Ok run) = ⊤
ErrQuiet (Err other) = RunsNothing other

bios-quiet : (log : List ℕ) (o : Option (List ℕ)) (rest : List (List ℕ))
    → ErrQuiet (run_bios log o rest)
bios-quiet log None rest = λ old new k. k
bios-quiet log (Some bios) [] = tt
bios-quiet log (Some bios) (word ∷ rest) = λ old new k. k

after-quiet : (log : List ℕ) (rest : List (List ℕ)) → ErrQuiet (after_bios log rest)
after-quiet log [] = λ old new k. k
after-quiet log (word ∷ rest) = bios-quiet log (name_of word) rest

option-quiet : (log : List ℕ) (b : Bool) (rest : List (List ℕ))
    → ErrQuiet (if b then after_bios log rest else Err (Bad 2))
option-quiet log true rest = after-quiet log rest
option-quiet log false rest = λ old new k. k

run-option-quiet : (log : List ℕ) (rest : List (List ℕ)) → ErrQuiet (run_option log rest)
run-option-quiet log [] = λ old new k. k
run-option-quiet log (word ∷ rest) = option-quiet log (bytes_eq word (codes "-bios")) rest

run-log-quiet : (o : Option (List ℕ)) (rest : List (List ℕ)) → ErrQuiet (run_log o rest)
run-log-quiet None rest = λ old new k. k
run-log-quiet (Some log) rest = run-option-quiet log rest

run-words-quiet : (rest : List (List ℕ)) → ErrQuiet (run_words rest)
run-words-quiet [] = λ old new k. k
run-words-quiet (word ∷ rest) = run-log-quiet (name_of word) rest

debug-quiet : (r : Result Run Reading) → ErrQuiet r → RunsNothing (run_reading Debugs r)
debug-quiet (Ok run) k = λ old new ended. ended
debug-quiet (Err other) k = k

check-quiet : (r : Result Run Reading) → ErrQuiet r → RunsNothing (run_reading Checks r)
check-quiet (Ok run) k = λ old new ended. ended
check-quiet (Err other) k = k

command-quiet : (command : Option Command) (rest : List (List ℕ))
    → RunsNothing (command_or command rest (Bad 0))
command-quiet None rest = λ old new k. k
command-quiet (Some DebugCommand) rest = debug-quiet (run_words rest) (run-words-quiet rest)
command-quiet (Some CheckCommand) rest = check-quiet (run_words rest) (run-words-quiet rest)
command-quiet (Some EventsCommand) rest = events-quiet rest
command-quiet (Some DemoCommand) rest = demo-quiet rest

quiet : (words : List (List ℕ)) → RunsNothing (quiet_reading words)
quiet [] = λ old new k. k
quiet (word ∷ rest) = command-quiet (command_of word) rest

only-printed : (r : Reading) (old new : Ledger) → (IsEnded r old new 0 0 → ⊥)
    → IsPrinted r old new ⊎ IsEnded r old new 0 0 → IsPrinted r old new
only-printed r old new never (inl p) = p
only-printed r old new never (inr e) = absurd (never e)

pub quiet-told : (words : List (List ℕ)) {old new : Ledger} {status : ℕ}
    → Explained words (quiet_reading words) old new status → status ≡ 0
    → IsPrinted (quiet_reading words) old new
quiet-told words {old} {new} x e =
    only-printed (quiet_reading words) old new (quiet words old new)
    (passed-told x e)

-- ---- the counts where nothing failed

all-kept : (old mid : Ledger) → KeptBut None old mid → CountsKept old mid
all-kept old mid k = record {
  opening = k.opening (λ e. absurd cc);
  firmware = k.firmware (λ e. absurd cc);
  input = k.input (λ e. absurd cc);
  console = k.console (λ e. absurd cc);
  log = k.log (λ e. absurd cc);
  replayed_log = k.replayed_log (λ e. absurd cc);
}

named-kept : (old mid : Ledger) (outcome : Outcome) → IsFaultless (status_of outcome)
    → NamesFault outcome old mid → CountsKept old mid
named-kept old mid (GuestEnded code) run k = all-kept old mid k
named-kept old mid IdleForEver run k = all-kept old mid k
named-kept old mid BudgetReached run k = all-kept old mid k
named-kept old mid Printed run k = all-kept old mid k
named-kept old mid RecordingStopped run k = all-kept old mid k
named-kept old mid (HeaderRefused offset) run k = all-kept old mid k
named-kept old mid (LogRefused refusal) run k = all-kept old mid k
named-kept old mid outcome run k = absurd cc

first-kept : (old mid : Ledger) (outcome : Outcome) → IsFaultless (status_of outcome)
    → NamesFirstFault outcome old mid → CountsKept old mid
first-kept old mid (GuestEnded code) run k = all-kept old mid k
first-kept old mid IdleForEver run k = all-kept old mid k
first-kept old mid BudgetReached run k = all-kept old mid k
first-kept old mid Printed run k = all-kept old mid k
first-kept old mid RecordingStopped run k = all-kept old mid k
first-kept old mid (HeaderRefused offset) run k = all-kept old mid k
first-kept old mid (LogRefused refusal) run k = all-kept old mid k
first-kept old mid outcome run k = absurd cc

names-kept : (r : Reading) (old mid : Ledger) (outcome : Outcome)
    → IsFaultless (status_of outcome) → Names r outcome old mid → CountsKept old mid
names-kept (Records words) old mid outcome run k = first-kept old mid outcome run k
names-kept other old mid outcome run k = named-kept old mid outcome run k

pub unfaulted-told : {words : List (List ℕ)} {r : Reading} {old new : Ledger} {status : ℕ}
    → Explained words r old new status → IsFaultless status → CountsKept old new
unfaulted-told {r = r} {old = old} {new = new} x run =
    names-kept r old new x.outcome (subst IsFaultless x.is_status run) x.named
