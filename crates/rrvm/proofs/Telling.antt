-- Saying how a run ended changes the messages alone, so its cause stays.
use Rattle.std.proofs.Common.{◌≡◌, ◌<◌, ◌^◌, ◌⊎◌, inl, inr, ℕ, List, [], refl, sym, ap, ◌∙◌, subst}
use Rattle.std.specs.Prelude.{Some, None, IfSome}
use Rattle.std.specs.declared.option.Option.{Option}
use Rattle.outside.specs.Causes.{Rose, Stood}
use Rattle.outside.specs.Told.{Takes, TakesFront}
use Rattle.outside.specs.Ledger.{Ledger}
use Rattle.outside.specs.Roles.{at}
use Rattle.outside.specs.declared.roles.Role.TheVariants.{ConsoleOut, LogIn, LogOut, Firmware, Messages}
use Rattle.command_line.specs.Words.{Recording, Replaying, Reading, Records, Replays, Debugs, Checks, Lists, Demonstrates, Help, Version, Bad, Early}
use Rattle.log_order.specs.declared.refusal.Refusal.{Refusal}
use Rattle.rr_engine.specs.Input.{Extent, Entire, Part}
use Rattle.commands.specs.declared.outcome.Outcome.{Outcome}
use Rattle.commands.specs.declared.outcome.Outcome.TheVariants.{Printed, GuestEnded, IdleForEver, BudgetReached, CannotOpen, ConsoleUnreadable, ConsoleFailed, RecordingStopped, HeaderRefused, LogRefused, ImagesDiffer, LogTooLong, QuietFailed, CommandsUnreadable, TooMuchInput, NoMemory}
use Rattle.outside.specs.Openings.{OpensFront}
use Rattle.outside.specs.declared.openings.Opening.{Opening}
use Rattle.run_files.specs.Ledgers.{only, only_run, CountsKept, Untouched}
use Rattle.commands.specs.Faults.{Fault, fault_of, KeptBut, KeptButLog, NamesFault, NamesFirstFault}
use Rattle.run_files.specs.Files.{FailsToOpen}
use Rattle.commands.specs.Openings.{opening_of}
use Rattle.rrvm.specs.Openings.{openings_of, message_openings, OpensAsAsked}
use Rattle.commands.specs.Outcomes.{status_of}
use Rattle.rrvm.specs.Messages.{line_of}
use Rattle.commands.specs.Asking.{replaying_of}
use Rattle.commands.specs.declared.printing.TheConstants.{HELP, VERSION}
use Rattle.run_files.specs.declared.difference.Difference.TheVariants as difference
use Rattle.commands.specs.Recordings.{IsRecorded, IsRecordedToStop, IsLogged}
use Rattle.commands.specs.Replays.{IsReplayed, IsRefusedLog, IsReplayedToLimit, IsShown}
use Rattle.commands.specs.Causes.{RecordCause, ReplayCause, DemoCause, PrintCause, IfBoth, IfRecords, IfRecording}
use Rattle.debug_command.specs.Debugs.{IsHeld, IsShown as IsSessionShown}
use Rattle.debug_command.specs.Causes.{DebugCause, IsHeldTo}
use Rattle.check_command.specs.Checks.{CheckCause}
use Rattle.list_command.specs.Lists.{ListCause}
use Rattle.monitor.specs.declared.sessions.SessionEnd.{SessionEnd}
use Rattle.monitor.specs.declared.sessions.SessionEnd.TheVariants as session_end
use Rattle.run_files.specs.Files.{firmware_opening}
use Rattle.outside.specs.declared.openings.Opening.TheVariants.{Source}
use Rattle.rrvm.specs.Causes.{Cause, Names, Shows}
use Rattle.rrvm.specs.Answers.{Explained}

-- the ledger after the messages were said
abbrev said : Ledger → Ledger → Ledger
said mid new = only Messages mid new

recorded-stays : (o : Option (List ℕ)) (r : Recording) (old mid new : Ledger) (reason code : ℕ)
    → IfSome o (λ file. IsRecorded r file old mid reason code)
    → IfSome o (λ file. IsRecorded r file old (said mid new) reason code)
recorded-stays None r old mid new reason code k = tt
recorded-stays (Some file) r old mid new reason code k = record
    { firmware = k.firmware; loads = k.loads; fits = k.fits; whole = k.whole }

stopped-stays : (held : Option (List ℕ)) (r : Recording) (shown : Extent) (old mid new : Ledger)
    → IfSome held (λ file. IsRecordedToStop r file shown old mid)
    → IfSome held (λ file. IsRecordedToStop r file shown old (said mid new))
stopped-stays None r shown old mid new k = tt
stopped-stays (Some file) r shown old mid new k = record
    { firmware = k.firmware; loads = k.loads; fits = k.fits; stop = k.stop }

replayed-stays : (o held : Option (List ℕ)) (r : Replaying) (mid new : Ledger) (reason code : ℕ)
    → IfBoth o held (λ log file. IsReplayed r log file mid reason code)
    → IfBoth o held (λ log file. IsReplayed r log file (said mid new) reason code)
replayed-stays None held r mid new reason code k = tt
replayed-stays (Some log) None r mid new reason code k = tt
replayed-stays (Some log) (Some file) r mid new reason code k = record {
  header = k.header;
  firmware = k.firmware;
  starts = k.starts;
  short = k.short;
  last = k.last;
  whole = k.whole;
  ended = k.ended;
  console = k.console;
}

refused-stays : (o held : Option (List ℕ)) (r : Replaying) (mid new : Ledger) (refusal : Refusal)
    → IfBoth o held (λ log file. IsRefusedLog r log file mid refusal)
    → IfBoth o held (λ log file. IsRefusedLog r log file (said mid new) refusal)
refused-stays None held r mid new refusal k = tt
refused-stays (Some log) None r mid new refusal k = tt
refused-stays (Some log) (Some file) r mid new refusal k = record {
  header = k.header;
  firmware = k.firmware;
  starts = k.starts;
  mid = k.mid;
  last = k.last;
  wrong = k.wrong;
  console = k.console;
}

long-stays : (o held : Option (List ℕ)) (r : Replaying) (mid new : Ledger)
    → IfBoth o held (λ log file. IsReplayedToLimit r log file mid)
    → IfBoth o held (λ log file. IsReplayedToLimit r log file (said mid new))
long-stays None held r mid new k = tt
long-stays (Some log) None r mid new k = tt
long-stays (Some log) (Some file) r mid new k = record {
  header = k.header;
  firmware = k.firmware;
  starts = k.starts;
  long = k.long;
  last = k.last;
  undecided = k.undecided;
  console = k.console;
}

shown-stays : (o held : Option (List ℕ)) (r : Replaying) (mid new : Ledger)
    → IfBoth o held (λ log file. IsShown r log file mid)
    → IfBoth o held (λ log file. IsShown r log file (said mid new))
shown-stays None held r mid new k = tt
shown-stays (Some log) None r mid new k = tt
shown-stays (Some log) (Some file) r mid new k = record {
  header = k.header;
  firmware = k.firmware;
  starts = k.starts;
  events = k.events;
  rest = k.rest;
  last = k.last;
  accepted = k.accepted;
  console = k.console;
}

logged-stays : (o : Option (List ℕ)) (r : Recording) (old mid new : Ledger)
    → IfSome o (λ file. IsLogged r file old mid)
    → IfSome o (λ file. IsLogged r file old (said mid new))
logged-stays None r old mid new k = tt
logged-stays (Some file) r old mid new k = record
    { firmware = k.firmware; loads = k.loads; front = k.front; log = k.log }

logs-stay : (r : Reading) (old mid new : Ledger)
    → IfRecords r old (λ words file. IsLogged words file old mid)
    → IfRecords r old (λ words file. IsLogged words file old (said mid new))
logs-stay (Records words) old mid new k = logged-stays (old.names words.bios) words old mid new k
logs-stay other old mid new k = tt

fails-stays : (opening : Opening) (old mid new : Ledger) → FailsToOpen opening old mid
    → FailsToOpen opening old (said mid new)
fails-stays opening old mid new k = record { counted = k.counted; which = k.which }

untouched-stays : (old mid new : Ledger) → Untouched old mid → Untouched old (said mid new)
untouched-stays old mid new k = record { shown = k.shown; read = k.read }

record-stays : (r : Recording) (old mid new : Ledger) (outcome : Outcome)
    → RecordCause r old mid outcome
    → RecordCause r old (said mid new) outcome
record-stays r old mid new (GuestEnded code) k = recorded-stays (old.names r.bios) r old mid new 0
    code k
record-stays r old mid new IdleForEver k = recorded-stays (old.names r.bios) r old mid new 1 0 k
record-stays r old mid new BudgetReached k = recorded-stays (old.names r.bios) r old mid new 2 0 k
record-stays r old mid new (CannotOpen role) k =
    fails-stays (opening_of (Records r) role) old mid new k
record-stays r old mid new ConsoleUnreadable k =
    (k.0, k.1, λ stood. stopped-stays (old.names r.bios) r Entire old mid new (k.2 stood))
record-stays r old mid new ConsoleFailed k =
    (k.0, k.1, λ stood. stopped-stays (old.names r.bios) r Part old mid new (k.2 stood))
record-stays r old mid new outcome k = k

replay-stays : (r : Replaying) (log : Option (List ℕ)) (old mid new : Ledger) (F : Type 0)
    (outcome : Outcome)
    → ReplayCause r log old mid F outcome → ReplayCause r log old (said mid new) F outcome
replay-stays r log old mid new F (GuestEnded code) k = replayed-stays log (old.names r.bios) r mid
    new 0 code k
replay-stays r log old mid new F IdleForEver k = replayed-stays log (old.names r.bios) r mid new 1 0
    k
replay-stays r log old mid new F BudgetReached k = replayed-stays log (old.names r.bios) r mid new 2
    0 k
replay-stays r log old mid new F (CannotOpen role) k =
    fails-stays (opening_of (Replays r) role) old mid new k
replay-stays r log old mid new F RecordingStopped k = replayed-stays log (old.names r.bios) r mid
    new 3 0 k
replay-stays r log old mid new F (HeaderRefused offset) k =
    (k.0, untouched-stays old mid new k.1)
replay-stays r log old mid new F (LogRefused refusal) k = refused-stays log (old.names r.bios) r mid
    new refusal k
replay-stays r log old mid new F LogTooLong k = long-stays log (old.names r.bios) r mid new k
replay-stays r log old mid new F outcome k = k

print-stays : (text : List ℕ) (old mid new : Ledger) (outcome : Outcome)
    → PrintCause text old mid outcome → PrintCause text old (said mid new) outcome
print-stays text old mid new NoMemory k = tt
print-stays text old mid new outcome k = k

held-stays : (o held : Option (List ℕ)) (refusal : Option Refusal) (end : SessionEnd)
    (old mid new : Ledger)
    → IfBoth o held (λ log file. IsHeld log file refusal end old mid)
    → IfBoth o held (λ log file. IsHeld log file refusal end old (said mid new))
held-stays None held refusal end old mid new k = tt
held-stays (Some log) None refusal end old mid new k = tt
held-stays (Some log) (Some file) refusal end old mid new k =
    record { script = k.script; part = k.part; serves = k.serves }

held-to-stays : (o held : Option (List ℕ)) (end : SessionEnd) (old mid new : Ledger)
    → IsHeldTo end o held old mid → IsHeldTo end o held old (said mid new)
held-to-stays None held end old mid new k = tt
held-to-stays (Some log) None end old mid new k = tt
held-to-stays (Some log) (Some file) end old mid new k =
    (k.0, record { script = k.1.script; part = k.1.part; serves = k.1.serves })

debug-stays : (log bios : List ℕ) (old mid new : Ledger) (outcome : Outcome)
    → DebugCause log bios old mid outcome → DebugCause log bios old (said mid new) outcome
debug-stays log bios old mid new Printed k =
    held-stays (old.names log) (old.names bios) None session_end.Done old mid new k
debug-stays log bios old mid new (LogRefused r) k =
    held-stays (old.names log) (old.names bios) (Some r) session_end.Done old mid new k
debug-stays log bios old mid new (CannotOpen LogIn) k =
    fails-stays (Source LogIn (Some log)) old mid new k
debug-stays log bios old mid new (CannotOpen Firmware) k =
    fails-stays (firmware_opening bios) old mid new k
debug-stays log bios old mid new CommandsUnreadable k = (
  k.0,
  held-to-stays (old.names log) (old.names bios) session_end.ReadFault old mid new k.1,
)
debug-stays log bios old mid new QuietFailed k = (
  k.0,
  held-to-stays (old.names log) (old.names bios) session_end.WriteFault old mid new k.1,
)
debug-stays log bios old mid new TooMuchInput k =
    held-to-stays (old.names log) (old.names bios) session_end.TooMuchInput old mid new k
debug-stays log bios old mid new (ImagesDiffer difference.Disk) k = k
debug-stays log bios old mid new outcome k = k

check-stays : (r : Replaying) (old mid new : Ledger) (outcome : Outcome)
    → CheckCause r old mid outcome → CheckCause r old (said mid new) outcome
check-stays r old mid new (CannotOpen role) k =
    fails-stays (opening_of (Replays r) role) old mid new k
check-stays r old mid new (HeaderRefused offset) k = (k.0, untouched-stays old mid new k.1)
check-stays r old mid new outcome k = k

list-stays : (log : List ℕ) (held : Option (List ℕ)) (old mid new : Ledger) (F : Type 0)
    (outcome : Outcome)
    → ListCause log held old mid F outcome → ListCause log held old (said mid new) F outcome
list-stays log held old mid new F (HeaderRefused offset) k = (k.0, untouched-stays old mid new k.1)
list-stays log held old mid new F (CannotOpen LogIn) k =
    fails-stays (Source LogIn (Some log)) old mid new k
list-stays log held old mid new F outcome k = k

demo-stays : (n : ℕ) (old mid new : Ledger) (outcome : Outcome) → DemoCause n old mid outcome
    → DemoCause n old (said mid new) outcome
demo-stays n old mid new NoMemory k = tt
demo-stays n old mid new outcome k = k

cause-stays : (r : Reading) (old mid new : Ledger) (outcome : Outcome) → Cause r old mid outcome
    → Cause r old (said mid new) outcome
cause-stays (Records r) old mid new outcome k = record-stays r old mid new outcome k
cause-stays (Replays r) old mid new outcome k =
    replay-stays r (old.names r.log) old mid new (Rose (at old.faults LogIn) (at mid.faults LogIn))
    outcome k
cause-stays (Debugs r) old mid new outcome k = debug-stays r.log r.bios old mid new outcome k
cause-stays (Checks r) old mid new outcome k =
    check-stays (replaying_of r.log r.bios) old mid new outcome k
cause-stays (Lists log) old mid new outcome k =
    list-stays log (old.names log) old mid new (Rose (at old.faults LogIn) (at mid.faults LogIn))
    outcome k
cause-stays (Demonstrates n) old mid new outcome k = demo-stays n old mid new outcome k
cause-stays Help old mid new outcome k = print-stays HELP.now old mid new outcome k
cause-stays Version old mid new outcome k = print-stays VERSION.now old mid new outcome k
cause-stays (Bad n) old mid new outcome k = k
cause-stays Early old mid new outcome k = k

no-memory : (r : Reading) (old new : Ledger) → Cause r old new NoMemory
no-memory (Bad n) old new = inr refl
no-memory Early old new = inr refl
no-memory r old new = tt

told-cause : (r : Reading) (old mid new : Ledger) (outcome told : Outcome) → new ≡ said mid new
    → (told ≡ outcome) ⊎ (told ≡ NoMemory) → Cause r old mid outcome → Cause r old new told
told-cause r old mid new outcome told same (inl e) k =
    subst (λ (z : Outcome). Cause r old new z) (sym e)
    (subst (λ (z : Ledger). Cause r old z outcome) (sym same) (cause-stays r old mid new outcome k))
told-cause r old mid new outcome told same (inr e) k = subst (λ (z : Outcome). Cause r old new z)
    (sym e) (no-memory r old new)

-- ---- the faults that are named

kept-stays : (fault : Option Fault) (old mid new : Ledger) → KeptBut fault old mid
    → KeptBut fault old (said mid new)
kept-stays fault old mid new k = record {
  opening = k.opening;
  firmware = k.firmware;
  input = k.input;
  console = k.console;
  log = k.log;
  replayed_log = k.replayed_log;
}

counts-stay : (old mid new : Ledger) → CountsKept old mid → CountsKept old (said mid new)
counts-stay old mid new k = record {
  opening = k.opening;
  firmware = k.firmware;
  input = k.input;
  console = k.console;
  log = k.log;
  replayed_log = k.replayed_log;
}

named-stays : (outcome : Outcome) (old mid new : Ledger) → NamesFault outcome old mid
    → NamesFault outcome old (said mid new)
named-stays NoMemory old mid new k = tt
named-stays outcome old mid new k = kept-stays (fault_of outcome) old mid new k

but-log-stays : (fault : Option Fault) (old mid new : Ledger) → KeptButLog fault old mid
    → KeptButLog fault old (said mid new)
but-log-stays fault old mid new k = record {
  opening = k.opening;
  firmware = k.firmware;
  input = k.input;
  console = k.console;
  replayed_log = k.replayed_log;
}

first-stays : (outcome : Outcome) (old mid new : Ledger) → NamesFirstFault outcome old mid
    → NamesFirstFault outcome old (said mid new)
first-stays ConsoleUnreadable old mid new k = but-log-stays _ old mid new k
first-stays ConsoleFailed old mid new k = but-log-stays _ old mid new k
first-stays outcome old mid new k = named-stays outcome old mid new k

names-stay : (r : Reading) (outcome : Outcome) (old mid new : Ledger) → Names r outcome old mid
    → Names r outcome old (said mid new)
names-stay (Records words) outcome old mid new k = first-stays outcome old mid new k
names-stay other outcome old mid new k = named-stays outcome old mid new k

names-none : (r : Reading) (old new : Ledger) → Names r NoMemory old new
names-none (Records words) old new = tt
names-none other old new = tt

told-names : (r : Reading) (old mid new : Ledger) (outcome told : Outcome) → new ≡ said mid new
    → (told ≡ outcome) ⊎ (told ≡ NoMemory) → Names r outcome old mid → Names r told old new
told-names r old mid new outcome told same (inl e) k =
    subst (λ (z : Outcome). Names r z old new) (sym e)
    (subst (λ (z : Ledger). Names r outcome old z) (sym same) (names-stay r outcome old mid new k))
told-names r old mid new outcome told same (inr e) k =
    subst (λ (z : Outcome). Names r z old new) (sym e) (names-none r old new)

pub told-explained : (words : List (List ℕ)) (line r : Reading) (old mid new : Ledger)
    (outcome told : Outcome) (status : ℕ) → line ≡ r
    → mid ≡ only_run old mid → new ≡ said mid new → (told ≡ outcome) ⊎ (told ≡ NoMemory)
    → Cause line old mid outcome → Names line outcome old mid
    → (at mid.opened Messages < at new.opened Messages
    → TakesFront (Some []) (at new.last Messages) (line_of words line told))
    → ((told ≡ NoMemory → ⊥) → Stood (at mid.faults Messages) (at new.faults Messages)
    → Takes (Some []) (at new.last Messages) (line_of words line told))
    → status ≡ status_of told → Explained words r old new status
told-explained words line r old mid new outcome told status e run same which cause names front whole
    is =
    let opened : at mid.opened Messages ≡ at old.opened Messages = ap
    (λ (l : Ledger). at l.opened Messages) run in
    let faults : at mid.faults Messages ≡ at old.faults Messages = ap
    (λ (l : Ledger). at l.faults Messages) run in
    subst (λ (z : Reading). Explained words z old new status) e (record {
      outcome = told;
      is_status = is;
      cause = told-cause line old mid new outcome told same which cause;
      named = told-names line old mid new outcome told same which names;
      said = λ more. front (subst (λ (z : ℕ). z < at new.opened Messages) (sym opened) more);
      all_said = λ memory stood. whole (λ refused. memory (is ∙ ap status_of refused))
          (subst (λ (z : ℕ). Stood z (at new.faults Messages)) (sym faults) stood);
    })

pub told-log : (line r : Reading) (old mid new : Ledger) → line ≡ r → new ≡ said mid new
    → (at old.opened LogOut < at mid.opened LogOut
    → IfRecords line old (λ words file. IsLogged words file old mid))
    → at old.opened LogOut < at new.opened LogOut
    → IfRecords r old (λ words file. IsLogged words file old new)
told-log line r old mid new e same logged more =
    let opened : at new.opened LogOut ≡ at mid.opened LogOut = ap
    (λ (l : Ledger). at l.opened LogOut) same in
    let told = logged (subst (λ (z : ℕ). at old.opened LogOut < z) opened more) in
    subst (λ (z : Reading). IfRecords z old (λ words file. IsLogged words file old new)) e
    (subst (λ (z : Ledger). IfRecords line old (λ words file. IsLogged words file old z)) (sym same)
    (logs-stay line old mid new told))

-- ---- what standard output has

session-stays : (o held : Option (List ℕ)) (old mid new : Ledger)
    → IfBoth o held (λ log file. IsSessionShown log file old mid)
    → IfBoth o held (λ log file. IsSessionShown log file old (said mid new))
session-stays None held old mid new k = tt
session-stays (Some log) None old mid new k = tt
session-stays (Some log) (Some file) old mid new (inl bare) = inl bare
session-stays (Some log) (Some file) old mid new (inr k) = inr (record {
  script = k.script;
  refusal = k.refusal;
  part = k.part;
  read = k.read;
  began = k.began;
  front = k.front;
})

shows-stay : (r : Reading) (old mid new : Ledger) → Shows r old mid → Shows r old (said mid new)
shows-stay (Replays r) old mid new k =
    shown-stays (old.names r.log) (old.names r.bios) r mid new k
shows-stay (Debugs r) old mid new k =
    session-stays (old.names r.log) (old.names r.bios) old mid new k
shows-stay other old mid new k = k

pub told-shows : (line r : Reading) (old mid new : Ledger) → line ≡ r → new ≡ said mid new
    → (at old.opened ConsoleOut < at mid.opened ConsoleOut → Shows line old mid)
    → at old.opened ConsoleOut < at new.opened ConsoleOut → Shows r old new
told-shows line r old mid new e same shows more =
    let opened : at new.opened ConsoleOut ≡ at mid.opened ConsoleOut = ap
    (λ (l : Ledger). at l.opened ConsoleOut) same in
    let told = shows (subst (λ (z : ℕ). at old.opened ConsoleOut < z) opened more) in
    subst (λ (z : Reading). Shows z old new) e
    (subst (λ (z : Ledger). Shows line old z) (sym same) (shows-stay line old mid new told))

pub told-openings : (line r : Reading) (old mid new : Ledger) → line ≡ r
    → OpensFront old.openings mid.openings (openings_of line)
    → OpensFront mid.openings new.openings message_openings → OpensAsAsked r old new
told-openings line r old mid new e asked says =
    subst (λ (z : Reading). OpensAsAsked z old new) e
    (record { done = mid.openings; asked = asked; said = says })

pub told-untouched : (line r : Reading) (old mid new : Ledger) → line ≡ r → new ≡ said mid new
    → IfRecording line (at mid.opened LogOut ≡ at old.opened LogOut
    → at old.opened LogOut < 2 ^ 63 → Untouched old mid)
    → (words : Recording) → r ≡ Records words → at new.opened LogOut ≡ at old.opened LogOut
    → at old.opened LogOut < 2 ^ 63 → Untouched old new
told-untouched line r old mid new e same k words asks unopened few =
    let opened : at new.opened LogOut ≡ at mid.opened LogOut = ap
    (λ (l : Ledger). at l.opened LogOut) same in
    let quiet = subst (λ (z : Reading). IfRecording z (at mid.opened LogOut ≡ at old.opened LogOut
    → at old.opened LogOut < 2 ^ 63 → Untouched old mid)) (e ∙ asks) k in
    subst (λ (z : Ledger). Untouched old z) (sym same)
    (untouched-stays old mid new (quiet (sym opened ∙ unopened) few))
