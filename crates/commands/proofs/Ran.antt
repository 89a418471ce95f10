-- What a run over a world comes to, by how its recording ended.
use Rattle.std.proofs.Common.{◌≡◌, ◌≤◌, ℕ, Bool, true, false, refl, List, [], ◌∷◌, length, sym, ap, ◌∙◌, subst, arith}
use Rattle.std.specs.Prelude.{Some, None, IfSome, ◌==◌, if◌then◌else◌}
use Rattle.std.specs.declared.option.Option.{Option}
use Rattle.std.proofs.lemmas.Bool.{eqb-true, eqb-false}
use Rattle.outside.specs.Causes.{Rose, Stood}
use Rattle.outside.specs.Ledger.{Ledger}
use Rattle.outside.specs.Roles.{at}
use Rattle.outside.specs.declared.openings.Opening.{Opening}
use Rattle.outside.specs.declared.openings.Opening.TheVariants.{Sink}
use Rattle.outside.specs.declared.roles.Role.TheVariants.{ConsoleIn, ConsoleOut, LogOut, Firmware as FirmwareRole}
use Rattle.command_line.specs.Words.{Recording}
use Rattle.elf_load.specs.declared.pieces.Loaded.{Loaded}
use Rattle.event_log.specs.declared.header.Header.{Header}
use Rattle.event_log.specs.HeaderFormat.{header_text}
use Rattle.board.specs.Reset.{reset, start_of}
use Rattle.rr_engine.specs.Input.{Extent, Entire, Part}
use Rattle.rr_engine.specs.Runs.{Whole, Front, ToStop, IsOwnReason, IsLogOf}
use Rattle.run_files.specs.declared.firmware.Firmware.{Firmware}
use Rattle.run_files.specs.declared.firmware.TheConstants.{FIRMWARE_LIMIT}
use Rattle.commands.specs.declared.devices.RecordingEnd.{RecordingEnd}
use Rattle.commands.specs.declared.devices.RecordingEnd.TheVariants as ends
use Rattle.commands.specs.declared.outcome.Outcome.{Outcome}
use Rattle.commands.specs.declared.outcome.Outcome.TheVariants as outcome
use Rattle.run_files.specs.Ledgers.{only_opening}
use Rattle.run_files.specs.Files.{FailsToOpen, CountsSame}
use Rattle.run_files.specs.Firmwares.{IsFirmwareOf}
use Rattle.commands.specs.Recordings.{returned, HasWhole, HasFront, HasStop, IsRecorded, IsRecordedToStop, IsLogged, IsGood}
use Rattle.run_files.specs.Headers.{header_of}
use Rattle.commands.specs.Endings.{IfEnds, IfStops}
use Rattle.commands.specs.Asking.{recording_header, ending_outcome_of}
use Rattle.commands.specs.Causes.{RecordCause, LogsStop}
use Rattle.commands.proofs.Logs.{told, is_log}

-- a file that was held gave this firmware
abbrev pub Gives : Option (List ℕ) → ℕ → Firmware → Type 0
Gives held mib f = IfSome held (λ file. IsFirmwareOf file mib f × (length file ≤ FIRMWARE_LIMIT))

pub start-quiet : (h : Header) (firmware : Loaded) → (start_of h firmware).devices.uart.out ≡ []
unfolding reset
start-quiet h firmware = refl

asked-header : (r : Recording) (file : List ℕ) (f : Firmware) (h : Header)
    → h ≡ recording_header r f.digest
    → IsFirmwareOf file r.ram_mib f → h ≡ header_of r file
asked-header r file f h same is = same ∙ ap (λ digest. recording_header r digest) is.digest

logged-as : (start : Loaded) (r : Recording) (file : List ℕ) (old new : Ledger)
    → HasFront (header_of r file) start old new
    → IfSome (at new.last LogOut) (λ bytes.
    IsLogOf (start_of (header_of r file) start) (header_text (header_of r file)) bytes
    (at new.last ConsoleOut) old.input new.clock)
logged-as firmware r file old new front =
    is_log (start_of (header_of r file) firmware) (header_text (header_of r file))
    (at new.last LogOut) (at new.last ConsoleOut) old.input (at new.left ConsoleIn) new.clock
    (start-quiet (header_of r file) firmware) front

-- the ledger once the firmware's file was read
abbrev pub IsRead : Ledger → Ledger → Type 0
IsRead old mid = mid ≡ only_opening FirmwareRole old mid

-- what standard input holds is the same
front-of : (h : Header) (f : Loaded) (old mid new : Ledger) → IsRead old mid
    → HasFront h f mid new → HasFront h f old new
front-of h f old mid new read front =
    subst (λ (o : Option (List ℕ)). Front (start_of h f) (header_text h)
    (told (Some []) (Some []) o (Some [])) (returned new)) (ap (λ (l : Ledger). l.input) read) front

whole-of : (h : Header) (f : Loaded) (old mid new : Ledger) (reason code : ℕ) → IsRead old mid
    → HasWhole h f mid new reason code → HasWhole h f old new reason code
whole-of h f old mid new reason code read whole =
    subst (λ (o : Option (List ℕ)). Whole (start_of h f) (header_text h)
    (told (Some []) (Some []) o (Some [])) (returned new) reason code)
    (ap (λ (l : Ledger). l.input) read) whole

stop-of : (shown : Extent) (h : Header) (f : Loaded) (old mid new : Ledger) → IsRead old mid
    → HasStop shown h f mid new → HasStop shown h f old new
stop-of shown h f old mid new read stop =
    subst (λ (o : Option (List ℕ)). ToStop shown (start_of h f) (header_text h)
    (told (Some []) (Some []) o (Some [])) (returned new)) (ap (λ (l : Ledger). l.input) read) stop

front-same : (r : Recording) (file : List ℕ) (f : Firmware) (h : Header) (old mid new : Ledger)
    → IsFirmwareOf file r.ram_mib f → h ≡ recording_header r f.digest → IsRead old mid
    → HasFront h f.loaded mid new → HasFront (header_of r file) f.loaded old new
front-same r file f h old mid new gives same read front =
    subst (λ (z : Header). HasFront z f.loaded old new) (asked-header r file f h same gives)
    (front-of h f.loaded old mid new read front)

pub run-logged : (held : Option (List ℕ)) (r : Recording) (f : Firmware) (h : Header)
    (old mid new : Ledger) → Gives held r.ram_mib f
    → h ≡ recording_header r f.digest → IsRead old mid → HasFront h f.loaded mid new
    → IfSome held (λ file. IsLogged r file old new)
run-logged None r f h old mid new gives same read front = tt
run-logged (Some file) r f h old mid new gives same read front = record {
  firmware = f.loaded;
  loads = gives.0.loads;
  front = front-same r file f h old mid new gives.0 same read front;
  log = logged-as f.loaded r file old new
      (front-same r file f h old mid new gives.0 same read front);
}

run-recorded : (held : Option (List ℕ)) (r : Recording) (f : Firmware) (h : Header)
    (old mid new : Ledger) (reason code : ℕ)
    → Gives held r.ram_mib f → h ≡ recording_header r f.digest → IsRead old mid
    → HasWhole h f.loaded mid new reason code
    → IfSome held (λ file. IsRecorded r file old new reason code)
run-recorded None r f h old mid new reason code gives same read whole = tt
run-recorded (Some file) r f h old mid new reason code gives same read whole = record {
  firmware = f.loaded;
  loads = gives.0.loads;
  fits = gives.1;
  whole = subst (λ (z : Header). HasWhole z f.loaded old new reason code)
      (asked-header r file f h same gives.0)
      (whole-of h f.loaded old mid new reason code read whole);
}

run-stopped : (held : Option (List ℕ)) (r : Recording) (f : Firmware) (h : Header) (shown : Extent)
    (old mid new : Ledger) → Gives held r.ram_mib f → h ≡ recording_header r f.digest
    → IsRead old mid → HasStop shown h f.loaded mid new
    → IfSome held (λ file. IsRecordedToStop r file shown old new)
run-stopped None r f h shown old mid new gives same read stop = tt
run-stopped (Some file) r f h shown old mid new gives same read stop = record {
  firmware = f.loaded;
  loads = gives.0.loads;
  fits = gives.1;
  stop = subst (λ (z : Header). HasStop shown z f.loaded old new)
      (asked-header r file f h same gives.0) (stop-of shown h f.loaded old mid new read stop);
}

-- the log's count before the firmware's file was read was the same
logs-stop : (r : Recording) (old mid new : Ledger) (f : Firmware) (h : Header) (shown : Extent)
    → Gives (old.names r.bios) r.ram_mib f → h ≡ recording_header r f.digest → IsRead old mid
    → (Stood (at mid.faults LogOut) (at new.faults LogOut) → HasStop shown h f.loaded mid new)
    → LogsStop r shown old new
logs-stop r old mid new f h shown gives same read stop = λ stood.
    run-stopped (old.names r.bios) r f h shown old mid new gives same read
    (stop (subst (λ (z : ℕ). Stood z (at new.faults LogOut))
    (sym (ap (λ (l : Ledger). at l.faults LogOut) read)) stood))

run-good : (held : Option (List ℕ)) (r : Recording) (f : Firmware) → Gives held r.ram_mib f
    → IfSome held (λ file. IsGood r file)
run-good None r f gives = tt
run-good (Some file) r f gives = record
    { firmware = f.loaded; loads = gives.0.loads; fits = gives.1 }

by-reason : (r : Recording) (old new : Ledger) (reason code : ℕ) (a b : Bool) → (reason == 0) ≡ a
    → (reason == 1) ≡ b
    → IsOwnReason reason code → IfSome (old.names r.bios)
    (λ file. IsRecorded r file old new reason code)
    → RecordCause r old new (if a then outcome.GuestEnded code else if b then
    outcome.IdleForEver else outcome.BudgetReached)
by-reason r old new reason code true b e f own k =
    subst (λ (z : ℕ). IfSome (old.names r.bios) (λ file. IsRecorded r file old new z code))
    (eqb-true reason 0 e) k
by-reason r old new reason code false true e f own k =
    let one = eqb-true reason 1 f in
    let none = own.1 (omega (arith, one)) in
    subst (λ (z : ℕ). IfSome (old.names r.bios) (λ file. IsRecorded r file old new z 0)) one
    (subst (λ (z : ℕ). IfSome (old.names r.bios) (λ file. IsRecorded r file old new reason z))
    none k)
by-reason r old new reason code false false e f own k =
    let not_zero = eqb-false reason 0 e in
    let not_one = eqb-false reason 1 f in
    let two : reason ≡ 2 = omega (arith, not_zero, not_one, own.0) in
    let none = own.1 (omega (arith, two)) in
    subst (λ (z : ℕ). IfSome (old.names r.bios) (λ file. IsRecorded r file old new z 0)) two
    (subst (λ (z : ℕ). IfSome (old.names r.bios) (λ file. IsRecorded r file old new reason z))
    none k)

fails-since : (log : List ℕ) (old mid new : Ledger) → CountsSame FirmwareRole old mid
    → FailsToOpen (Sink LogOut (Some log)) mid new → FailsToOpen (Sink LogOut (Some log)) old new
fails-since log old mid new same fails = record {
  counted = subst (λ (z : ℕ). Rose z new.opening_faults) same.opening fails.counted;
  which = fails.which ∙ ap (λ (z : List Opening). Sink LogOut (Some log) ∷ z) same.refused;
}

ending-cause : (r : Recording) (old mid new : Ledger) (f : Firmware) (h : Header)
    (end : RecordingEnd) → Gives (old.names r.bios) r.ram_mib f
    → h ≡ recording_header r f.digest
    → IfEnds end (λ reason code. HasWhole h f.loaded mid new reason code)
    → (Stood (at mid.faults LogOut) (at new.faults LogOut)
    → IfStops end (λ shown. HasStop shown h f.loaded mid new))
    → (end ≡ ends.CannotOpenLog → FailsToOpen (Sink LogOut (Some r.log)) mid new)
    → (end ≡ ends.ConsoleUnreadable → Rose (at mid.faults ConsoleIn) (at new.faults ConsoleIn))
    → (end ≡ ends.ConsoleFailed → Rose (at mid.faults ConsoleOut) (at new.faults ConsoleOut))
    → (end ≡ ends.LogFailed → Rose (at mid.faults LogOut) (at new.faults LogOut))
    → CountsSame FirmwareRole old mid → IsRead old mid
    → RecordCause r old new (ending_outcome_of end)
ending-cause r old mid new f h (ends.End reason code) gives same whole stop a i b c p read =
    by-reason r old new reason code (reason == 0) (reason == 1) refl refl whole.1
    (run-recorded (old.names r.bios) r f h old mid new reason code gives same read whole.0)
ending-cause r old mid new f h ends.CannotOpenLog gives same whole stop a i b c p read =
    fails-since r.log old mid new p (a refl)
ending-cause r old mid new f h ends.ConsoleUnreadable gives same whole stop a i b c p read = (
  subst (λ (z : ℕ). Rose z (at new.faults ConsoleIn))
      (ap (λ (l : Ledger). at l.faults ConsoleIn) read) (i refl),
  run-good (old.names r.bios) r f gives,
  logs-stop r old mid new f h Entire gives same read stop,
)
ending-cause r old mid new f h ends.ConsoleFailed gives same whole stop a i b c p read = (
  subst (λ (z : ℕ). Rose z (at new.faults ConsoleOut))
      (ap (λ (l : Ledger). at l.faults ConsoleOut) read) (b refl),
  run-good (old.names r.bios) r f gives,
  logs-stop r old mid new f h Part gives same read stop,
)
ending-cause r old mid new f h ends.LogFailed gives same whole stop a i b c p read = (
  subst (λ (z : ℕ). Rose z (at new.faults LogOut))
      (ap (λ (l : Ledger). at l.faults LogOut) read) (c refl),
  run-good (old.names r.bios) r f gives,
)
ending-cause r old mid new f h ends.NoMemory gives same whole stop a i b c p read = tt

pub run-cause : (r : Recording) (old mid new : Ledger) (f : Firmware) (h : Header)
    (end : RecordingEnd) (result : Outcome)
    → result ≡ ending_outcome_of end → Gives (old.names r.bios) r.ram_mib f
    → h ≡ recording_header r f.digest
    → IfEnds end (λ reason code. HasWhole h f.loaded mid new reason code)
    → (Stood (at mid.faults LogOut) (at new.faults LogOut)
    → IfStops end (λ shown. HasStop shown h f.loaded mid new))
    → (end ≡ ends.CannotOpenLog → FailsToOpen (Sink LogOut (Some r.log)) mid new)
    → (end ≡ ends.ConsoleUnreadable → Rose (at mid.faults ConsoleIn) (at new.faults ConsoleIn))
    → (end ≡ ends.ConsoleFailed → Rose (at mid.faults ConsoleOut) (at new.faults ConsoleOut))
    → (end ≡ ends.LogFailed → Rose (at mid.faults LogOut) (at new.faults LogOut))
    → CountsSame FirmwareRole old mid → IsRead old mid
    → RecordCause r old new result
run-cause r old mid new f h end result is gives same whole stop a i b c p read =
    subst (λ (z : Outcome). RecordCause r old new z) (sym is)
    (ending-cause r old mid new f h end gives same whole stop a i b c p read)
