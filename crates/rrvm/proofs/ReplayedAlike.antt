-- A replay of a recorded log comes to the recording's end.
use Rattle.std.proofs.Common.{◌≡◌, ◌≤◌, ◌^◌, inl, inr, ℕ, Bool, true, List, [], ◌++◌, length, drop, refl, sym, ap, ◌∙◌, subst, arith}
use Rattle.std.specs.Prelude.{Some, ◌||◌, ◌==◌}
use Rattle.sha2.proofs.Facts256.{length-sha256}
use Rattle.outside.specs.Ledger.{Ledger}
use Rattle.outside.specs.Roles.{at}
use Rattle.outside.specs.Told.{Takes}
use Rattle.outside.specs.declared.roles.Role.TheVariants.{ConsoleOut, LogOut}
use Rattle.command_line.specs.Words.{Recording, Replaying, Reading, Records, IsInRange, IsLineInRange}
use Rattle.event_log.specs.HeaderFormat.{IsHeader, header_text}
use Rattle.event_log.specs.Spelling.{texts}
use Rattle.board.specs.State.{State}
use Rattle.log_order.specs.declared.refusal.Refusal.{Refusal}
use Rattle.log_order.specs.Order.{IsWhole}
use Rattle.log_order.proofs.Recorded.{recorded-whole}
use Rattle.log_order.proofs.Verdicts.{one-whole}
use Rattle.board.specs.Reset.{start_of}
use Rattle.commands.specs.declared.outcome.Outcome.{Outcome}
use Rattle.commands.specs.declared.outcome.Outcome.TheVariants.{Printed, GuestEnded, IdleForEver, BudgetReached, BadWord, WordsMissing, CannotOpen, CannotRead, ConsoleUnreadable, ConsoleFailed, LogFailed, LogUnreadable, BadFirmware, RecordingStopped, HeaderRefused, LogRefused, ImagesDiffer, LogTooLong, QuietFailed, CommandsUnreadable, TooMuchInput, NoMemory}
use Rattle.commands.specs.Outcomes.{status_of}
use Rattle.run_files.specs.Headers.{header_of}
use Rattle.commands.specs.Recordings.{IsRecorded}
use Rattle.commands.specs.Replays.{Starts, IsReplayed, IsReplayable, IsRefusedLog}
use Rattle.rrvm.specs.ReplayedAlike.{Agrees, TookAlike, IsReplayedAlike}
use Rattle.commands.specs.Causes.{RecordCause, IsEnded}
use Rattle.rrvm.specs.Causes.{Cause}
use Rattle.rrvm.specs.Answers.{Explained, HasRun, ending_status}
use Rattle.run_files.proofs.Headed.{behind-text, begins}
use Rattle.rrvm.proofs.Completing.{same-start, whole-not-wrong, ending, some-ended, if-told}

header-ranged : (r : Recording) (file : List ℕ) → IsInRange r → IsHeader (header_of r file)
header-ranged r file is = record {
  shift = is.shift;
  ram_mib = is.ram_mib;
  slice = is.slice;
  budget = is.budget;
  firmware = length-sha256 file;
  disk_len = omega arith;
  disk = length-sha256 [];
}

module _ (r : Recording) (log file : List ℕ) (old new : Ledger) (reason code : ℕ)
    (ranged : IsInRange r) (x : IsRecorded r file old new reason code)
    (taken : at new.last LogOut ≡ Some log) (short : length log ≤ 2 ^ 40) where
  abbrev start : State
  start = start_of (header_of r file) x.firmware

  text : log ≡ header_text (header_of r file) ++ texts x.whole.events
  text =
      subst (λ z. Takes (Some []) z (header_text (header_of r file) ++ texts x.whole.events)) taken
      x.whole.log

  starts : (p : Replaying) → Agrees r file p → Starts p log file (header_of r file) x.firmware
  starts p agrees = record {
    has = begins (header_of r file) log (texts x.whole.events) (header-ranged r file ranged) text;
    words = agrees;
    image = record { same = refl; fits = x.fits; loads = x.loads };
    disk = record { length = refl; digest = refl };
  }

  whole : IsWhole (drop 98 log) start x.whole.last
  whole =
      subst (λ (z : List ℕ). IsWhole z start x.whole.last)
      (sym (behind-text (header_of r file) log (texts x.whole.events)
      (header-ranged r file ranged) text))
      (recorded-whole x.whole.events start x.whole.last x.whole.are x.whole.runs (rw x.whole.ended refl))

  accepted : (p : Replaying) → Agrees r file p → IsReplayable p log file reason code
  accepted p agrees = record {
    header = header_of r file;
    firmware = x.firmware;
    starts = starts p agrees;
    short = short;
    last = x.whole.last;
    whole = whole;
    ended = x.whole.ended;
  }

  alike : (p : Replaying) (l : Ledger) (m n : ℕ) → Agrees r file p → IsReplayed p log file l m n
      → (m ≡ reason) × (n ≡ code) × TookAlike new l
  alike p l m n agrees k =
      let same : start_of k.header k.firmware ≡ start =
      same-start p log file k.header (header_of r file) k.firmware x.firmware k.starts
      (starts p agrees) in
      let again : IsWhole (drop 98 log) start k.last =
      subst (λ (z : State). IsWhole (drop 98 log) z k.last) same k.whole in
      let last : k.last ≡ x.whole.last =
      one-whole (drop 98 log) start k.last x.whole.last again whole in
      let ends : ending m n ≡ ending reason code =
      some-ended (ending m n) (ending reason code)
      (sym k.ended ∙ ap (λ (z : State). z.control.ended) last ∙ x.whole.ended) in (
        ap (λ z. z.reason) ends,
        ap (λ z. z.code) ends,
        (
          x.whole.last.devices.uart.out,
          x.whole.console,
          subst (λ (z : State). Takes (Some []) (at l.last ConsoleOut) z.devices.uart.out) last
              k.console,
        ),
      )

  unrefused : (p : Replaying) (l : Ledger) (refusal : Refusal) → Agrees r file p
      → IsRefusedLog p log file l refusal → ⊥
  unrefused p l refusal agrees k =
      let same : start ≡ start_of k.header k.firmware =
      same-start p log file (header_of r file) k.header x.firmware k.firmware (starts p agrees)
      k.starts in
      whole-not-wrong log (start_of k.header k.firmware) x.whole.last k.mid k.last refusal short
      (subst (λ (z : State). IsWhole (drop 98 log) z x.whole.last) same whole) k.wrong

  replayed-alike : IsReplayedAlike r log file new reason code
  replayed-alike = record { accepted = accepted; alike = alike; unrefused = unrefused }

-- ---- the statuses of a machine that ran to an end of its own

runs : ℕ → Bool
runs status = (status == 0) || ((status == 10) || ((status == 12) || (status == 13)))

runs-so : (status : ℕ) → HasRun status → runs status ≡ true
unfolding runs
runs-so status (inl e) = rw e refl
runs-so status (inr (inl e)) = rw e refl
runs-so status (inr (inr (inl e))) = rw e refl
runs-so status (inr (inr (inr e))) = rw e refl

-- a recording that ran to an end, by its reason and code
abbrev Ended : Recording → Ledger → Ledger → ℕ → Type 0
Ended r old new status = (reason : ℕ) × (code : ℕ)
    × (status ≡ ending_status reason code) × IsEnded (Records r) old new reason code

ended : (r : Recording) (old new : Ledger) (outcome : Outcome) → RecordCause r old new outcome
    → HasRun (status_of outcome) → Ended r old new (status_of outcome)
unfolding runs
ended r old new (GuestEnded code) k run = (0, code, refl, k)
ended r old new IdleForEver k run = (1, 0, refl, k)
ended r old new BudgetReached k run = (2, 0, refl, k)
ended r old new Printed k run = absurd k
ended r old new (BadWord number) k run = absurd k
ended r old new WordsMissing k run = absurd k
ended r old new (CannotOpen role) k run = let no = runs-so 2 run in absurd cc
ended r old new CannotRead k run = let no = runs-so 2 run in absurd cc
ended r old new ConsoleUnreadable k run = let no = runs-so 3 run in absurd cc
ended r old new ConsoleFailed k run = let no = runs-so 4 run in absurd cc
ended r old new LogFailed k run = let no = runs-so 5 run in absurd cc
ended r old new LogUnreadable k run = absurd k
ended r old new (BadFirmware rule) k run = let no = runs-so 8 run in absurd cc
ended r old new RecordingStopped k run = absurd k
ended r old new (HeaderRefused offset) k run = absurd k
ended r old new (LogRefused refusal) k run = absurd k
ended r old new (ImagesDiffer which) k run = absurd k
ended r old new LogTooLong k run = absurd k
ended r old new QuietFailed k run = absurd k
ended r old new CommandsUnreadable k run = absurd k
ended r old new TooMuchInput k run = absurd k
ended r old new NoMemory k run = let no = runs-so 30 run in absurd cc

pub replayable-told : {words : List (List ℕ)} {line : Reading} {old new : Ledger} {status : ℕ}
    → Explained words line old new status → IsLineInRange line → HasRun status
    → (r : Recording) (log file : List ℕ) → line ≡ Records r → old.names r.bios ≡ Some file
    → at new.last LogOut ≡ Some log → length log ≤ 2 ^ 40
    → (reason : ℕ) × (code : ℕ) × (status ≡ ending_status reason code)
    × IsReplayedAlike r log file new reason code
replayable-told {old = old} {new = new} e ranged run r log file asks held taken short =
    let cause : RecordCause r old new e.outcome =
    subst (λ (z : Reading). Cause z old new e.outcome) asks e.cause in
    let x = ended r old new e.outcome cause (subst HasRun e.is_status run) in
    let recorded : IsRecorded r file old new x.0 x.1 =
    if-told (old.names r.bios) file (λ bytes. IsRecorded r bytes old new x.0 x.1) held x.3 in (
      x.0,
      x.1,
      e.is_status ∙ x.2,
      replayed-alike r log file old new x.0 x.1 (subst IsLineInRange asks ranged) recorded taken
          short,
    )
