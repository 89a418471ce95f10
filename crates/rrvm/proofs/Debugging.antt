-- A debugging session whose images are those of its log's header, where no count of faults rises and
-- standard input has no more than a session reads: over a log that is accepted whole it gives status
-- 0, and over one with a first wrong event status 20.
use Rattle.std.proofs.Common.{◌≡◌, ◌<◌, ◌≤◌, ◌^◌, ◌+◌, ◌⊎◌, inl, inr, ℕ, List, length, drop, refl, sym, ap, subst, arith, length-append}
use Rattle.std.specs.Prelude.{Some, None}
use Rattle.std.specs.declared.option.Option.{Option}
use Rattle.std.specs.Io.KnownBytes.{Consumes}
use Rattle.outside.specs.Ledger.{Ledger}
use Rattle.outside.specs.Roles.{at}
use Rattle.outside.specs.declared.roles.Role.TheVariants.{ConsoleIn, LogIn, Firmware}
use Rattle.command_line.specs.Words.{Run, Reading, Debugs}
use Rattle.elf_load.specs.declared.pieces.Loaded.{Loaded}
use Rattle.event_log.specs.declared.header.Header.{Header}
use Rattle.board.specs.State.{State}
use Rattle.board.specs.Reset.{start_of}
use Rattle.log_order.specs.declared.refusal.Refusal.{Refusal}
use Rattle.log_order.specs.Order.{IsWhole}
use Rattle.log_order.proofs.Verdicts.{whole-right}
use Rattle.reverse_seek.specs.Script.{Script}
use Rattle.monitor.specs.Serving.{most}
use Rattle.run_files.specs.declared.difference.Difference.{Difference}
use Rattle.run_files.specs.declared.difference.Difference.TheVariants as difference
use Rattle.run_files.specs.declared.images.ImageFault.TheVariants as image
use Rattle.run_files.specs.Headers.{HasHeader, IsBadHeader}
use Rattle.run_files.specs.Images.{IsImageFault}
use Rattle.commands.specs.Asking.{replaying_of}
use Rattle.commands.specs.Outcomes.{status_of}
use Rattle.commands.specs.Replays.{Starts, IsDifferent, IsReplayable, IsRefusable}
use Rattle.commands.specs.declared.outcome.Outcome.{Outcome}
use Rattle.commands.specs.declared.outcome.Outcome.TheVariants.{Printed, CannotOpen, CannotRead, LogUnreadable, BadFirmware, HeaderRefused, LogRefused, ImagesDiffer, LogTooLong, QuietFailed, CommandsUnreadable, TooMuchInput, NoMemory}
use Rattle.debug_command.specs.declared.debugging.TheConstants.{LOG_LIMIT}
use Rattle.debug_command.specs.Causes.{DebugCause}
use Rattle.debug_command.specs.Debugs.{IsAcceptedPart, IsHeld}
use Rattle.rrvm.specs.Answers.{Explained, DebugsFreely}
use Rattle.rrvm.specs.Causes.{Cause}
use Rattle.rrvm.proofs.Completing.{if-told, both-told, rose-stood, no-bad-header, no-bad-image, no-difference, same-start, whole-refused}
use Rattle.monitor.specs.declared.sessions.SessionEnd.TheVariants as session_end

-- the status of a session over a log that is accepted whole, or is refused; or memory is refused
abbrev Held : List ℕ → List ℕ → ℕ → Type 0
Held log file status =
    (((s : Script) × IsAcceptedPart log file s None) × (status ≡ 0))
    ⊎ (((s : Script) × (r : Refusal) × IsAcceptedPart log file s (Some r) × (status ≡ 20))
    ⊎ (status ≡ 30))

-- more was read than there was
no-more : (input read : List ℕ) (left : Option (List ℕ)) → Consumes (Some input) left read
    → length input ≤ most → length read ≡ most + 1 → ⊥
no-more input read None came few long = absurd came
no-more input read (Some rest) came few long =
    omega (arith, ap length came, length-append read rest, few, long)

-- the file isn't another image
no-other : (r : Run) (log file : List ℕ) (h k : Header) (f : Loaded) (which : Difference)
    → Starts (replaying_of r.log r.bios) log file h f → HasHeader log k
    → IsDifferent (replaying_of r.log r.bios) k (Some file) which → ⊥
no-other r log file h k f which s has d =
    no-difference (replaying_of r.log r.bios) log file (Some file) h k f which refl s has d

comes : (r : Run) (log file input : List ℕ) (h : Header) (f : Loaded) (old new : Ledger)
    (outcome : Outcome)
    → DebugsFreely r log file input old new → Starts (replaying_of r.log r.bios) log file h f
    → DebugCause r.log r.bios old new outcome → Held log file (status_of outcome)
comes r log file input h f old new Printed x s k =
    let held = both-told (old.names r.log) (old.names r.bios) log file
    (λ xs ys. IsHeld xs ys None session_end.Done old new) x.told x.held k in
    inl ((held.script, held.part), refl)
comes r log file input h f old new (LogRefused refusal) x s k =
    let held = both-told (old.names r.log) (old.names r.bios) log file
    (λ xs ys. IsHeld xs ys (Some refusal) session_end.Done old new) x.told x.held k in
    inr (inl (held.script, refusal, held.part, refl))
comes r log file input h f old new (CannotOpen LogIn) x s k =
    absurd (rose-stood _ _ k.counted x.stood.opening)
comes r log file input h f old new (CannotOpen Firmware) x s k =
    absurd (rose-stood _ _ k.counted x.stood.opening)
comes r log file input h f old new LogUnreadable x s k =
    absurd (rose-stood _ _ k x.stood.replayed_log)
comes r log file input h f old new CannotRead x s k =
    absurd (rose-stood _ _ k x.stood.firmware)
comes r log file input h f old new LogTooLong x s k =
    let long = if-told (old.names r.log) log (λ xs. LOG_LIMIT < length xs) x.told k in
    absurd (omega (arith, long, x.short))
comes r log file input h f old new (HeaderRefused offset) x s k =
    let bad = if-told (old.names r.log) log
    (λ xs. (length xs ≤ LOG_LIMIT) × IsBadHeader xs offset) x.told k in
    absurd (no-bad-header log h offset s.has bad.1)
comes r log file input h f old new (BadFirmware rule) x s k =
    let bad = both-told (old.names r.log) (old.names r.bios) log file
    (λ xs ys. (length xs ≤ LOG_LIMIT) × ((z : Header) × HasHeader xs z
    × IsImageFault z ys (image.Bad rule))) x.told x.held k in
    absurd (no-bad-image (replaying_of r.log r.bios) log file h bad.1.0 f rule s bad.1.1 bad.1.2)
comes r log file input h f old new (ImagesDiffer difference.Firmware) x s k =
    let bad = both-told (old.names r.log) (old.names r.bios) log file
    (λ xs ys. (length xs ≤ LOG_LIMIT) × ((z : Header) × HasHeader xs z
    × IsImageFault z ys image.OtherFirmware)) x.told x.held k in
    absurd (no-other r log file h bad.1.0 f difference.Firmware s bad.1.1 (refl, bad.1.2))
comes r log file input h f old new (ImagesDiffer difference.DiskLength) x s k =
    let bad = both-told (old.names r.log) (old.names r.bios) log file
    (λ xs ys. (length xs ≤ LOG_LIMIT) × ((z : Header) × HasHeader xs z
    × IsImageFault z ys image.OtherDiskLength)) x.told x.held k in
    absurd (no-other r log file h bad.1.0 f difference.DiskLength s bad.1.1 (refl, bad.1.2))
comes r log file input h f old new (ImagesDiffer difference.Disk) x s k =
    let bad = both-told (old.names r.log) (old.names r.bios) log file
    (λ xs ys. (length xs ≤ LOG_LIMIT) × ((z : Header) × HasHeader xs z
    × IsImageFault z ys image.OtherDisk)) x.told x.held k in
    absurd (no-other r log file h bad.1.0 f difference.Disk s bad.1.1 (refl, bad.1.2))
comes r log file input h f old new CommandsUnreadable x s k =
    absurd (rose-stood _ _ k.0 x.stood.input)
comes r log file input h f old new QuietFailed x s k =
    absurd (rose-stood _ _ k.0 x.stood.console)
comes r log file input h f old new TooMuchInput x s k =
    let held = both-told (old.names r.log) (old.names r.bios) log file
    (λ xs ys. (refusal : Option Refusal) × IsHeld xs ys refusal session_end.TooMuchInput old new)
    x.told x.held k in
    let serves = held.1.serves in
    absurd (no-more input serves.read (at new.left ConsoleIn)
    (subst (λ (z : Option (List ℕ)). Consumes z (at new.left ConsoleIn) serves.read) x.heard
    serves.came)
    x.few serves.ends.0)
comes r log file input h f old new NoMemory x s k = inr (inr refl)
comes r log file input h f old new outcome x s k = absurd k

explained-comes : {words : List (List ℕ)} {line : Reading} {old new : Ledger} {status : ℕ}
    → Explained words line old new status
    → (r : Run) (log file input : List ℕ) (h : Header) (f : Loaded) → line ≡ Debugs r
    → DebugsFreely r log file input old new → Starts (replaying_of r.log r.bios) log file h f
    → Held log file status
explained-comes {old = old} {new = new} e r log file input h f asks x s =
    let cause = subst (λ (z : Reading). Cause z old new e.outcome) asks e.cause in
    subst (λ (z : ℕ). Held log file z) (sym e.is_status)
    (comes r log file input h f old new e.outcome x s cause)

-- the machine and the images that an accepted part starts from
part-starts : (r : Run) (log file : List ℕ) (s : Script) (refusal : Option Refusal)
    (p : IsAcceptedPart log file s refusal)
    → Starts (replaying_of r.log r.bios) log file p.header p.firmware
part-starts r log file s refusal p =
    record { has = p.has; words = refl; image = p.image; disk = p.disk }

accepts : (r : Run) (log file : List ℕ) (reason code status : ℕ)
    → IsReplayable (replaying_of r.log r.bios) log file reason code → Held log file status
    → (status ≡ 0) ⊎ (status ≡ 30)
accepts r log file reason code status x (inl (k, e)) = inl e
accepts r log file reason code status x (inr (inl (s, refusal, p, e))) =
    let start = same-start (replaying_of r.log r.bios) log file x.header p.header x.firmware
    p.firmware x.starts (part-starts r log file s (Some refusal) p) in
    let whole : IsWhole (drop 98 log) (start_of p.header p.firmware) x.last =
    subst (λ (z : State). IsWhole (drop 98 log) z x.last) start x.whole in
    let wrong = p.reads.verdict in
    absurd (whole-right (drop 98 log) 98 (start_of p.header p.firmware) wrong.0 wrong.1 x.last
    refusal wrong.2 whole)
accepts r log file reason code status x (inr (inr e)) = inr e

rejects : (r : Run) (log file : List ℕ) (status : ℕ) → length log ≤ 2 ^ 40
    → IsRefusable (replaying_of r.log r.bios) log file → Held log file status
    → (status ≡ 20) ⊎ (status ≡ 30)
rejects r log file status short x (inl ((s, p), e)) =
    absurd (whole-refused (replaying_of r.log r.bios) log file (part-starts r log file s None p)
    short p.reads.verdict.1 x.starts x.wrong)
rejects r log file status short x (inr (inl (s, refusal, p, e))) = inl e
rejects r log file status short x (inr (inr e)) = inr e

limit-read : LOG_LIMIT ≤ 2 ^ 40
limit-read = omega arith

pub holds-accepted : {words : List (List ℕ)} {line : Reading} {old new : Ledger} {status : ℕ}
    → Explained words line old new status
    → (r : Run) (log file input : List ℕ) (reason code : ℕ) → line ≡ Debugs r
    → DebugsFreely r log file input old new
    → IsReplayable (replaying_of r.log r.bios) log file reason code
    → (status ≡ 0) ⊎ (status ≡ 30)
holds-accepted {status = status} e r log file input reason code asks holds x =
    accepts r log file reason code status x
    (explained-comes e r log file input x.header x.firmware asks holds x.starts)

pub holds-refused : {words : List (List ℕ)} {line : Reading} {old new : Ledger} {status : ℕ}
    → Explained words line old new status
    → (r : Run) (log file input : List ℕ) → line ≡ Debugs r
    → DebugsFreely r log file input old new
    → IsRefusable (replaying_of r.log r.bios) log file
    → (status ≡ 20) ⊎ (status ≡ 30)
holds-refused {status = status} e r log file input asks holds x =
    rejects r log file status (omega (arith, holds.short, limit-read)) x
    (explained-comes e r log file input x.header x.firmware asks holds x.starts)
