-- A replay whose words and images are those of its log's header, where no count of faults rises: a
-- log that is accepted whole gives the status of its END, one with a first wrong event is refused,
-- and one that is longer than what is read and not wrong so far is too long.
use Rattle.std.proofs.Common.{◌≡◌, ◌<◌, ◌^◌, ◌≤◌, ◌⊎◌, inl, inr, ℕ, List, length, drop, refl, sym, ap, ◌∙◌, subst, arith}
use Rattle.std.specs.Prelude.{Some, None, Result, Ok, Err, IfSome, ⊤}
use Rattle.std.specs.declared.option.Option.{Option}
use Rattle.outside.specs.Causes.{Rose, Stood}
use Rattle.outside.specs.Ledger.{Ledger}
use Rattle.outside.specs.Roles.{at}
use Rattle.outside.specs.declared.roles.Role.TheVariants.{LogIn}
use Rattle.command_line.specs.Words.{Replaying, Reading, Replays}
use Rattle.elf_load.specs.declared.error.LoadError.{LoadError}
use Rattle.elf_load.specs.declared.pieces.Loaded.{Loaded}
use Rattle.elf_load.specs.Load.{loaded}
use Rattle.event_log.specs.declared.header.Header.{Header}
use Rattle.event_log.specs.declared.parse.ParseError.TheVariants as parse
use Rattle.event_log.proofs.HeaderLaws.{one_headers}
use Rattle.board.specs.State.{State}
use Rattle.board.specs.declared.control.Ending.{Ending}
use Rattle.board.specs.Reset.{start_of}
use Rattle.log_order.specs.declared.refusal.Refusal.{Refusal}
use Rattle.log_order.specs.Order.{IsFirstWrong, IsWhole}
use Rattle.log_order.proofs.Verdicts.{one-whole, whole-right, one-wrong}
use Rattle.run_files.specs.declared.difference.Difference.{Difference}
use Rattle.run_files.specs.declared.difference.Difference.TheVariants as difference
use Rattle.commands.specs.declared.outcome.Outcome.{Outcome}
use Rattle.commands.specs.declared.outcome.Outcome.TheVariants.{GuestEnded, IdleForEver, BudgetReached, CannotOpen, CannotRead, ConsoleFailed, LogUnreadable, BadFirmware, RecordingStopped, HeaderRefused, LogRefused, ImagesDiffer, LogTooLong, NoMemory}
use Rattle.run_files.specs.Ledgers.{CountsStood}
use Rattle.commands.specs.Outcomes.{status_of}
use Rattle.run_files.specs.Images.{IsBadImage}
use Rattle.run_files.specs.Headers.{HasHeader, IsBadHeader}
use Rattle.commands.specs.Replays.{word_difference, Starts, IsDifferent, IsReplayed, IsRefusedLog, IsReplayedToLimit, IsTooLong, IsUndecided, IsWrongLog, IsReplayable, IsRefusable, read_of}
use Rattle.run_files.proofs.Headed.{one-header}
use Rattle.commands.proofs.LogLimits.{all-read}
use Rattle.commands.specs.Causes.{ReplayCause, IfBoth}
use Rattle.rrvm.specs.Causes.{Cause}
use Rattle.rrvm.specs.Answers.{Explained, ending_status}

-- ---- a log and a file have one header, one image and one verdict

pub no-bad-header : (log : List ℕ) (h : Header) (offset : ℕ) → HasHeader log h → IsBadHeader log offset
    → ⊥
no-bad-header log h offset has (inl short) =
    let same = one_headers log (Ok h) (Err (parse.Cut offset)) (has.is, has.stands) short in
    absurd cc
no-bad-header log h offset has (inr (long, stops)) =
    let same = one_headers log (Ok h) (Err (parse.Bad offset stops.0)) (has.is, has.stands)
    (long, stops.1) in
    absurd cc

abbrev loads_as : Loaded → Result Loaded LoadError
loads_as f = Ok f

loaded-same : (f g : Loaded) → loads_as f ≡ loads_as g → f ≡ g
loaded-same f g e = cc

pub same-start : (r : Replaying) (log file : List ℕ) (h k : Header) (f g : Loaded)
    → Starts r log file h f → Starts r log file k g → start_of h f ≡ start_of k g
same-start r log file h k f g a b =
    let header : h ≡ k = one-header log h k a.has b.has in
    let again : loaded file h.ram_mib ≡ Ok g =
    subst (λ (z : Header). loaded file z.ram_mib ≡ Ok g) (sym header) b.image.loads in
    let image : f ≡ g = loaded-same f g (sym a.image.loads ∙ again) in
    ap (λ (z : Header). start_of z f) header ∙ ap (λ (z : Loaded). start_of k z) image

abbrev pub ending : ℕ → ℕ → Ending
ending reason code = record { reason = reason; code = code }

pub some-ended : (x y : Ending) → Some x ≡ Some y → x ≡ y
some-ended x y e = cc

ended-as : (m n reason code : ℕ) → ending m n ≡ ending reason code
    → ending_status m n ≡ ending_status reason code
ended-as m n reason code e = ap (λ (z : Ending). ending_status z.reason z.code) e

ending-same : (a b : State) (m n reason code : ℕ) → a ≡ b
    → a.control.ended ≡ Some (ending m n) → b.control.ended ≡ Some (ending reason code)
    → ending_status m n ≡ ending_status reason code
ending-same a b m n reason code same e f =
    ended-as m n reason code (some-ended (ending m n) (ending reason code)
    (sym e ∙ ap (λ (z : State). z.control.ended) same ∙ f))

-- ---- a log has one verdict

-- a log that is accepted whole isn't wrong
pub whole-not-wrong : (log : List ℕ) (start whole mid last : State) (refusal : Refusal)
    → length log ≤ 2 ^ 40 → IsWhole (drop 98 log) start whole
    → IsWrongLog log start refusal mid last → ⊥
whole-not-wrong log start whole mid last refusal short w x =
    whole-right (drop 98 log) 98 start mid last whole refusal
    (subst (λ (z : List ℕ). IsFirstWrong (drop 98 z) 98 start refusal mid last) (all-read log short)
    x.first) w

-- a log that is too long and undecided isn't wrong
pub long-not-wrong : (log : List ℕ) (start there mid last : State) (refusal : Refusal)
    → 2 ^ 40 < length log → IsUndecided (drop 98 (read_of log)) start there
    → IsWrongLog log start refusal mid last → ⊥
long-not-wrong log start there mid last refusal long (inl whole) x =
    whole-right (drop 98 (read_of log)) 98 start mid last there refusal x.first whole
long-not-wrong log start there mid last refusal long (inr (cut, after, first, is)) x =
    let same : refusal ≡ cut =
    (one-wrong (drop 98 (read_of log)) 98 start mid last there after refusal cut x.first first).0 in
    omega (arith, long, x.own_end (ap (λ (z : Refusal). z.found) same ∙ is))

-- ---- what can't come to a replay that starts

pub rose-stood : (before now : ℕ) → Rose before now → Stood before now → ⊥
rose-stood before now rose stood = omega (arith, rose, stood)

pub no-bad-image : (r : Replaying) (log file : List ℕ) (h k : Header) (f : Loaded) (rule : LoadError)
    → Starts r log file h f → HasHeader log k → IsBadImage k file rule → ⊥
no-bad-image r log file h k f rule s has (inl (same, broken)) =
    let header : h ≡ k = one-header log h k s.has has in
    let again : loaded file h.ram_mib ≡ Err rule =
    subst (λ (z : Header). loaded file z.ram_mib ≡ Err rule) (sym header) broken in
    let loads = s.image.loads in
    absurd cc
no-bad-image r log file h k f rule s has (inr (is, above)) =
    omega (arith, above, s.image.fits)

not-different : (r : Replaying) (log file : List ℕ) (h : Header) (f : Loaded) (which : Difference)
    → Starts r log file h f → IsDifferent r h (Some file) which → ⊥
not-different r log file h f difference.Shift s k = let words = s.words in absurd cc
not-different r log file h f difference.Ram s k = let words = s.words in absurd cc
not-different r log file h f difference.Firmware s k = k.1.0 s.image.same
not-different r log file h f difference.DiskLength s k = k.1.1 s.disk.length
not-different r log file h f difference.Disk s k = k.1.2 s.disk.digest

pub no-difference : (r : Replaying) (log file : List ℕ) (held : Option (List ℕ)) (h k : Header)
    (f : Loaded) (which : Difference) → held ≡ Some file
    → Starts r log file h f → HasHeader log k → IsDifferent r k held which → ⊥
no-difference r log file held h k f which told s has d =
    let header : k ≡ h = one-header log k h has s.has in
    not-different r log file h f which s
    (subst (λ (z : Header). IsDifferent r z (Some file) which) header
    (subst (λ (z : Option (List ℕ)). IsDifferent r k z which) told d))

-- a log that is accepted whole from its images has no first wrong event
pub whole-refused : (r : Replaying) (log file : List ℕ) {h k : Header} {f g : Loaded}
    {last mid wrong : State} {refusal : Refusal}
    → Starts r log file h f → length log ≤ 2 ^ 40 → IsWhole (drop 98 log) (start_of h f) last
    → Starts r log file k g → IsWrongLog log (start_of k g) refusal mid wrong → ⊥
whole-refused r log file {h} {k} {f} {g} {last} {mid} {wrong} {refusal} s short whole t x =
    whole-not-wrong log (start_of k g) last mid wrong refusal short
    (subst (λ (z : State). IsWhole (drop 98 log) z last) (same-start r log file h k f g s t) whole)
    x

-- the same of one that is longer than what is read
pub long-refused : (r : Replaying) (log file : List ℕ) {h k : Header} {f g : Loaded}
    {there mid wrong : State} {refusal : Refusal}
    → Starts r log file h f → 2 ^ 40 < length log
    → IsUndecided (drop 98 (read_of log)) (start_of h f) there
    → Starts r log file k g → IsWrongLog log (start_of k g) refusal mid wrong → ⊥
long-refused r log file {h} {k} {f} {g} {there} {mid} {wrong} {refusal} s long undecided t x =
    long-not-wrong log (start_of k g) there mid wrong refusal long
    (subst (λ (z : State). IsUndecided (drop 98 (read_of log)) z there)
    (same-start r log file h k f g s t) undecided) x

-- ---- what comes to a replay that starts

pub if-told : (o : Option (List ℕ)) (log : List ℕ) (P : List ℕ → Type 0) → o ≡ Some log → IfSome o P
    → P log
if-told o log P told k = subst (λ (z : Option (List ℕ)). IfSome z P) told k

pub both-told : (o held : Option (List ℕ)) (log file : List ℕ) (P : List ℕ → List ℕ → Type 0)
    → o ≡ Some log → held ≡ Some file → IfBoth o held P → P log file
both-told o held log file P told firmware k =
    subst (λ (z : Option (List ℕ)). IfBoth (Some log) z P) firmware
    (subst (λ (z : Option (List ℕ)). IfBoth z held P) told k)

-- the status of a log that is accepted whole, is refused, or is too long; or memory is refused
abbrev Comes : Replaying → List ℕ → List ℕ → Ledger → ℕ → Type 0
Comes r log file new status =
    ((reason : ℕ) × (code : ℕ) × IsReplayed r log file new reason code
    × (status ≡ ending_status reason code))
    ⊎ (((refusal : Refusal) × IsRefusedLog r log file new refusal × (status ≡ 20))
    ⊎ ((IsReplayedToLimit r log file new × (status ≡ 22)) ⊎ (status ≡ 30)))

ended-comes : (r : Replaying) (log file : List ℕ) (old new : Ledger) (reason code : ℕ)
    → old.names r.log ≡ Some log → old.names r.bios ≡ Some file
    → IfBoth (old.names r.log) (old.names r.bios) (λ xs ys. IsReplayed r xs ys new reason code)
    → Comes r log file new (ending_status reason code)
ended-comes r log file old new reason code told held k =
    let replayed = both-told (old.names r.log) (old.names r.bios) log file
    (λ xs ys. IsReplayed r xs ys new reason code) told held k in
    inl (reason, code, replayed, refl)

-- the outcomes of a log that isn't run to its end
abbrev pub IsEarly : Outcome → Type 0
IsEarly (CannotOpen role) = ⊤
IsEarly CannotRead = ⊤
IsEarly LogUnreadable = ⊤
IsEarly (BadFirmware rule) = ⊤
IsEarly (HeaderRefused offset) = ⊤
IsEarly (ImagesDiffer which) = ⊤
IsEarly other = ⊥

-- none of these comes where the images are those of the log's header and nothing fails
pub never-early : (r : Replaying) (log file : List ℕ) (h : Header) (f : Loaded) (old new : Ledger)
    (outcome : Outcome)
    → old.names r.log ≡ Some log → old.names r.bios ≡ Some file → Starts r log file h f
    → CountsStood old new → IsEarly outcome
    → ReplayCause r (old.names r.log) old new
    (Rose (at old.faults LogIn) (at new.faults LogIn)) outcome → ⊥
never-early r log file h f old new (CannotOpen role) told held s stood early k =
    rose-stood _ _ k.counted stood.opening
never-early r log file h f old new CannotRead told held s stood early k =
    rose-stood _ _ k stood.firmware
never-early r log file h f old new LogUnreadable told held s stood early k =
    rose-stood _ _ k stood.replayed_log
never-early r log file h f old new (BadFirmware rule) told held s stood early k =
    let bad = both-told (old.names r.log) (old.names r.bios) log file
    (λ xs ys. (z : Header) × HasHeader xs z × (word_difference r z ≡ None) × IsBadImage z ys rule)
    told held k in
    no-bad-image r log file h bad.0 f rule s bad.1 bad.3
never-early r log file h f old new (HeaderRefused offset) told held s stood early k =
    no-bad-header log h offset s.has
    (if-told (old.names r.log) log (λ xs. IsBadHeader xs offset) told k.0)
never-early r log file h f old new (ImagesDiffer which) told held s stood early k =
    let other = if-told (old.names r.log) log
    (λ xs. (z : Header) × HasHeader xs z × IsDifferent r z (old.names r.bios) which) told k in
    no-difference r log file (old.names r.bios) h other.0 f which held s other.1 other.2
never-early r log file h f old new outcome told held s stood early k = absurd early

comes : (r : Replaying) (log file : List ℕ) (h : Header) (f : Loaded) (old new : Ledger)
    (outcome : Outcome)
    → old.names r.log ≡ Some log → old.names r.bios ≡ Some file → Starts r log file h f
    → CountsStood old new
    → ReplayCause r (old.names r.log) old new
    (Rose (at old.faults LogIn) (at new.faults LogIn)) outcome
    → Comes r log file new (status_of outcome)
comes r log file h f old new (GuestEnded code) told held s stood k =
    ended-comes r log file old new 0 code told held k
comes r log file h f old new IdleForEver told held s stood k =
    ended-comes r log file old new 1 0 told held k
comes r log file h f old new BudgetReached told held s stood k =
    ended-comes r log file old new 2 0 told held k
comes r log file h f old new RecordingStopped told held s stood k =
    ended-comes r log file old new 3 0 told held k
comes r log file h f old new (LogRefused refusal) told held s stood k =
    let refused = both-told (old.names r.log) (old.names r.bios) log file
    (λ xs ys. IsRefusedLog r xs ys new refusal) told held k in
    inr (inl (refusal, refused, refl))
comes r log file h f old new LogTooLong told held s stood k =
    let long = both-told (old.names r.log) (old.names r.bios) log file
    (λ xs ys. IsReplayedToLimit r xs ys new) told held k in
    inr (inr (inl (long, refl)))
comes r log file h f old new ConsoleFailed told held s stood k =
    absurd (rose-stood _ _ k.0 stood.console)
comes r log file h f old new NoMemory told held s stood k = inr (inr (inr refl))
comes r log file h f old new (CannotOpen role) told held s stood k =
    absurd (never-early r log file h f old new (CannotOpen role) told held s stood tt k)
comes r log file h f old new CannotRead told held s stood k =
    absurd (never-early r log file h f old new CannotRead told held s stood tt k)
comes r log file h f old new LogUnreadable told held s stood k =
    absurd (never-early r log file h f old new LogUnreadable told held s stood tt k)
comes r log file h f old new (BadFirmware rule) told held s stood k =
    absurd (never-early r log file h f old new (BadFirmware rule) told held s stood tt k)
comes r log file h f old new (HeaderRefused offset) told held s stood k =
    absurd (never-early r log file h f old new (HeaderRefused offset) told held s stood tt k)
comes r log file h f old new (ImagesDiffer which) told held s stood k =
    absurd (never-early r log file h f old new (ImagesDiffer which) told held s stood tt k)
comes r log file h f old new outcome told held s stood k = absurd k

explained-comes : {words : List (List ℕ)} {line : Reading} {old new : Ledger} {status : ℕ}
    → Explained words line old new status
    → (r : Replaying) (log file : List ℕ) (h : Header) (f : Loaded) → line ≡ Replays r
    → old.names r.log ≡ Some log → old.names r.bios ≡ Some file → Starts r log file h f
    → CountsStood old new → Comes r log file new status
explained-comes {old = old} {new = new} x r log file h f asks told held s stood =
    let cause = subst (λ (z : Reading). Cause z old new x.outcome) asks x.cause in
    subst (λ (z : ℕ). Comes r log file new z) (sym x.is_status)
    (comes r log file h f old new x.outcome told held s stood cause)

-- ---- the two statuses

replays-comes : (r : Replaying) (log file : List ℕ) (new : Ledger) (reason code status : ℕ)
    → IsReplayable r log file reason code → Comes r log file new status
    → (status ≡ ending_status reason code) ⊎ (status ≡ 30)
replays-comes r log file new reason code status x (inl (m, n, k, e)) =
    let start = same-start r log file k.header x.header k.firmware x.firmware k.starts x.starts in
    let whole : IsWhole (drop 98 log) (start_of x.header x.firmware) k.last =
    subst (λ (z : State). IsWhole (drop 98 log) z k.last) start k.whole in
    let last = one-whole (drop 98 log) (start_of x.header x.firmware) k.last x.last whole x.whole in
    inl (e ∙ ending-same k.last x.last m n reason code last k.ended x.ended)
replays-comes r log file new reason code status x (inr (inl (refusal, k, e))) =
    absurd (whole-refused r log file x.starts x.short x.whole k.starts k.wrong)
replays-comes r log file new reason code status x (inr (inr (inl (k, e)))) =
    absurd (omega (arith, k.long, x.short))
replays-comes r log file new reason code status x (inr (inr (inr e))) = inr e

refuses-comes : (r : Replaying) (log file : List ℕ) (new : Ledger) (status : ℕ)
    → IsRefusable r log file → Comes r log file new status → (status ≡ 20) ⊎ (status ≡ 30)
refuses-comes r log file new status x (inl (m, n, k, e)) =
    absurd (whole-refused r log file k.starts k.short k.whole x.starts x.wrong)
refuses-comes r log file new status x (inr (inl (refusal, k, e))) = inl e
refuses-comes r log file new status x (inr (inr (inl (k, e)))) =
    absurd (long-refused r log file k.starts k.long k.undecided x.starts x.wrong)
refuses-comes r log file new status x (inr (inr (inr e))) = inr e

long-comes : (r : Replaying) (log file : List ℕ) (new : Ledger) (status : ℕ)
    → IsTooLong r log file → Comes r log file new status → (status ≡ 22) ⊎ (status ≡ 30)
long-comes r log file new status x (inl (m, n, k, e)) = absurd (omega (arith, x.long, k.short))
long-comes r log file new status x (inr (inl (refusal, k, e))) =
    absurd (long-refused r log file x.starts x.long x.undecided k.starts k.wrong)
long-comes r log file new status x (inr (inr (inl (k, e)))) = inl e
long-comes r log file new status x (inr (inr (inr e))) = inr e

pub replays-told : {words : List (List ℕ)} {line : Reading} {old new : Ledger} {status : ℕ}
    → Explained words line old new status
    → (r : Replaying) (log file : List ℕ) (reason code : ℕ) → line ≡ Replays r
    → old.names r.log ≡ Some log → old.names r.bios ≡ Some file
    → IsReplayable r log file reason code → CountsStood old new
    → (status ≡ ending_status reason code) ⊎ (status ≡ 30)
replays-told {new = new} {status = status} e r log file reason code asks told held x stood =
    replays-comes r log file new reason code status x
    (explained-comes e r log file x.header x.firmware asks told held x.starts stood)

pub refuses-told : {words : List (List ℕ)} {line : Reading} {old new : Ledger} {status : ℕ}
    → Explained words line old new status
    → (r : Replaying) (log file : List ℕ) → line ≡ Replays r
    → old.names r.log ≡ Some log → old.names r.bios ≡ Some file
    → IsRefusable r log file → CountsStood old new
    → (status ≡ 20) ⊎ (status ≡ 30)
refuses-told {new = new} {status = status} e r log file asks told held x stood =
    refuses-comes r log file new status x
    (explained-comes e r log file x.header x.firmware asks told held x.starts stood)

pub long-told : {words : List (List ℕ)} {line : Reading} {old new : Ledger} {status : ℕ}
    → Explained words line old new status
    → (r : Replaying) (log file : List ℕ) → line ≡ Replays r
    → old.names r.log ≡ Some log → old.names r.bios ≡ Some file
    → IsTooLong r log file → CountsStood old new
    → (status ≡ 22) ⊎ (status ≡ 30)
long-told {new = new} {status = status} e r log file asks told held x stood =
    long-comes r log file new status x
    (explained-comes e r log file x.header x.firmware asks told held x.starts stood)
