-- What a replay over a world comes to: by its log's header, its images, and how it ended.
use Rattle.std.proofs.Common.{◌≡◌, ◌≤◌, ◌<◌, ◌+◌, ◌^◌, ℕ, Bool, true, false, List, [], ◌++◌, length, drop, refl, sym, ap, ◌∙◌, subst, inl, inr, arith, append-nil, length-append}
use Rattle.std.proofs.lemmas.Bool.{eqb-true, eqb-false}
use Rattle.std.proofs.lemmas.Option.{IfSome_then}
use Rattle.std.specs.Prelude.{Some, None, IfSome, IsSome, IsNone, ◌⊎◌, is_some, ◌==◌, if◌then◌else◌}
use Rattle.std.specs.declared.option.Option.{Option}
use Rattle.std.specs.Io.KnownBytes.{Consumes}
use Rattle.outside.specs.Causes.{Rose, both}
use Rattle.outside.specs.Ledger.{Ledger}
use Rattle.outside.specs.Roles.{at}
use Rattle.outside.specs.declared.roles.Role.TheVariants.{ConsoleOut, Firmware}
use Rattle.outside.specs.Told.{Takes, TakesFront}
use Rattle.outside.proofs.ToldLemmas.{TakesFront-all}
use Rattle.command_line.specs.Words.{Replaying}
use Rattle.elf_load.specs.declared.error.LoadError.{LoadError}
use Rattle.elf_load.specs.declared.pieces.Loaded.{Loaded}
use Rattle.event_log.specs.declared.event.Event.{Event}
use Rattle.event_log.specs.declared.header.Header.{Header}
use Rattle.event_log.specs.HeaderFormat.{IsHeader, header_text}
use Rattle.event_log.specs.Grammar.{Stops, Cut}
use Rattle.event_log.specs.Spelling.{event, texts}
use Rattle.event_log.specs.Reading.{Reader, ahead, to_limit}
use Rattle.board.specs.Reset.{reset, start_of}
use Rattle.board.specs.Due.{due}
use Rattle.board.specs.State.{State}
use Rattle.log_order.proofs.EndKinds.{ending-kind}
use Rattle.log_order.specs.declared.refusal.Refusal.{Refusal}
use Rattle.log_order.specs.declared.refusal.Found.TheVariants as found
use Rattle.log_order.specs.Order.{Accepted, IsWrong}
use Rattle.rr_engine.specs.declared.replaying.ReplayEnd.{ReplayEnd}
use Rattle.rr_engine.specs.declared.replaying.ReplayEnd.TheVariants as replay_end
use Rattle.rr_engine.specs.Replaying.{Played, played, Plays, PlaysWhole, PlaysToWrong, PlaysToLimit, Replays, IsWrongAt, IsPastLimit}
use Rattle.run_files.specs.declared.difference.Difference.{Difference}
use Rattle.run_files.specs.declared.difference.Difference.TheVariants as difference
use Rattle.run_files.specs.declared.images.ImageFault.{ImageFault}
use Rattle.run_files.specs.declared.images.ImageFault.TheVariants as image
use Rattle.commands.specs.declared.outcome.Outcome.{Outcome}
use Rattle.commands.specs.declared.outcome.Outcome.TheVariants as outcome
use Rattle.run_files.specs.Files.{firmware_opening, FailsToOpen}
use Rattle.run_files.specs.Images.{IsFirmware, IsBadImage, NamesNoDisk}
use Rattle.run_files.specs.Headers.{HasHeader}
use Rattle.run_files.proofs.Headed.{headed}
use Rattle.commands.specs.Replays.{is_another, word_difference, Starts, IsDifferent, IsReplayed, IsRefusedLog, IsReplayedToLimit, IsUndecided, IsShown, read_of}
use Rattle.commands.proofs.LogLimits.{log-length, read-parts}
use Rattle.run_files.specs.Images.{IsImageFault}
use Rattle.commands.specs.Asking.{image_outcome_of, replay_outcome_of}
use Rattle.commands.specs.Playing.{ShowsOver}
use Rattle.commands.specs.Causes.{IfBoth, ReplayCause}

-- ---- what differs

words-differ : (w : Replaying) (h : Header) (held : Option (List ℕ)) (d : Difference) (a b : Bool)
    → is_another w.shift h.shift ≡ a → is_another w.ram_mib h.ram_mib ≡ b
    → (if a then Some difference.Shift else if b then Some difference.Ram else None) ≡ Some d
    → IsDifferent w h held d
words-differ w h held d true b s r e =
    (let same : difference.Shift ≡ d = cc in subst (IsDifferent w h held) same (rw s refl))
words-differ w h held d false true s r e =
    (let same : difference.Ram ≡ d = cc in subst (IsDifferent w h held) same (rw s (rw r refl)))
words-differ w h held d false false s r e = absurd cc

pub words-cause : (w : Replaying) (o rest : Option (List ℕ)) (h : Header) (l m : Ledger)
    (F : Type 0) (d : Difference)
    → IsHeader h → Consumes o rest (header_text h) → word_difference w h ≡ Some d
    → ReplayCause w o l m F (outcome.ImagesDiffer d)
words-cause w o rest h l m F d is c e =
    IfSome_then o (headed o rest h is c)
    (λ bytes k. (h, k.0, words-differ w h (l.names w.bios) d _ _ refl refl e))

-- why the firmware's file isn't the image
bad-image : (w : Replaying) (h : Header) (o held : Option (List ℕ)) (e : LoadError)
    → word_difference w h ≡ None → IfSome o (λ bytes. HasHeader bytes h)
    → IfSome held (λ file. IsBadImage h file e)
    → IfBoth o held (λ bytes file. (k : Header) × HasHeader bytes k × (word_difference w k ≡ None) ×
    IsBadImage k file e)
bad-image w h None held e words k bad = tt
bad-image w h (Some xs) None e words k bad = tt
bad-image w h (Some xs) (Some file) e words k bad = (h, k, words, bad)

pub image-cause : (w : Replaying) (o rest : Option (List ℕ)) (h : Header) (l m : Ledger)
    (F : Type 0) (e : ImageFault)
    → IsHeader h → Consumes o rest (header_text h) → word_difference w h ≡ None
    → IfSome (l.names w.bios) (λ file. IsImageFault h file e)
    → (e ≡ image.CannotOpen → FailsToOpen (firmware_opening w.bios) l m)
    → (e ≡ image.CannotRead → Rose (at l.faults Firmware) (at m.faults Firmware))
    → ReplayCause w o l m F (image_outcome_of e)
image-cause w o rest h l m F image.CannotOpen is c words k unopened unread = unopened refl
image-cause w o rest h l m F image.CannotRead is c words k unopened unread = unread refl
image-cause w o rest h l m F image.OtherFirmware is c words k unopened unread =
    IfSome_then o (headed o rest h is c) (λ bytes t. (h, t.0, (words, k)))
image-cause w o rest h l m F (image.Bad rule) is c words k unopened unread =
    bad-image w h o (l.names w.bios) rule words (IfSome_then o (headed o rest h is c) (λ bytes t. t.0))
    k
image-cause w o rest h l m F image.OtherDiskLength is c words k unopened unread =
    IfSome_then o (headed o rest h is c) (λ bytes t. (h, t.0, (words, k)))
image-cause w o rest h l m F image.OtherDisk is c words k unopened unread =
    IfSome_then o (headed o rest h is c) (λ bytes t. (h, t.0, (words, k)))
image-cause w o rest h l m F image.NoMemory is c words k unopened unread = tt

-- ---- the run

-- a replay that started: its log's header, and the images that it names
pub record Begins (w : Replaying) (o held : Option (List ℕ)) (h : Header) (firmware : Loaded)
    (rest : Option (List ℕ))
    : Type 0 where
  pub is : IsHeader h
  pub passed : Consumes o rest (header_text h)
  pub words : word_difference w h ≡ None
  pub image : IfSome held (λ file. IsFirmware h file firmware)
  pub disk : NamesNoDisk h

-- the same, where log and file tell their bytes
pub record Told (w : Replaying) (log file : List ℕ) (h : Header) (firmware : Loaded)
    (rest : Option (List ℕ))
    : Type 0 where
  pub starts : Starts w log file h firmware
  pub left : rest ≡ Some (drop 98 log)

both-told : (w : Replaying) (xs file : List ℕ) (h : Header) (f : Loaded) (rest : Option (List ℕ))
    → Begins w (Some xs) (Some file) h f rest → Told w xs file h f rest
both-told w xs file h f rest b =
    let top = headed (Some xs) rest h b.is b.passed in record {
      starts = record { has = top.0; words = b.words; image = b.image; disk = b.disk };
      left = top.1;
    }

pub if-both : {P : List ℕ → List ℕ → Type 0} (w : Replaying) (o held : Option (List ℕ)) (h : Header)
    (f : Loaded) (rest : Option (List ℕ))
    → Begins w o held h f rest
    → ((log file : List ℕ) → o ≡ Some log → Told w log file h f rest → P log file) → IfBoth o held P
if-both w None held h f rest b make = tt
if-both w (Some xs) None h f rest b make = tt
if-both w (Some xs) (Some file) h f rest b make = make xs file refl (both-told w xs file h f rest b)

-- the log that a replay played whole isn't too long to be read, and is its events to the end
pub whole-log : (w : Replaying) (log file : List ℕ) (h : Header) (f : Loaded) (p q : Played)
    (reason code accepted turns : ℕ)
    → Told w log file h f (ahead p.log)
    → (k : PlaysWhole (start_of h f) p q reason code accepted turns)
    → (length log ≤ 2 ^ 40) × Accepted (drop 98 log) (start_of h f) k.events [] k.last
whole-log w log file h f p q reason code accepted turns t k =
    let whole : drop 98 log ≡ texts k.events =
    subst (λ (o : Option (List ℕ)). IfSome o (λ bytes. bytes ≡ texts k.events)) t.left k.whole in (
      omega (arith, k.short, log-length log h t.starts.has, ap length whole),
      record {
        parts = whole ∙ sym (append-nil (texts k.events));
        are = k.plays.are;
        runs = k.plays.runs;
      },
    )

-- the log is accepted whole
replayed : (w : Replaying) (log file : List ℕ) (h : Header) (f : Loaded) (p q : Played) (l : Ledger)
    (reason code accepted turns : ℕ)
    → Told w log file h f (ahead p.log) → PlaysWhole (start_of h f) p q reason code accepted turns
    → p.console ≡ Some [] → at l.last ConsoleOut ≡ q.console → IsReplayed w log file l reason code
replayed w log file h f p q l reason code accepted turns t k none taken =
    let whole = whole-log w log file h f p q reason code accepted turns t k in
    record {
      header = h;
      firmware = f;
      starts = t.starts;
      short = whole.0;
      last = k.last;
      whole = record { events = k.events; accepted = whole.1; ended = ap is_some k.ended };
      ended = k.ended;
      console = subst (λ (o : Option (List ℕ)). Takes (Some []) o k.last.devices.uart.out)
          (sym taken)
          (subst (λ (o : Option (List ℕ)). Takes o q.console k.last.devices.uart.out) none
          k.console);
    }

-- the log is refused at its first wrong event
refused : (w : Replaying) (log file : List ℕ) (h : Header) (f : Loaded) (p q : Played) (l : Ledger)
    (r : Refusal)
    → Told w log file h f (ahead p.log) → PlaysToWrong (start_of h f) p q r
    → p.console ≡ Some [] → at l.last ConsoleOut ≡ q.console → IsRefusedLog w log file l r
refused w log file h f p q l r t k none taken =
    let wrong = subst (λ (o : Option (List ℕ)). IfSome o (λ bytes. (rest : List ℕ) × (last : State)
    × (bytes ≡ texts k.events ++ rest) × IsWrongAt k.mid r.offset rest r.found r.due last)) t.left
    k.wrong in
    let rest = wrong.0 in
    let at_end : 98 + length (texts k.events) ≤ 2 ^ 40 = omega (arith, k.within, k.offset) in
    record {
      header = h;
      firmware = f;
      starts = t.starts;
      mid = k.mid;
      last = wrong.1;
      wrong = record {
        first = record {
          events = k.events;
          rest = to_limit (98 + length (texts k.events)) rest;
          accepted = record {
            parts = read-parts log (texts k.events) rest wrong.2 at_end;
            are = k.plays.are;
            runs = k.plays.runs;
          };
          index = k.index;
          offset = k.offset;
          wrong = subst (λ (n : ℕ). IsWrong k.mid (to_limit n rest) r.found r.due wrong.1) k.offset
              wrong.3.0;
        };
        own_end = λ cut. omega (
          arith,
          wrong.3.1 cut,
          k.offset,
          log-length log h t.starts.has,
          ap length wrong.2,
          length-append (texts k.events) rest,
        );
      };
      console = subst (λ (o : Option (List ℕ)). Takes (Some []) o k.mid.devices.uart.out)
          (sym taken)
          (subst (λ (o : Option (List ℕ)). Takes o q.console k.mid.devices.uart.out) none
          k.console);
    }

-- the place where what is read cuts an event
abbrev cut_at : List Event → State → Refusal
cut_at events last = record {
  index = length events;
  offset = 98 + length (texts events);
  due = due last;
  found = found.Cut;
}

-- what is known of the log up to the limit
undecided : (bytes rest : List ℕ) (events : List Event) (start last : State)
    → Accepted bytes start events rest last
    → (IsNone last.control.ended × Stops event rest Cut) ⊎ (IsSome last.control.ended × (rest ≡ []))
    → IsUndecided bytes start last
undecided bytes rest events start last a (inl (going, stops)) = inr (
  cut_at events last,
  last,
  record {
    events = events;
    rest = rest;
    accepted = a;
    index = refl;
    offset = refl;
    wrong = (going, stops, refl, refl);
  },
  refl,
)
undecided bytes rest events start last a (inr (ended, none)) = inl (record {
  events = events;
  accepted = subst (λ (z : List ℕ). Accepted bytes start events z last) none a;
  ended = ended;
})

-- the log is longer than what is read, and nothing of that is wrong
too-long : (w : Replaying) (log file : List ℕ) (h : Header) (f : Loaded) (p q : Played) (l : Ledger)
    → Told w log file h f (ahead p.log) → PlaysToLimit (start_of h f) p q
    → p.console ≡ Some [] → at l.last ConsoleOut ≡ q.console → IsReplayedToLimit w log file l
too-long w log file h f p q l t k none taken =
    let past = subst (λ (o : Option (List ℕ)). IfSome o (λ bytes. (rest : List ℕ)
    × (bytes ≡ texts k.events ++ rest)
    × IsPastLimit k.last (98 + length (texts k.events)) rest)) t.left k.past in
    let rest = past.0 in
    record {
      header = h;
      firmware = f;
      starts = t.starts;
      long = omega (
        arith,
        past.2.0,
        log-length log h t.starts.has,
        ap length past.1,
        length-append (texts k.events) rest,
      );
      last = k.last;
      undecided = undecided (drop 98 (read_of log)) (to_limit (98 + length (texts k.events)) rest)
          k.events (start_of h f) k.last
          (record {
            parts = read-parts log (texts k.events) rest past.1 k.within;
            are = k.plays.are;
            runs = k.plays.runs;
          })
          past.2.1;
      console = subst (λ (o : Option (List ℕ)). Takes (Some []) o k.last.devices.uart.out)
          (sym taken)
          (subst (λ (o : Option (List ℕ)). Takes o q.console k.last.devices.uart.out) none
          k.console);
    }

-- the console has a front of the bytes of an accepted part
shown : (w : Replaying) (log file : List ℕ) (h : Header) (f : Loaded) (p : Played)
    (console : Option (List ℕ)) (l : Ledger)
    (events : List Event) (last : State)
    → Told w log file h f (ahead p.log) → Plays (start_of h f) p events last
    → TakesFront p.console console last.devices.uart.out
    → p.console ≡ Some [] → at l.last ConsoleOut ≡ console → IsShown w log file l
shown w log file h f p console l events last t k front none taken =
    let spelled = subst (λ (o : Option (List ℕ)). IfSome o
    (λ bytes. (rest : List ℕ) × (bytes ≡ texts events ++ rest))) t.left k.spelled in record {
      header = h;
      firmware = f;
      starts = t.starts;
      events = events;
      rest = spelled.0;
      last = last;
      accepted = record { parts = spelled.1; are = k.are; runs = k.runs };
      console = subst (λ (o : Option (List ℕ)). TakesFront (Some []) o last.devices.uart.out)
          (sym taken)
          (subst (λ (o : Option (List ℕ)). TakesFront o console last.devices.uart.out) none front);
    }

-- what each end of a replay took on its console
pub end-shown : (w : Replaying) (log file : List ℕ) (h : Header) (f : Loaded) (p q : Played)
    (l : Ledger) (end : ReplayEnd)
    → Told w log file h f (ahead p.log) → Replays (start_of h f) p q end
    → p.console ≡ Some [] → at l.last ConsoleOut ≡ q.console → IsShown w log file l
end-shown w log file h f p q l (replay_end.End reason code accepted turns) t k none taken =
    shown w log file h f p q.console l k.events k.last t k.plays
    (TakesFront-all p.console q.console _ k.console) none taken
end-shown w log file h f p q l replay_end.ConsoleWrite t k none taken =
    shown w log file h f p q.console l k.0.events k.0.last t k.0.plays k.0.console none taken
end-shown w log file h f p q l replay_end.LogRead t k none taken =
    shown w log file h f p q.console l k.0.events k.0.last t k.0.plays
    (TakesFront-all p.console q.console _ k.0.console) none taken
end-shown w log file h f p q l replay_end.LogTooLong t k none taken =
    shown w log file h f p q.console l k.events k.last t k.plays
    (TakesFront-all p.console q.console _ k.console) none taken
end-shown w log file h f p q l (replay_end.Refused r) t k none taken =
    shown w log file h f p q.console l k.events k.mid t k.plays
    (TakesFront-all p.console q.console _ k.console) none taken
end-shown w log file h f p q l replay_end.NoMemory t k none taken =
    shown w log file h f p q.console l k.0.events k.0.last t k.0.plays
    (TakesFront-all p.console q.console _ k.0.console) none taken

coded : (w : Replaying) (o held : Option (List ℕ)) (m : Ledger) (reason other code none : ℕ)
    → reason ≡ other → code ≡ none
    → IfBoth o held (λ log file. IsReplayed w log file m reason code)
    → IfBoth o held (λ log file. IsReplayed w log file m other none)
coded w o held m reason other code none e f k =
    subst (λ (n : ℕ). IfBoth o held (λ log file. IsReplayed w log file m n none)) e
    (subst (λ (n : ℕ). IfBoth o held (λ log file. IsReplayed w log file m reason n)) f k)

-- the outcome of a log that was accepted, by the reason of its END
by-reason : (w : Replaying) (o : Option (List ℕ)) (l m : Ledger) (F : Type 0) (reason code : ℕ)
    (a b c : Bool)
    → (reason == 0) ≡ a → (reason == 1) ≡ b → (reason == 2) ≡ c
    → (reason ≤ 3) × (1 ≤ reason → code ≡ 0)
    → IfBoth o (l.names w.bios) (λ log file. IsReplayed w log file m reason code)
    → ReplayCause w o l m F (if a then outcome.GuestEnded code else if b then outcome.IdleForEver
    else if c then outcome.BudgetReached else outcome.RecordingStopped)
by-reason w o l m F reason code true b c e f g kind k =
    subst (λ (n : ℕ). IfBoth o (l.names w.bios) (λ log file. IsReplayed w log file m n code))
    (eqb-true reason 0 e) k
by-reason w o l m F reason code false true c e f g kind k =
    let one = eqb-true reason 1 f in
    coded w o (l.names w.bios) m reason 1 code 0 one (kind.1 (omega (arith, one))) k
by-reason w o l m F reason code false false true e f g kind k =
    let two = eqb-true reason 2 g in
    coded w o (l.names w.bios) m reason 2 code 0 two (kind.1 (omega (arith, two))) k
by-reason w o l m F reason code false false false e f g kind k =
    let three : reason ≡ 3 = omega (
      arith,
      eqb-false reason 0 e,
      eqb-false reason 1 f,
      eqb-false
          reason 2 g,
      kind.0,
    ) in
    coded w o (l.names w.bios) m reason 3 code 0 three (kind.1 (omega (arith, three))) k

going : (h : Header) (f : Loaded) → (start_of h f).control.ended ≡ None
unfolding reset
going h f = refl

-- the count of a device that failed since it was opened rose, once it is given back
pub both-rose : (a n : ℕ) → Rose 0 n → Rose a (both a n)
both-rose a n rose = omega (arith, rose)

console-rose : (l mid m : Ledger) (n : ℕ) → at mid.faults ConsoleOut ≡ at l.faults ConsoleOut
    → at m.faults ConsoleOut ≡ both (at mid.faults ConsoleOut) n → Rose 0 n
    → Rose (at l.faults ConsoleOut) (at m.faults ConsoleOut)
console-rose l mid m n same counted rose =
    subst (λ (z : ℕ). Rose (at l.faults ConsoleOut) z)
    (sym (counted ∙ ap (λ (z : ℕ). both z n) same))
    (both-rose (at l.faults ConsoleOut) n rose)

-- what a replay comes to, by how it ended
pub played-cause : (w : Replaying) (o : Option (List ℕ)) (h : Header) (f : Loaded)
    (log log' : Reader) (l mid m : Ledger)
    (F : Type 0) (end : ReplayEnd)
    → Begins w o (l.names w.bios) h f (ahead log) → ShowsOver (start_of h f) log log' mid m end
    → at mid.faults ConsoleOut ≡ at l.faults ConsoleOut → (Rose log.faults log'.faults → F)
    → ReplayCause w o l m F (replay_outcome_of end)
played-cause w o h f log log' l mid m F (replay_end.End reason code accepted turns) b s same failed =
    let k = s.replays in
    let kind = ending-kind k.events (start_of h f) k.last reason code k.plays.are (going h f)
    k.plays.runs k.ended in
    by-reason w o l m F reason code (reason == 0) (reason == 1) (reason == 2) refl refl refl kind
    (if-both w o (l.names w.bios) h f (ahead log) b (λ bytes file told t.
    replayed w bytes file h f (played log (Some []) 0) (played log' s.console s.faults) m reason
    code accepted turns t k refl
    (s.taken (λ e. absurd cc))))
played-cause w o h f log log' l mid m F replay_end.ConsoleWrite b s same failed = (
  console-rose l mid m s.faults same s.counted s.replays.1,
  if-both w o (l.names w.bios) h f (ahead log) b (λ bytes file told t. (h, f, t.starts)),
)
played-cause w o h f log log' l mid m F replay_end.LogRead b s same failed = failed s.replays.1
played-cause w o h f log log' l mid m F replay_end.LogTooLong b s same failed =
    if-both w o (l.names w.bios) h f (ahead log) b (λ bytes file told t.
    too-long w bytes file h f (played log (Some []) 0) (played log' s.console s.faults) m t s.replays
    refl (s.taken (λ e. absurd cc)))
played-cause w o h f log log' l mid m F (replay_end.Refused r) b s same failed =
    let k = s.replays in
    if-both w o (l.names w.bios) h f (ahead log) b (λ bytes file told t.
    refused w bytes file h f (played log (Some []) 0) (played log' s.console s.faults) m r t k refl
    (s.taken (λ e. absurd cc)))
played-cause w o h f log log' l mid m F replay_end.NoMemory b s same failed = tt

-- what the console of a replay took
pub played-shown : (w : Replaying) (o : Option (List ℕ)) (h : Header) (f : Loaded)
    (log log' : Reader) (l mid m : Ledger)
    (end : ReplayEnd)
    → Begins w o (l.names w.bios) h f (ahead log) → ShowsOver (start_of h f) log log' mid m end
    → at mid.opened ConsoleOut ≡ at l.opened ConsoleOut
    → at l.opened ConsoleOut < at m.opened ConsoleOut
    → IfBoth o (l.names w.bios) (λ bytes file. IsShown w bytes file m)
played-shown w o h f log log' l mid m end b s same more =
    if-both w o (l.names w.bios) h f (ahead log) b (λ bytes file told t.
    end-shown w bytes file h f (played log (Some []) 0) (played log' s.console s.faults) m end t
    s.replays refl
    (s.opened (subst (λ (z : ℕ). z < at m.opened ConsoleOut) (sym same) more)))

pub as-outcome : (w : Replaying) (o : Option (List ℕ)) (l m : Ledger) (F : Type 0) (x y : Outcome)
    → x ≡ y
    → ReplayCause w o l m F y → ReplayCause w o l m F x
as-outcome w o l m F x y e k = subst (λ (z : Outcome). ReplayCause w o l m F z) (sym e) k
