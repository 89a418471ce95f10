-- The recording and the replay of a demonstration.
use Rattle.std.proofs.Common.{◌≡◌, ◌≤◌, ◌+◌, ◌^◌, ℕ, zero, suc, true, List, [], ◌∷◌, ◌++◌, length, take, drop, replicate, refl, sym, ap, ◌∙◌, subst, arith, append-nil, length-append, inl, inr, Global}
use Rattle.std.specs.Prelude.{Some, None, IfSome, IfOk, is_some, option_map, Result, Ok, Err, String, string_bytes, codes}
use Rattle.std.specs.Fmt.{decimal}
use Rattle.std.specs.declared.alloc.AllocError.{AllocError}
use Rattle.std.specs.declared.option.Option.{Option}
use Rattle.std.specs.List.{AllByRecursion}
use Rattle.std.specs.Io.KnownBytes.{Consumes}
use Rattle.outside.specs.Told.{Takes}
use Rattle.elf_load.specs.declared.pieces.Loaded.{Loaded}
use Rattle.elf_load.specs.Load.{loaded, LiesInRam}
use Rattle.event_log.specs.declared.event.Event.{Event}
use Rattle.event_log.specs.declared.event.Event.TheVariants as event
use Rattle.event_log.specs.declared.header.Header.{Header}
use Rattle.event_log.specs.declared.parse.ParseError.TheVariants as parse
use Rattle.event_log.specs.declared.stream_error.StreamError.{StreamError}
use Rattle.event_log.specs.declared.stream_error.StreamError.TheVariants as stream
use Rattle.event_log.specs.HeaderFormat.{IsHeader, header_text}
use Rattle.event_log.specs.Reading.{Reader, ahead, none_read, reading, Heads}
use Rattle.event_log.specs.Spelling.{text, texts, IsEvent}
use Rattle.event_log.proofs.FrontLemmas.{same_front}
use Rattle.event_log.proofs.HeaderLaws.{header_length, one_headers}
use Rattle.board.specs.State.{State}
use Rattle.board.specs.Laws.{IsLaterBy}
use Rattle.board.specs.Runs.{run, turns}
use Rattle.board.specs.Reset.{reset, start_of}
use Rattle.board.proofs.ClockLaws.{run-counts}
use Rattle.log_order.proofs.Following.{text-some, some_is}
use Rattle.log_order.proofs.Verdicts.{whole-right}
use Rattle.log_order.specs.Order.{IsFirstWrong, IsWhole, IsWrong}
use Rattle.log_order.specs.declared.refusal.Refusal.{Refusal}
use Rattle.rr_engine.specs.Stand.{Devices}
use Rattle.rr_engine.specs.Input.{Extent, Entire, Debt, Owed, Paid, Hears}
use Rattle.rr_engine.specs.Recording.{clock_values}
use Rattle.rr_engine.specs.Runs.{Records}
use Rattle.rr_engine.specs.declared.ends.RunEnd.TheVariants as run_end
use Rattle.rr_engine.specs.declared.replaying.ReplayEnd.{ReplayEnd}
use Rattle.rr_engine.specs.declared.replaying.ReplayEnd.TheVariants.{End, ConsoleWrite, LogRead, LogTooLong, Refused, NoMemory}
use Rattle.rr_engine.specs.Replaying.{Played, played, PlaysToWrong, PlaysToLimit, PlaysWhole, Replays, IsWrongAt, IsPastLimit}
use Rattle.rr_engine.proofs.Limits.{all-within}
use Rattle.demo_run.specs.Guests.{guest_bytes}
use Rattle.run_files.specs.Headers.{HasHeader}
use Rattle.run_files.proofs.Headed.{behind-text, begins, headed as log-headed, one-header}
use Rattle.demo_run.specs.Demos.{demo_header, AreZero, Demonstration, demo_line, IsRecording, IsRecordedFrom, IsBehindHeader, HasEvents}

-- ---- what the devices of a recording tell

took : (a b : Option (List ℕ)) (xs ys : List ℕ) → a ≡ Some [] → b ≡ Some xs → Takes a b ys
    → xs ≡ ys
took a b xs ys e f t =
    let told : Takes (Some []) (Some xs) ys =
    subst (λ (z : Option (List ℕ)). Takes z (Some xs) ys) e
    (subst (λ (z : Option (List ℕ)). Takes a z ys) f t) in
    told

-- where no input is, none is left
heard-nothing : (extent : Extent) (debt : Debt) (events : List Event) (rest : List ℕ)
    → Hears extent debt [] events rest → rest ≡ []
heard-nothing extent debt [] rest h = sym h.1
heard-nothing extent debt (event.CharRead bytes ∷ es) rest h =
    let none : h.1 ≡ [] = after bytes h.1 h.2 in
    heard-nothing extent Paid es rest (subst (λ (z : List ℕ). Hears extent Paid z es rest) none h.3)
  where
    after : (bytes more : List ℕ) → [] ≡ bytes ++ more → more ≡ []
    after [] more e = sym e
    after (x ∷ bytes) more e = absurd cc
heard-nothing extent debt (event.Block id ok ∷ es) rest h = absurd h
heard-nothing extent debt (event.Net packet ∷ es) rest h = absurd h
heard-nothing extent debt (event.Checkpoint idle ∷ es) rest h =
    heard-nothing extent Owed es rest h.1
heard-nothing extent debt (event.End reason code ∷ es) rest h =
    heard-nothing extent Paid es rest h.1
heard-nothing extent debt (event.Instruction n ∷ es) rest h = heard-nothing extent Paid es rest h.1
heard-nothing extent debt (event.Interrupt ∷ es) rest h = heard-nothing extent Paid es rest h.1
heard-nothing extent debt (event.Exception ∷ es) rest h = heard-nothing extent Paid es rest h.1
heard-nothing extent debt (event.Clock value ∷ es) rest h = heard-nothing extent Paid es rest h.1

take-none : (n : ℕ) → take {A = ℕ} n [] ≡ []
take-none zero = refl
take-none (suc n) = refl

silent : (input : Option (List ℕ)) (events : List Event) → input ≡ Some []
    → IfSome input (λ bytes. (rest : List ℕ) × Hears Entire Paid (take (2 ^ 40) bytes) events rest)
    → Hears Entire Paid [] events []
silent input events e h =
    let told : (rest : List ℕ) × Hears Entire Paid (take (2 ^ 40) []) events rest =
    subst (λ (z : Option (List ℕ)). IfSome z (λ bytes. (rest : List ℕ)
    × Hears Entire Paid (take (2 ^ 40) bytes) events rest)) e h in
    let heard : Hears Entire Paid [] events told.0 =
    subst (λ (z : List ℕ). Hears Entire Paid z events told.0) (take-none (2 ^ 40)) told.1 in
    subst (λ (z : List ℕ). Hears Entire Paid [] events z)
    (heard-nothing Entire Paid events told.0 heard) heard

zeros : (n : ℕ) → AreZero (replicate n 0)
zeros zero = tt
zeros (suc n) = (refl, zeros n)

-- a clock that stands gave zeros
stood : (calls : Option ℕ) (old new : Option (List ℕ)) (values : List ℕ) → old ≡ Some []
    → new ≡ option_map (λ n. replicate n 0) calls → is_some calls ≡ true → Takes old new values
    → AreZero values
stood None old new values e f some t = absurd cc
stood (Some n) old new values e f some t =
    subst AreZero (took old new (replicate n 0) values e f t) (zeros n)

pub recorded : (start : State) (head log console : List ℕ) (p q : Devices) (calls : Option ℕ)
    (reason code : ℕ)
    → p.log ≡ Some [] → p.console ≡ Some [] → p.input ≡ Some [] → p.gave ≡ Some []
    → q.log ≡ Some log → q.console ≡ Some console
    → q.gave ≡ option_map (λ n. replicate n 0) calls → is_some calls ≡ true
    → Records start head p q (run_end.End reason code) → IsRecording start head log console
recorded start head log console p q calls reason code a b c d e f g counted r =
    let w = r.0 in record {
      events = w.events;
      last = w.last;
      reason = reason;
      code = code;
      are = w.are;
      runs = w.runs;
      ended = w.ended;
      by_itself = r.1.0;
      no_input = silent p.input w.events c w.input.heard;
      still = stood calls p.gave q.gave (clock_values w.events) d g counted w.clock;
      log = took p.log q.log log (head ++ texts w.events) a e w.log;
      console = took p.console q.console console w.last.devices.uart.out b f w.console;
    }

-- ---- the header of a log

passed : (h : Header) (log : List ℕ) (old new : Option (List ℕ)) → IsHeader h → old ≡ Some log
    → Consumes old new (header_text h) → HasHeader log h × (new ≡ Some (drop 98 log))
passed h log old new is e c =
    log-headed (Some log) new h is
    (subst (λ (z : Option (List ℕ)). Consumes z new (header_text h)) e c)

pub header-read : (log : List ℕ) (old new : Reader) (h : Header)
    → old ≡ reading (Some log) 0 (none_read 0) → Heads old new (Ok h) → HasHeader log h
header-read log old new h e k =
    (passed h log (ahead old) (ahead new) k.1 (ap ahead e) k.2.bytes).0

pub headed : (log : List ℕ) (old new : Reader) (h : Header)
    → old ≡ reading (Some log) 0 (none_read 0) → Heads old new (Ok h)
    → IsBehindHeader new (drop 98 log)
headed log old new h e k = record {
  bytes = (passed h log (ahead old) (ahead new) k.1 (ap ahead e) k.2.bytes).1;
  place = k.3;
  works = k.0.works;
  faults = k.0.faults ∙ ap (λ (r : Reader). r.faults) e;
}

-- a log that begins with a header has no fault there
pub no-fault : (log : List ℕ) (new : Reader) (h : Header) (error : StreamError) → IsHeader h
    → log ≡ header_text h ++ drop 98 log → length log ≤ 2 ^ 32 → new.faults ≡ 0
    → Heads (reading (Some log) 0 (none_read 0)) new (Err error) → ⊥
no-fault log new h (stream.Parse (parse.Bad offset rule)) is starts short unfailed k =
    let same = one_headers log (Ok h) (Err (parse.Bad offset rule)) (is, starts) k.2 in absurd cc
no-fault log new h (stream.Parse (parse.Cut offset)) is starts short unfailed k =
    let same = one_headers log (Ok h) (Err (parse.Cut offset)) (is, starts) (k.3, k.2) in absurd cc
no-fault log new h (stream.Parse parse.NoMemory) is starts short unfailed k = k
no-fault log new h stream.Failed is starts short unfailed (failed, inl (before, same)) = absurd cc
no-fault log new h stream.Failed is starts short unfailed (failed, inr now) =
    omega (arith, now.1, unfailed)
no-fault log new h stream.TooLong is starts short unfailed k = k
no-fault log new h stream.NoMemory is starts short unfailed k = k

-- ---- the replay

texts-same : (es ds : List Event) → AllByRecursion IsEvent es → AllByRecursion IsEvent ds
    → texts es ≡ texts ds → es ≡ ds
texts-same [] [] p q e = refl
texts-same [] (d ∷ ds) p q e =
    absurd (omega (arith, ap length e, length-append (text d) (texts ds), text-some d))
texts-same (e ∷ es) [] p q same =
    absurd (omega (arith, ap length same, length-append (text e) (texts es), text-some e))
texts-same (e ∷ es) (d ∷ ds) p q same =
    let front = same_front e d (texts es) (texts ds) p.0 q.0 same in
    ap (λ (z : Event). z ∷ es) front.0
    ∙ ap (λ (z : List Event). d ∷ z) (texts-same es ds p.1 q.1 front.1)

-- the events that a log has behind its header
pub recording-text : (start : State) (h : Header) (log console : List ℕ) → IsHeader h
    → (r : IsRecording start (header_text h) log console) → drop 98 log ≡ texts r.events
recording-text start h log console is r = behind-text h log (texts r.events) is r.log

pub recording-starts : (start : State) (h : Header) (log console : List ℕ) → IsHeader h
    → IsRecording start (header_text h) log console → HasHeader log h
recording-starts start h log console is r = begins h log (texts r.events) is r.log

-- a log has one header: it was recorded from the one that is read in its copy
pub recorded-from : (firmware : Loaded) (log copy console : List ℕ) (h : Header)
    → IsRecordedFrom firmware log console → copy ≡ log → HasHeader copy h
    → LiesInRam h.ram_mib firmware
    × IsRecording (start_of h firmware) (header_text h) log console
recorded-from firmware log copy console h r copied has =
    let same : r.header ≡ h = one-header log r.header h
    (recording-starts (start_of r.header firmware) r.header log console r.is r.recording)
    (subst (λ (z : List ℕ). HasHeader z h) copied has) in (
      subst (λ (z : Header). LiesInRam z.ram_mib firmware) same r.inside,
      subst (λ (z : Header). IsRecording (start_of z firmware) (header_text z) log console) same
          r.recording,
    )

-- a header stands in it
pub copy-starts : (firmware : Loaded) (log copy console : List ℕ)
    → IsRecordedFrom firmware log console → copy ≡ log → (h : Header) × HasHeader copy h
copy-starts firmware log copy console r copied = (
  r.header,
  subst (λ (z : List ℕ). HasHeader z r.header) (sym copied)
      (recording-starts (start_of r.header firmware) r.header log console r.is r.recording),
)

pub recording-long : (start : State) (h : Header) (log console : List ℕ) → IsHeader h
    → (r : IsRecording start (header_text h) log console)
    → length log ≡ 98 + length (texts r.events)
recording-long start h log console is r =
    ap length r.log ∙ length-append (header_text h) (texts r.events)
    ∙ ap (λ (n : ℕ). n + length (texts r.events)) (header_length h is)

-- the log that was recorded is ahead of a replay, whose devices don't fail
pub record Repeats (start : State) (h : Header) (log console : List ℕ) (p q : Played)
    : Type 0 where
  pub is : IsHeader h
  pub recording : IsRecording start (header_text h) log console
  pub short : length log ≤ 2 ^ 32
  pub bytes : ahead p.log ≡ Some (drop 98 log)
  pub fresh : p.console ≡ Some []
  pub log_faults : p.log.faults ≡ 0
  pub log_stays : q.log.faults ≡ 0
  pub console_faults : p.console_faults ≡ 0
  pub console_stays : q.console_faults ≡ 0

pub repeats : (firmware : Loaded) (h : Header) (log copy console : List ℕ) (old new : Reader)
    (fresh shown : Option (List ℕ))
    → IsRecordedFrom firmware log console → length log ≤ 2 ^ 32 → copy ≡ log → HasHeader copy h
    → IsBehindHeader old (drop 98 copy) → fresh ≡ Some [] → 0 ≡ new.faults
    → Repeats (start_of h firmware) h log console (played old fresh 0) (played new shown 0)
repeats firmware h log copy console old new fresh shown r short copied has behind none stays =
    record {
      is = has.is;
      recording = (recorded-from firmware log copy console h r copied has).1;
      short = short;
      bytes = behind.bytes ∙ ap (λ (z : List ℕ). Some (drop 98 z)) copied;
      fresh = none;
      log_faults = behind.faults;
      log_stays = sym stays;
      console_faults = refl;
      console_stays = refl;
    }

ahead-is : (o : Option (List ℕ)) (bytes : List ℕ) (P : List ℕ → Type 0) → o ≡ Some bytes
    → IfSome o P → P bytes
ahead-is o bytes P told k = subst (λ (z : Option (List ℕ)). IfSome z P) told k

not-long : (start : State) (h : Header) (log console : List ℕ) (p q : Played)
    → Repeats start h log console p q → PlaysToLimit start p q → ⊥
not-long start h log console p q r k =
    let past = ahead-is (ahead p.log) (drop 98 log) (λ bytes. (rest : List ℕ)
    × (bytes ≡ texts k.events ++ rest)
    × IsPastLimit k.last (98 + length (texts k.events)) rest) r.bytes k.past in
    let text = ap length (recording-text start h log console r.is r.recording) in
    let whole = recording-long start h log console r.is r.recording in
    omega (
      arith,
      past.2.0,
      ap length past.1,
      length-append (texts k.events) past.0,
      text,
      whole,
      r.short,
    )

-- the log is accepted whole
whole-log : (start : State) (h : Header) (log console : List ℕ) (p q : Played)
    → (r : Repeats start h log console p q) → IsWhole (drop 98 log) start r.recording.last
whole-log start h log console p q r = record {
  events = r.recording.events;
  accepted = record {
    parts = recording-text start h log console r.is r.recording
        ∙ sym (append-nil (texts r.recording.events));
    are = r.recording.are;
    runs = r.recording.runs;
  };
  ended = ap is_some r.recording.ended;
}

not-refused : (start : State) (h : Header) (log console : List ℕ) (p q : Played) (refusal : Refusal)
    → Repeats start h log console p q → PlaysToWrong start p q refusal → ⊥
not-refused start h log console p q refusal r k =
    let wrong = ahead-is (ahead p.log) (drop 98 log) (λ bytes. (rest : List ℕ) × (last : State)
    × (bytes ≡ texts k.events ++ rest)
    × IsWrongAt k.mid refusal.offset rest refusal.found refusal.due last) r.bytes k.wrong in
    let within : refusal.offset + length wrong.0 ≤ 2 ^ 40 = omega (
      arith,
      k.offset,
      ap length wrong.2,
      length-append (texts k.events) wrong.0,
      ap length (recording-text start h log console r.is r.recording),
      recording-long start h log console r.is r.recording,
      r.short,
    ) in
    let first : IsFirstWrong (drop 98 log) 98 start refusal k.mid wrong.1 = record {
      events = k.events;
      rest = wrong.0;
      accepted = record { parts = wrong.2; are = k.plays.are; runs = k.plays.runs };
      index = k.index;
      offset = k.offset;
      wrong = subst (λ (z : List ℕ). IsWrong k.mid z refusal.found refusal.due wrong.1)
          (all-within refusal.offset wrong.0 within) wrong.3.0;
    } in
    whole-right (drop 98 log) 98 start k.mid wrong.1 r.recording.last refusal first
    (whole-log start h log console p q r)

-- it ends by its END, or for want of memory
pub ends-whole : (start : State) (h : Header) (log console : List ℕ) (p q : Played)
    (end : ReplayEnd)
    → Repeats start h log console p q → Replays start p q end
    → ((reason code accepted turns : ℕ) → end ≡ End reason code accepted turns → ⊥)
    → (end ≡ NoMemory → ⊥) → ⊥
ends-whole start h log console p q (End reason code accepted turns) r k whole memory =
    whole reason code accepted turns refl
ends-whole start h log console p q ConsoleWrite r k whole memory =
    omega (arith, k.1, r.console_faults, r.console_stays)
ends-whole start h log console p q LogRead r k whole memory =
    omega (arith, k.1, r.log_faults, r.log_stays)
ends-whole start h log console p q LogTooLong r k whole memory =
    not-long start h log console p q r k
ends-whole start h log console p q (Refused refusal) r k whole memory =
    not-refused start h log console p q refusal r k
ends-whole start h log console p q NoMemory r k whole memory = memory refl

-- the events whose text the log is are those that were replayed
replayed-events : (start : State) (h : Header) (log console : List ℕ) (p q : Played)
    (reason code accepted turned : ℕ) (events : List Event)
    → Repeats start h log console p q
    → (k : PlaysWhole start p q reason code accepted turned) → HasEvents log events
    → k.events ≡ events
replayed-events start h log console p q reason code accepted turned events r k has =
    let text : drop 98 log ≡ texts k.events =
    ahead-is (ahead p.log) (drop 98 log) (λ bytes. bytes ≡ texts k.events) r.bytes k.whole in
    texts-same k.events events k.plays.are has.are (sym text ∙ has.text)

recording-events : (start : State) (h : Header) (log console : List ℕ) → IsHeader h
    → (r : IsRecording start (header_text h) log console) → HasEvents log r.events
recording-events start h log console is r =
    record { are = r.are; text = recording-text start h log console is r }

-- the console took what the recording's took
pub shown-again : (start : State) (h : Header) (log console shown : List ℕ) (p q : Played)
    (reason code accepted turned : ℕ)
    → Repeats start h log console p q → PlaysWhole start p q reason code accepted turned
    → q.console ≡ Some shown → shown ≡ console
shown-again start h log console shown p q reason code accepted turned r k told =
    let events = replayed-events start h log console p q reason code accepted turned
    r.recording.events r k (recording-events start h log console r.is r.recording) in
    let last : k.last ≡ r.recording.last =
    some_is k.last r.recording.last
    (sym k.plays.runs ∙ ap (run start) events ∙ r.recording.runs) in
    took p.console q.console shown k.last.devices.uart.out r.fresh told k.console
    ∙ ap (λ (g : State). g.devices.uart.out) last ∙ sym r.recording.console

no-turns : (h : Header) (firmware : Loaded) → (start_of h firmware).devices.time.count ≡ 0
unfolding reset
no-turns h firmware = refl

-- the turns that it made are those of the log's events
pub counted-again : (firmware : Loaded) (h : Header) (log console : List ℕ) (p q : Played)
    (reason code accepted turned : ℕ) (events : List Event)
    → Repeats (start_of h firmware) h log console p q
    → PlaysWhole (start_of h firmware) p q reason code accepted turned → HasEvents log events
    → turned ≡ turns events
counted-again firmware h log console p q reason code accepted turned events r k has =
    let start = start_of h firmware in
    let later = subst (λ (g : Option State). IfSome g (IsLaterBy (turns k.events) start))
    k.plays.runs (run-counts k.events start) in
    let same = ap turns (replayed-events start h log console p q reason code accepted turned events
    r k has) in
    omega (arith, k.made, later, no-turns h firmware, same)

-- ---- the whole demonstration

if-ok : {T E : Type 0} {P Q : T → Type 0} (r : Result T E) → ((x : T) → P x → Q x) → IfOk r P
    → IfOk r Q
if-ok (Ok x) f k = f x k
if-ok (Err e) f k = tt

-- the line with these numbers
abbrev pub numbers_line : ℕ → ℕ → ℕ → ℕ → List ℕ
numbers_line n turned shown long =
    codes "demo " ++ decimal n ++ codes ": turns " ++ decimal turned
    ++ codes ", console " ++ decimal shown ++ codes ", log " ++ decimal long
    ++ codes ", replay equal\n"

demonstration : (n : ℕ) (log console : List ℕ) (h : Header) (firmware : Loaded)
    (turned shown long : ℕ) (text : List ℕ)
    → loaded (guest_bytes n) 16 ≡ Ok firmware → h ≡ demo_header n → IsHeader h
    → IsRecording (start_of h firmware) (header_text h) log console
    → ((events : List Event) → HasEvents log events → turned ≡ turns events)
    → shown ≡ length console → long ≡ length log → text ≡ numbers_line n turned shown long
    → (d : Demonstration n) × (text ≡ demo_line n d)
demonstration n log console h firmware turned shown long text loads same is r counts s l spelled =
    let turned_is = counts r.events (recording-events (start_of h firmware) h log console is r) in
    let shown_is = s ∙ ap length r.console in
    let long_is = l ∙ recording-long (start_of h firmware) h log console is r in (
      record {
        firmware = firmware;
        loads = loads;
        events = r.events;
        last = r.last;
        reason = r.reason;
        code = r.code;
        are = r.are;
        runs = subst (λ (z : Header). run (start_of z firmware) r.events ≡ Some r.last) same r.runs;
        ended = r.ended;
        by_itself = r.by_itself;
        no_input = r.no_input;
        still = r.still;
      },
      spelled ∙ ap (λ (z : ℕ). numbers_line n z shown long) turned_is
          ∙ ap (λ (z : ℕ). numbers_line n (turns r.events) z long) shown_is
          ∙ ap (λ (z : ℕ). numbers_line n (turns r.events) (length r.last.devices.uart.out) z)
          long_is,
    )

-- the text of the line, where memory suffices
pub demonstrated : (n : ℕ) (log console : List ℕ) (h : Header) (firmware : Loaded)
    (turned shown long : ℕ) (text : Result (String Global) AllocError)
    → loaded (guest_bytes n) 16 ≡ Ok firmware → h ≡ demo_header n → IsHeader h
    → IsRecording (start_of h firmware) (header_text h) log console
    → ((events : List Event) → HasEvents log events → turned ≡ turns events)
    → shown ≡ length console → long ≡ length log
    → IfOk text (λ s. string_bytes s ≡ numbers_line n turned shown long)
    → IfOk text (λ s. (d : Demonstration n) × (string_bytes s ≡ demo_line n d))
demonstrated n log console h firmware turned shown long text loads same is r counts s l told =
    if-ok text (λ x spelled. demonstration n log console h firmware turned shown long
    (string_bytes x) loads same is r counts s l spelled) told
