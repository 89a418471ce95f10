-- A recording over devices that were just opened, and were given back.
use Rattle.std.proofs.Common.{◌≡◌, ℕ, ◌^◌, List, [], take, refl, sym, subst, arith, append-nil}
use Rattle.std.specs.Prelude.{Some, None, IfSome}
use Rattle.std.specs.declared.option.Option.{Option}
use Rattle.outside.specs.Causes.{Stood, both}
use Rattle.outside.specs.Ledger.{Ledger, StartsEmpty}
use Rattle.outside.specs.Roles.{at}
use Rattle.outside.specs.declared.roles.Role.TheVariants.{LogOut}
use Rattle.outside.specs.Told.{Takes}
use Rattle.outside.proofs.ToldLemmas.{Takes-start, TakesFront-all, TakesFront-start}
use Rattle.elf_load.specs.declared.pieces.Loaded.{Loaded}
use Rattle.event_log.specs.declared.event.Event.{Event}
use Rattle.event_log.specs.declared.header.Header.{Header}
use Rattle.event_log.specs.HeaderFormat.{header_text}
use Rattle.board.specs.State.{State}
use Rattle.board.specs.Reset.{start_of}
use Rattle.rr_engine.specs.declared.ends.RunEnd.{RunEnd}
use Rattle.rr_engine.specs.declared.ends.RunEnd.TheVariants.{End, ConsoleRead, ConsoleWrite, LogWrite, NoMemory}
use Rattle.rr_engine.specs.Stand.{Devices}
use Rattle.rr_engine.specs.Input.{Extent, Entire, Part, Paid, typed, Hears}
use Rattle.rr_engine.specs.Recording.{clock_values, Took}
use Rattle.rr_engine.specs.Runs.{Came, Whole, Front, ToStop, Records}
use Rattle.rr_engine.proofs.Hearing.{hears-weak, read-weak}
use Rattle.commands.specs.declared.devices.RecordingEnd.{RecordingEnd}
use Rattle.commands.specs.declared.devices.RecordingEnd.TheVariants as ends
use Rattle.commands.specs.Recordings.{opened_with, returned, HasWhole, HasFront, HasStop}
use Rattle.commands.specs.Endings.{IfEnds, IfStops, IsFresh, OpensNothing, closed, recording_end_of}

whole-started : (start : State) (head : List ℕ) (l k : Ledger) (old new : Devices) (reason code : ℕ)
    → IsFresh l old → Whole start head old new reason code
    → Whole start head (opened_with l) (returned (closed k new)) reason code
whole-started start head l k old new reason code fresh w = record {
  events = w.events;
  last = w.last;
  are = w.are;
  runs = w.runs;
  ended = w.ended;
  log = Takes-start old.log new.log _ fresh.log w.log;
  console = Takes-start old.console new.console _ fresh.console w.console;
  input = subst (λ (o : Option (List ℕ)). Came Entire o new.input w.events) fresh.input w.input;
  all_came = subst (λ (o : Option (List ℕ)). reason ≡ 1
      → IfSome o (λ bytes. typed w.events ≡ take (2 ^ 40) bytes)) fresh.input w.all_came;
  clock = Takes-start old.gave new.gave _ fresh.gave w.clock;
}

front-started : (start : State) (head : List ℕ) (l k : Ledger) (old new : Devices) → IsFresh l old
    → Front start head old new
    → Front start head (opened_with l) (returned (closed k new))
front-started start head l k old new fresh f = record {
  events = f.events;
  last = f.last;
  are = f.are;
  runs = f.runs;
  log = TakesFront-start old.log new.log _ fresh.log f.log;
  console = TakesFront-start old.console new.console _ fresh.console f.console;
  input = subst (λ (o : Option (List ℕ)). Came Part o new.input f.events) fresh.input f.input;
  clock = record {
    more = f.clock.more;
    gave = Takes-start old.gave new.gave _ fresh.gave f.clock.gave;
    all = λ same. absurd cc;
  };
}

-- a whole recording is one that may have broken off
heard-weak : (a : Option (List ℕ)) (es : List Event)
    → IfSome a (λ bytes. (rest : List ℕ) × Hears Entire Paid (take (2 ^ 40) bytes) es rest)
    → IfSome a (λ bytes. (rest : List ℕ) × Hears Part Paid (take (2 ^ 40) bytes) es rest)
heard-weak None es h = tt
heard-weak (Some x) es h = (h.0, hears-weak Paid es (take (2 ^ 40) x) h.0 h.1)

came-weak : (a b : Option (List ℕ)) (es : List Event) → Came Entire a b es → Came Part a b es
came-weak a b es c = record { read = read-weak a b es c.read; heard = heard-weak a es c.heard }

whole-front : (start : State) (head : List ℕ) (old new : Devices) (reason code : ℕ)
    → Whole start head old new reason code → Front start head old new
whole-front start head old new reason code w = record {
  events = w.events;
  last = w.last;
  are = w.are;
  runs = w.runs;
  log = TakesFront-all old.log new.log _ w.log;
  console = TakesFront-all old.console new.console _ w.console;
  input = came-weak old.input new.input w.events w.input;
  clock = record {
    more = [];
    gave = subst (Takes old.gave new.gave) (sym (append-nil (clock_values w.events))) w.clock;
    all = λ same. refl;
  };
}

records-whole : (h : Header) (f : Loaded) (l k : Ledger) (old new : Devices) (end : RunEnd)
    → IsFresh l old → Records (start_of h f) (header_text h) old new end
    → IfEnds (recording_end_of end) (λ reason code. HasWhole h f l (closed k new) reason code)
records-whole h f l k old new (End reason code) fresh r =
    (whole-started (start_of h f) (header_text h) l k old new reason code fresh r.0, r.1)
records-whole h f l k old new ConsoleRead fresh r = tt
records-whole h f l k old new ConsoleWrite fresh r = tt
records-whole h f l k old new LogWrite fresh r = tt
records-whole h f l k old new NoMemory fresh r = tt

records-front : (start : State) (head : List ℕ) (old new : Devices) (end : RunEnd)
    → Records start head old new end → Front start head old new
records-front start head old new (End reason code) r =
    whole-front start head old new reason code r.0
records-front start head old new ConsoleRead r = r.0
records-front start head old new ConsoleWrite r = r.0
records-front start head old new LogWrite r = r.0
records-front start head old new NoMemory r = r

-- what a recording's devices tell, once they are given back
pub recorded-whole : (h : Header) (f : Loaded) (l k m : Ledger) (old new : Devices) (end : RunEnd)
    (result : RecordingEnd) → IsFresh l old
    → Records (start_of h f) (header_text h) old new end → m ≡ closed k new
    → result ≡ recording_end_of end
    → IfEnds result (λ reason code. HasWhole h f l m reason code)
recorded-whole h f l k m old new end result fresh r back is =
    subst (λ (z : RecordingEnd). IfEnds z (λ reason code. HasWhole h f l m reason code)) (sym is)
    (subst (λ (z : Ledger). IfEnds (recording_end_of end)
    (λ reason code. HasWhole h f l z reason code)) (sym back)
    (records-whole h f l k old new end fresh r))

pub recorded-front : (h : Header) (f : Loaded) (l k m : Ledger) (old new : Devices) (end : RunEnd)
    → IsFresh l old → Records (start_of h f) (header_text h) old new end → m ≡ closed k new
    → HasFront h f l m
recorded-front h f l k m old new end fresh r back =
    let start = start_of h f in
    let front = records-front start (header_text h) old new end r in
    subst (λ (z : Ledger). HasFront h f l z) (sym back)
    (front-started start (header_text h) l k old new fresh front)

-- ---- a run that the console or its input stopped

took-started : (shown : Extent) (old new : Option (List ℕ)) (bytes : List ℕ) → StartsEmpty old
    → Took shown old new bytes → Took shown (Some []) new bytes
took-started Entire old new bytes fresh t = Takes-start old new bytes fresh t
took-started Part old new bytes fresh t = TakesFront-start old new bytes fresh t

stop-started : (shown : Extent) (start : State) (head : List ℕ) (l k : Ledger) (old new : Devices)
    → IsFresh l old → ToStop shown start head old new
    → ToStop shown start head (opened_with l) (returned (closed k new))
stop-started shown start head l k old new fresh s = record {
  events = s.events;
  last = s.last;
  are = s.are;
  runs = s.runs;
  stopped = s.stopped;
  log = Takes-start old.log new.log _ fresh.log s.log;
  console = took-started shown old.console new.console _ fresh.console s.console;
  input = subst (λ (o : Option (List ℕ)). Came Part o new.input s.events) fresh.input s.input;
  clock = record {
    more = s.clock.more;
    gave = Takes-start old.gave new.gave _ fresh.gave s.clock.gave;
    all = λ same. absurd cc;
  };
}

-- a role's count stood, so its sink has none
own-stood : (a n : ℕ) → Stood a (both a n) → Stood 0 n
own-stood a n stood = omega (arith, stood)

log-stood : (l k : Ledger) (old new : Devices) → IsFresh l old → at k.faults LogOut ≡ at l.faults LogOut
    → Stood (at l.faults LogOut) (at (closed k new).faults LogOut)
    → Stood old.log_faults new.log_faults
log-stood l k old new fresh same stood =
    subst (λ (z : ℕ). Stood z new.log_faults) (sym fresh.log_faults)
    (own-stood (at l.faults LogOut) new.log_faults
    (subst (λ (z : ℕ). Stood (at l.faults LogOut) (both z new.log_faults)) same stood))

records-stop : (h : Header) (f : Loaded) (l k : Ledger) (old new : Devices) (end : RunEnd)
    → IsFresh l old → at k.faults LogOut ≡ at l.faults LogOut
    → Records (start_of h f) (header_text h) old new end
    → Stood (at l.faults LogOut) (at (closed k new).faults LogOut)
    → IfStops (recording_end_of end) (λ shown. HasStop shown h f l (closed k new))
records-stop h f l k old new (End reason code) fresh same r stood = tt
records-stop h f l k old new ConsoleRead fresh same r stood =
    stop-started Entire (start_of h f) (header_text h) l k old new fresh
    (r.2 (log-stood l k old new fresh same stood))
records-stop h f l k old new ConsoleWrite fresh same r stood =
    stop-started Part (start_of h f) (header_text h) l k old new fresh
    (r.2 (log-stood l k old new fresh same stood))
records-stop h f l k old new LogWrite fresh same r stood = tt
records-stop h f l k old new NoMemory fresh same r stood = tt

pub recorded-stop : (h : Header) (f : Loaded) (l k m : Ledger) (old new : Devices) (end : RunEnd)
    (result : RecordingEnd) → IsFresh l old → at k.faults LogOut ≡ at l.faults LogOut
    → Records (start_of h f) (header_text h) old new end → m ≡ closed k new
    → result ≡ recording_end_of end → Stood (at l.faults LogOut) (at m.faults LogOut)
    → IfStops result (λ shown. HasStop shown h f l m)
recorded-stop h f l k m old new end result fresh same r back is stood =
    subst (λ (z : RecordingEnd). IfStops z (λ shown. HasStop shown h f l m)) (sym is)
    (subst (λ (z : Ledger). IfStops (recording_end_of end) (λ shown. HasStop shown h f l z))
    (sym back)
    (records-stop h f l k old new end fresh same r
    (subst (λ (z : Ledger). Stood (at l.faults LogOut) (at z.faults LogOut)) back stood)))

-- where nothing was opened, nothing was stopped
pub opens-no-stop : (end : RecordingEnd) (P : Extent → Type 0) → OpensNothing end → IfStops end P
opens-no-stop (ends.End reason code) P none = absurd none
opens-no-stop ends.CannotOpenLog P none = tt
opens-no-stop ends.ConsoleUnreadable P none = absurd none
opens-no-stop ends.ConsoleFailed P none = absurd none
opens-no-stop ends.LogFailed P none = absurd none
opens-no-stop ends.NoMemory P none = tt
