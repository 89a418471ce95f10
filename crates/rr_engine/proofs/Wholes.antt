-- A whole recording: its header, its rounds, and the rest of its log.
use Rattle.std.proofs.Common.{◌≡◌, ℕ, ◌^◌, true, false, List, [], ◌++◌, take, refl, sym, ap, ◌∙◌, subst, inl, inr, append-nil}
use Rattle.std.specs.Prelude.{Some, None, IfSome, Ok, Err}
use Rattle.std.specs.declared.option.Option.{Option}
use Rattle.std.specs.Io.KnownBytes.{IsAtEnd}
use Rattle.outside.specs.Causes.{Rose, Stood}
use Rattle.outside.specs.Told.{Takes, TakesFront}
use Rattle.outside.proofs.ToldLemmas.{Takes-trans, TakesFront-none, TakesFront-after, TakesFront-longer}
use Rattle.event_log.specs.Spelling.{texts}
use Rattle.event_log.specs.declared.event.Event.{Event}
use Rattle.io_workers.specs.Intake.{Intake, Progress, none_given}
use Rattle.event_log.specs.Writing.{Writer}
use Rattle.board.specs.declared.control.Ending.{Ending}
use Rattle.board.specs.declared.control.Window.TheVariants as window
use Rattle.board.specs.State.{State}
use Rattle.board.specs.declared.config.Config.{Config}
use Rattle.board.specs.Reset.{reset}
use Rattle.elf_load.specs.declared.pieces.Loaded.{Loaded}
use Rattle.rr_engine.specs.declared.ends.RunEnd.{RunEnd}
use Rattle.board.specs.Taken.{Taken, with_taken}
use Rattle.board.proofs.TakenLaws.{due-with}
use Rattle.rr_engine.specs.declared.ends.Break.{Break}
use Rattle.rr_engine.specs.declared.ends.Break.TheVariants.{ConsoleRead, ConsoleWrite, LogWrite, NoMemory}
use Rattle.rr_engine.specs.declared.ends.RunEnd.TheVariants as ends
use Rattle.rr_engine.specs.Stand.{Stand, Devices}
use Rattle.rr_engine.specs.Recording.{clock_values, Gave, IsStopped, Recorded, IsLogged, Broke, Goes, Took, end_of}
use Rattle.rr_engine.specs.Outputs.{Sent}
use Rattle.rr_engine.specs.Owed.{Rests}
use Rattle.rr_engine.specs.Input.{Extent, Entire, Part, Paid, typed, unread, Heard, Read}
use Rattle.rr_engine.specs.Feed.{Feed, Source, IsOver, IsSound, Unfailed, Failed}
use Rattle.rr_engine.specs.Windows.{Remainder, nothing_left, Hears}
use Rattle.rr_engine.proofs.Feeding.{same-unfailed}
use Rattle.rr_engine.proofs.Sourcing.{came-all, to-source, Came as SourceCame}
use Rattle.rr_engine.specs.Runs.{Came, Front, ToStop, Records}
use Rattle.rr_engine.proofs.Hearing.{first-heard, all-heard, read-none}
use Rattle.rr_engine.proofs.Endings.{goes-on, ended-own}
use Rattle.rr_engine.proofs.Joining.{run-none, gave-none, goes-then}
use Rattle.rr_engine.proofs.Stopping.{flushed-stopped, sent-flushed}

-- the devices of a stand whose inputs a source gives
abbrev pub devices : Stand → Intake → Devices
devices p i = record {
  log = p.log.taken;
  log_faults = p.log.faults;
  console = p.console;
  console_faults = p.console_faults;
  input = i.left;
  input_faults = i.faults;
  gave = p.gave;
}

-- what came of an input that wasn't read yet
came : (w : Extent) (i j : Intake) (events : List Event) → i.progress.count ≡ 0
    → Read w i.left j.left events
    → Heard w Paid (unread i) events (unread j) → Came w i.left j.left events
came w i j events none read heard = record { read = read; heard = first-heard w i (unread j) events none heard }

-- the same, where the feed is a source
came-of : (f g : Feed) (i j : Intake) (es : List Event) (d : Remainder) → f ≡ Source i → g ≡ Source j → IsSound f → Hears nothing_left f es d g
    → SourceCame Paid i j es d
came-of f g i j es d fi gj sound h =
    came-all i j es d (subst IsSound fi sound)
    (subst (λ (z : Feed). Hears nothing_left (Source i) es d z) gj (subst (λ (z : Feed). Hears nothing_left z es d g) fi h))

came-part : (f g : Feed) (i j : Intake) (es : List Event) (d : Remainder) → i.progress.count ≡ 0 → f ≡ Source i → g ≡ Source j
    → IsSound f → Hears nothing_left f es d g → Came Part i.left j.left es
came-part f g i j es d none fi gj sound h = let c = came-of f g i j es d fi gj sound h in came Part i j es none c.read c.part

came-entire : (f g : Feed) (i j : Intake) (es : List Event) (d : Remainder) → i.progress.count ≡ 0 → f ≡ Source i → g ≡ Source j
    → IsSound f → d ≡ nothing_left → Hears nothing_left f es d g
    → Came Entire i.left j.left es × (IsAtEnd (unread j) → IfSome i.left (λ bytes. typed es ≡ take (2 ^ 40) bytes))
came-entire f g i j es d none fi gj sound whole h =
    let c = (came-of f g i j es d fi gj sound h).all whole in
    (came Entire i j es none c.1 c.0, λ end. all-heard i (unread j) es none c.0 end)

same-source : (f g : Feed) (i j : Intake) → f ≡ Source i → g ≡ Source j → g ≡ f → j ≡ i
same-source f g i j fi gj same = to-source j i (sym gj ∙ same ∙ fi)

unfailed-sources : (f g : Feed) (i j : Intake) → f ≡ Source i → g ≡ Source j → Unfailed f g → j.faults ≡ i.faults
unfailed-sources f g i j fi gj c = subst (λ (z : Feed). Unfailed (Source i) z) gj (subst (λ (z : Feed). Unfailed z g) fi c)

failed-sources : (f g : Feed) (i j : Intake) → f ≡ Source i → g ≡ Source j → Failed f g → Rose i.faults j.faults
failed-sources f g i j fi gj c = subst (λ (z : Feed). Failed (Source i) z) gj (subst (λ (z : Feed). Failed z g) fi c)

nothing-came : (a : Option (List ℕ)) → Came Part a a []
nothing-came None = record { read = read-none Part None; heard = tt }
nothing-came (Some x) = record {
  read = read-none Part (Some x);
  heard = (take (2 ^ 40) x, (λ whole. absurd cc, refl));
}

-- nothing was recorded but a front of the head
head-front : (p q : Stand) (i j : Intake) (head : List ℕ) → TakesFront p.log.taken q.log.taken head → q.console ≡ p.console → j ≡ i
    → q.gave ≡ p.gave → Front p.machine head (devices p i) (devices q j)
head-front p q i j head front console input gave = record {
  events = [];
  last = p.machine;
  are = tt;
  runs = run-none p.machine;
  log = subst (TakesFront p.log.taken q.log.taken) (sym (append-nil head)) front;
  console = subst (λ (z : Option (List ℕ)). TakesFront p.console z p.machine.devices.uart.out) (sym console)
      (TakesFront-none p.console p.machine.devices.uart.out);
  input = subst (λ (z : Intake). Came Part i.left z.left []) (sym input) (nothing-came i.left);
  clock = subst (λ (z : Option (List ℕ)). Gave Part p.gave z []) (sym gave) (gave-none Part p.gave);
}

pub no-header : (p q : Stand) (i j : Intake) (head : List ℕ) (b : Break) → p.feed ≡ Source i → q.feed ≡ Source j
    → Sent p q head (Err b) → Records p.machine head (devices p i) (devices q j) (end_of b)
no-header p q i j head LogWrite fi gj s = (
  head-front p q i j head s.0 (ap (λ (z : Stand). z.console) s.1)
      (same-source p.feed q.feed i j fi gj (ap (λ (z : Stand). z.feed) s.1)) (ap (λ (z : Stand). z.gave) s.1),
  s.2,
  ap (λ (z : Stand). z.console_faults) s.1,
  unfailed-sources p.feed q.feed i j fi gj (same-unfailed p.feed q.feed (ap (λ (z : Stand). z.feed) s.1)),
)
no-header p q i j head NoMemory fi gj s =
    head-front p q i j head (subst (λ (z : Stand). TakesFront p.log.taken z.log.taken head) (sym s) (TakesFront-none p.log.taken head))
    (ap (λ (z : Stand). z.console) s) (same-source p.feed q.feed i j fi gj (ap (λ (z : Stand). z.feed) s)) (ap (λ (z : Stand). z.gave) s)
no-header p q i j head ConsoleRead fi gj s = absurd s
no-header p q i j head ConsoleWrite fi gj s = absurd s

-- bytes that were taken play no part in where the run was stopped
stopped-with : (shown : Extent) (front : Taken) (g : State) → IsStopped shown g
    → IsStopped shown (with_taken front g)
stopped-with shown front g (inl ended) = inl ended
stopped-with shown front g (inr owed) =
    inr (owed.0, owed.1, owed.2, owed.3, due-with front g ∙ owed.4, owed.5)

-- bytes that were shown, where no more came after them
shown-with : (shown : Extent) (a b : Option (List ℕ)) (bytes more : List ℕ)
    → (shown ≡ Entire → more ≡ []) → Took shown a b bytes
    → Took shown a b (bytes ++ more)
shown-with Entire a b bytes more none t =
    subst (Takes a b) (sym (ap (λ z. bytes ++ z) (none refl) ∙ append-nil bytes)) t
shown-with Part a b bytes more none t = TakesFront-longer a b bytes more t

-- a recording that its own thread reads for, whose input wasn't read yet
pub record Fresh (p : Stand) (i : Intake) : Type 0 where
  pub feed : p.feed ≡ Source i
  pub count : i.progress.count ≡ 0
  pub sound : IsSound p.feed

-- the header was written, and the recording broke off
front-after : (p : Stand) (i j : Intake) (w : Writer) (r : Stand) (head : List ℕ) → Fresh p i → r.feed ≡ Source j
    → Takes p.log.taken w.taken head → w.unsent.held ≡ []
    → Recorded Part nothing_left nothing_left (record p { log = w }) r → Front p.machine head (devices p i) (devices r j)
front-after p i j w r head fresh gj taken none a = record {
  events = a.events;
  last = with_taken a.taken a.last;
  are = a.are;
  runs = a.runs;
  log = TakesFront-after p.log.taken w.taken r.log.taken head (texts a.events) taken
      (subst (λ (z : List ℕ). TakesFront w.taken r.log.taken (z ++ texts a.events)) none a.log);
  console = TakesFront-longer p.console r.console a.taken.out a.last.devices.uart.out a.console;
  input = came-part p.feed r.feed i j a.events a.left fresh.count fresh.feed gj fresh.sound a.heard;
  clock = a.clock;
}

-- the header was written, and all of the rest, up to where the run was stopped
stopped-after : (shown : Extent) (p : Stand) (i j : Intake) (w : Writer) (r : Stand) (head : List ℕ) → Fresh p i
    → r.feed ≡ Source j → Takes p.log.taken w.taken head → w.unsent.held ≡ []
    → IsLogged shown nothing_left (record p { log = w }) r
    → ToStop shown p.machine head (devices p i) (devices r j)
stopped-after shown p i j w r head fresh gj taken none a = record {
  events = a.events;
  last = with_taken a.taken a.last;
  are = a.are;
  runs = a.runs;
  stopped = stopped-with shown a.taken a.last a.stopped;
  log = Takes-trans p.log.taken w.taken r.log.taken head (texts a.events) taken
      (subst (λ (z : List ℕ). Takes w.taken r.log.taken (z ++ texts a.events)) none a.log);
  console = shown-with shown p.console r.console a.taken.out a.last.devices.uart.out a.all a.console;
  input = came-part p.feed r.feed i j a.events a.left fresh.count fresh.feed gj fresh.sound a.heard;
  clock = a.clock;
}

broken : (p : Stand) (i j : Intake) (w : Writer) (r : Stand) (head : List ℕ) (b : Break) → Fresh p i → r.feed ≡ Source j
    → Takes p.log.taken w.taken head → w.unsent.held ≡ []
    → w.faults ≡ p.log.faults → Goes nothing_left nothing_left (record p { log = w }) r (Err b)
    → Records p.machine head (devices p i) (devices r j) (end_of b)
broken p i j w r head ConsoleRead fresh gj taken none faults h = (
  front-after p i j w r head fresh gj taken none h.0,
  failed-sources p.feed r.feed i j fresh.feed gj h.1.0,
  λ stood. stopped-after Entire p i j w r head fresh gj taken none
      (h.1.1 (subst (λ (z : ℕ). Stood z r.log.faults) (sym faults) stood)),
  h.1.2,
)
broken p i j w r head ConsoleWrite fresh gj taken none faults h = (
  front-after p i j w r head fresh gj taken none h.0,
  h.1.0,
  λ stood. stopped-after Part p i j w r head fresh gj taken none
      (h.1.1 (subst (λ (z : ℕ). Stood z r.log.faults) (sym faults) stood)),
  unfailed-sources p.feed r.feed i j fresh.feed gj h.1.2,
)
broken p i j w r head LogWrite fresh gj taken none faults h = (
  front-after p i j w r head fresh gj taken none h.0,
  subst (λ (z : ℕ). Rose z r.log.faults) faults h.1.0,
  h.1.1,
  unfailed-sources p.feed r.feed i j fresh.feed gj h.1.2,
)
broken p i j w r head NoMemory fresh gj taken none faults h = front-after p i j w r head fresh gj taken none h.0

pub run-broken : (p q r : Stand) (i j : Intake) (head : List ℕ) (b : Break) → Fresh p i → r.feed ≡ Source j → Sent p q head (Ok tt)
    → q.log.unsent.held ≡ []
    → Goes nothing_left nothing_left q r (Err b) → Records p.machine head (devices p i) (devices r j) (end_of b)
run-broken p q r i j head b fresh gj s none h =
    broken p i j q.log r head b fresh gj s.0 none s.2
    (subst (λ (z : Stand). Goes nothing_left nothing_left z r (Err b)) s.1 h)

-- the rest of the log wasn't written whole
sent-broke : (q r : Stand) (bytes : List ℕ) (b : Break) → Sent q r bytes (Err b) → Broke nothing_left q r b
sent-broke q r bytes LogWrite s = (
  s.2,
  ap (λ (z : Stand). z.console_faults) s.1,
  same-unfailed q.feed r.feed (ap (λ (z : Stand). z.feed) s.1),
)
sent-broke q r bytes NoMemory s = tt
sent-broke q r bytes ConsoleRead s = absurd s
sent-broke q r bytes ConsoleWrite s = absurd s

pub rest-broken : (p q r t : Stand) (i j : Intake) (head : List ℕ) (b : Break) → Fresh p i → t.feed ≡ Source j → Sent p q head (Ok tt)
    → q.log.unsent.held ≡ [] → Recorded Entire nothing_left nothing_left q r
    → Sent r t r.log.unsent.held (Err b) → Records p.machine head (devices p i) (devices t j) (end_of b)
rest-broken p q r t i j head b fresh gj s none a rest =
    let stopped = (flushed-stopped nothing_left r t (sent-flushed r t (Err b) rest)).recorded in
    run-broken p q t i j head b fresh gj s none
    (goes-then nothing_left nothing_left nothing_left q r t (Err b) a (stopped, sent-broke r t r.log.unsent.held b rest))

-- ---- all went well

whole-log : (a b c d : Option (List ℕ)) (head written held text : List ℕ) → Takes a b head → Takes b c written → Takes c d held
    → written ++ held ≡ text → Takes a d (head ++ text)
whole-log a b c d head written held text p q r e =
    Takes-trans a b d head text p (subst (Takes b d) e (Takes-trans b c d written held q r))

wakeless-end : (r : Stand) (j : Intake) (ending : Ending) → r.feed ≡ Source j → Rests r → r.machine.control.ended ≡ Some ending
    → ending.reason ≡ 1 → IsAtEnd (unread j)
wakeless-end r j ending gj rests ended one =
    let over : IsOver r.feed = rests.wakeless ending.code (ended ∙ ap (λ z. some_ending z ending.code) one) in
    let sound : IsSound (Source j) = subst IsSound gj rests.sound in
    let is_over : IsOver (Source j) = subst IsOver gj over in
    sound is_over
  where
    some_ending : ℕ → ℕ → Option Ending
    some_ending reason code = Some (record { reason = reason; code = code })

whole-after : (p : Stand) (i j : Intake) (w : Writer) (r : Stand) (t : Writer) (head : List ℕ) (ending : Ending) → Fresh p i
    → r.feed ≡ Source j → Takes p.log.taken w.taken head
    → w.unsent.held ≡ [] → w.faults ≡ p.log.faults → Recorded Entire nothing_left nothing_left (record p { log = w }) r
    → Takes r.log.taken t.taken r.log.unsent.held → t.faults ≡ r.log.faults → r.machine.control.ended ≡ Some ending → Rests r
    → Records p.machine head (devices p i) (devices (record r { log = t }) j) (ends.End ending.reason ending.code)
whole-after p i j w r t head ending fresh gj taken none faults a rest same ended rests =
    let own_end = ended-own r.machine ending ended rests.own in
    let stands : a.last ≡ r.machine = a.stands refl in
    let out : a.last.devices.uart.out ≡ [] = ap (λ (z : State). z.devices.uart.out) stands ∙ own_end.2 in
    let input = came-entire p.feed r.feed i j a.events a.left fresh.count fresh.feed gj fresh.sound (a.leaves refl) a.heard in (
      record {
        events = a.events;
        last = with_taken a.taken a.last;
        are = a.are;
        runs = a.runs;
        ended = ap (λ (z : State). z.control.ended) stands ∙ ended;
        log = whole-log p.log.taken w.taken r.log.taken t.taken head a.log.written r.log.unsent.held (texts a.events)
            taken a.log.taken rest (a.log.whole ∙ ap (λ z. z ++ texts a.events) none);
        console = subst (Takes p.console r.console) (sym (ap (λ z. a.taken.out ++ z) out ∙ append-nil a.taken.out)) a.console;
        input = input.0;
        all_came = λ one. input.1 (wakeless-end r j ending gj rests ended one);
        clock = subst (Takes p.gave r.gave) (ap (λ z. clock_values a.events ++ z) (a.clock.all refl) ∙ append-nil (clock_values a.events))
            a.clock.gave;
      },
      (own_end.0, own_end.1),
      same ∙ a.log_faults ∙ faults,
      a.console_faults,
      unfailed-sources p.feed r.feed i j fresh.feed gj a.steady,
    )

pub run-whole : (p q r t : Stand) (i j : Intake) (head : List ℕ) (ending : Ending) → Fresh p i → t.feed ≡ Source j → Sent p q head (Ok tt)
    → q.log.unsent.held ≡ [] → Recorded Entire nothing_left nothing_left q r
    → Sent r t r.log.unsent.held (Ok tt) → t.machine.control.ended ≡ Some ending → Rests r
    → Records p.machine head (devices p i) (devices t j) (ends.End ending.reason ending.code)
run-whole p q r t i j head ending fresh tj s none a rest ended rests =
    let last : r.machine.control.ended ≡ Some ending = sym (ap (λ (z : Stand). z.machine.control.ended) rest.1) ∙ ended in
    subst (λ (z : Stand). Records p.machine head (devices p i) (devices z j) (ends.End ending.reason ending.code)) (sym rest.1)
    (whole-after p i j q.log r t.log head ending fresh (sym (ap (λ (z : Stand). z.feed) rest.1) ∙ tj) s.0 none s.2
    (subst (λ (z : Stand). Recorded Entire nothing_left nothing_left z r) s.1 a)
    rest.0 rest.2 last rests)

-- nothing was recorded
pub nothing-recorded : (g : State) (head : List ℕ) (d : Devices) → Front g head d d
nothing-recorded g head d = record {
  events = [];
  last = g;
  are = tt;
  runs = run-none g;
  log = TakesFront-none d.log (head ++ []);
  console = TakesFront-none d.console g.devices.uart.out;
  input = nothing-came d.input;
  clock = gave-none Part d.gave;
}

-- at its start a run hasn't ended, and no window is open
pub reset-going : (c : Config) (f : Loaded) → (reset c f).control.ended ≡ None
unfolding reset
reset-going c f = refl

pub reset-shut : (c : Config) (f : Loaded) → (reset c f).control.window ≡ window.Shut
unfolding reset
reset-shut c f = refl

-- so nothing is to be said of the input yet
pub starts : (p : Stand) → p.machine.control.ended ≡ None → p.machine.control.window ≡ window.Shut → IsSound p.feed → Rests p
starts p going shut sound = record {
  own = goes-on p.machine going;
  silent = λ w. absurd (not-idle (sym shut ∙ w));
  idle = λ w. absurd (not-idle (sym shut ∙ w));
  wakeless = λ c is. absurd (not-ended c (sym going ∙ is));
  sound = sound;
}
  where
    not-idle : window.Shut ≡ window.Idle false → ⊥
    not-idle e = cc

    none : Option Ending
    none = None

    some : ℕ → Option Ending
    some c = Some (record { reason = 1; code = c })

    not-ended : (c : ℕ) → none ≡ some c → ⊥
    not-ended c e = cc

-- an input that wasn't read yet
pub unread-sound : (i : Intake) → i.progress ≡ none_given → IsSound (Source i)
unread-sound i unread_ = λ is. absurd (not-over (sym (ap (λ (z : Progress). z.ended) unread_) ∙ is))
  where
    not-over : false ≡ true → ⊥
    not-over e = cc

pub fresh : (p : Stand) (i : Intake) → p.feed ≡ Source i → i.progress ≡ none_given → Fresh p i
fresh p i fi unread_ = record {
  feed = fi;
  count = ap (λ (z : Progress). z.count) unread_;
  sound = subst IsSound (sym fi) (unread-sound i unread_);
}

-- and what was sent changes nothing of that
pub sent-rests : (p q : Stand) (bytes : List ℕ) → Sent p q bytes (Ok tt) → Rests p → Rests q
sent-rests p q bytes s rests = subst Rests (sym s.1) (record {
  own = rests.own;
  silent = rests.silent;
  idle = rests.idle;
  wakeless = rests.wakeless;
  sound = rests.sound;
})

-- the same of the machine that a header and a firmware give
pub started : (g h : State) (head : List ℕ) (old new : Devices) (e : RunEnd) → g ≡ h → Records g head old new e → Records h head old new e
started g h head old new e same r = subst (λ (z : State). Records z head old new e) same r
