-- A recording that is stopped.
use Rattle.std.proofs.Common.{◌≡◌, ◌≢◌, ℕ, true, false, arith, List, [], ◌∷◌, ◌++◌, refl, sym, ap, ◌∙◌, subst, append-nil, inl, inr}
use Rattle.std.specs.Prelude.{Some, None, Result, Ok, Err}
use Rattle.std.specs.declared.option.Option.{Option}
use Rattle.outside.specs.Causes.{Rose, Stood}
use Rattle.outside.specs.Told.{Takes, TakesFront}
use Rattle.outside.proofs.ToldLemmas.{Takes-refl, Takes-trans, TakesFront-none, TakesFront-all, TakesFront-after, TakesFront-longer}
use Rattle.event_log.specs.declared.event.Event.{Event}
use Rattle.event_log.specs.declared.event.Event.TheVariants as event
use Rattle.event_log.specs.Spelling.{text, IsEvent}
use Rattle.board.specs.State.{State}
use Rattle.board.specs.Runs.{step, run}
use Rattle.board.specs.Due.{due}
use Rattle.board.specs.declared.due.Due.TheVariants as due_is
use Rattle.board.proofs.TakenLaws.{due-with}
use Rattle.board.specs.Taken.{out_alone, joined, with_taken, without_out}
use Rattle.rr_engine.specs.declared.ends.Break.{Break}
use Rattle.rr_engine.specs.declared.ends.Break.TheVariants.{ConsoleRead, ConsoleWrite, LogWrite, NoMemory}
use Rattle.rr_engine.specs.Stand.{Stand}
use Rattle.rr_engine.specs.Input.{Extent, Entire, Part}
use Rattle.rr_engine.specs.Feed.{Feed, Unfailed}
use Rattle.rr_engine.specs.Windows.{Remainder, Left, nothing_left, Hears}
use Rattle.rr_engine.specs.Recording.{clock_value, clock_values, Gave, Recorded, Goes, Stopped, IsStopped, IsLogged, Stops, or_memory}
use Rattle.rr_engine.specs.Outputs.{Notes, Shows, Flushed, Sent}
use Rattle.rr_engine.specs.Owed.{Enters, Rests}
use Rattle.rr_engine.proofs.Feeding.{hears-none, unfailed-same, same-unfailed}
use Rattle.rr_engine.proofs.Joining.{some_state, run-none, run-one, run-behind, appended-none, gave-none}
use Rattle.rr_engine.proofs.Entering.{rest-of}
use Rattle.rr_engine.proofs.Idling.{wakeless}

-- console bytes that were taken stand before
pub taken-before : (g : State) → with_taken (out_alone g.devices.uart.out) (without_out g) ≡ g
taken-before g =
    ap (λ z. record g { devices = record g.devices { uart = record g.devices.uart { out = z } } }) (append-nil g.devices.uart.out)

-- the console got its bytes
shown-to : (o : Remainder) (p : Stand) (console : Option (List ℕ)) → p.log.unsent.failed ≡ false
    → Takes p.console console p.machine.devices.uart.out
    → Recorded Entire o o p (record p { machine = without_out p.machine; console = console })
shown-to o p console works t = record {
  events = [];
  taken = out_alone p.machine.devices.uart.out;
  last = without_out p.machine;
  are = tt;
  runs = run-none p.machine ∙ ap (λ z. some_state z) (sym (taken-before p.machine));
  stands = λ same. refl;
  log = appended-none p.log works;
  log_faults = refl;
  console = t;
  console_faults = refl;
  left = o;
  heard = hears-none o p.feed;
  leaves = λ same. refl;
  steady = unfailed-same p.feed;
  clock = gave-none Entire p.gave;
}

pub shown : (o : Remainder) (p q : Stand) → p.log.unsent.failed ≡ false → Shows p q (Ok tt)
    → Recorded Entire o o p q
shown o p q works s = subst (Recorded Entire o o p) (sym s.1) (shown-to o p q.console works s.0)

-- what was held of the log was written, and nothing else came
pub flushed-stopped : (o : Remainder) (p q : Stand) → Flushed p q → Stopped o p q
flushed-stopped o p q f = record {
  recorded = record {
    events = [];
    taken = out_alone [];
    last = p.machine;
    are = tt;
    runs = run-none p.machine;
    stands = λ same. absurd cc;
    log = subst (TakesFront p.log.taken q.log.taken) (sym (append-nil p.log.unsent.held)) f.front;
    log_faults = tt;
    console = subst (λ (z : Stand). TakesFront p.console z.console []) (sym f.rest) (TakesFront-none p.console []);
    console_faults = tt;
    left = o;
    heard = subst (λ (z : Stand). Hears o p.feed [] o z.feed) (sym f.rest) (hears-none o p.feed);
    leaves = λ same. absurd cc;
    steady = tt;
    clock = subst (λ (z : Stand). Gave Part p.gave z.gave []) (sym f.rest) (gave-none Part p.gave);
  };
  silent = refl;
  console = ap (λ z. z.console) f.rest;
  console_faults = ap (λ z. z.console_faults) f.rest;
  feed = ap (λ z. z.feed) f.rest;
}

-- the console's sink failed, and the recording was stopped
spill-to : (o : Remainder) (p r : Stand) (console : Option (List ℕ)) (faults : ℕ)
    → TakesFront p.console console p.machine.devices.uart.out
    → Stopped o (record p { machine = without_out p.machine; console = console; console_faults = faults }) r
    → Recorded Part o nothing_left p r
spill-to o p r console faults t s = record {
  events = s.recorded.events;
  taken = joined (out_alone p.machine.devices.uart.out) s.recorded.taken;
  last = s.recorded.last;
  are = s.recorded.are;
  runs =
      ap (λ z. run z s.recorded.events) (sym (taken-before p.machine))
      ∙ run-behind (out_alone p.machine.devices.uart.out) s.recorded.taken s.recorded.events (without_out p.machine) s.recorded.last
      s.recorded.runs;
  stands = λ same. absurd cc;
  log = s.recorded.log;
  log_faults = tt;
  console = subst (λ (z : Option (List ℕ)). TakesFront p.console z (p.machine.devices.uart.out ++ s.recorded.taken.out)) (sym s.console)
      (TakesFront-longer p.console console p.machine.devices.uart.out s.recorded.taken.out t);
  console_faults = tt;
  left = s.recorded.left;
  heard = s.recorded.heard;
  leaves = λ same. absurd cc;
  steady = tt;
  clock = s.recorded.clock;
}

spilled : (o : Remainder) (p q r : Stand) → Shows p q (Err ConsoleWrite) → Stopped o q r
    → Recorded Part o nothing_left p r
spilled o p q r s stopped = spill-to o p r q.console q.console_faults s.0
    (subst (λ (z : Stand). Stopped o z r) s.1 stopped)

spill-rose : (o : Remainder) (p q r : Stand) → Shows p q (Err ConsoleWrite) → Stopped o q r
    → Rose p.console_faults r.console_faults
spill-rose o p q r s stopped =
    subst (λ (z : ℕ). Rose p.console_faults z) (sym stopped.console_faults) s.2

spill-unfailed : (o : Remainder) (p q r : Stand) → Shows p q (Err ConsoleWrite) → Stopped o q r
    → Unfailed p.feed r.feed
spill-unfailed o p q r s stopped =
    same-unfailed p.feed r.feed (stopped.feed ∙ ap (λ (z : Stand). z.feed) s.1)

-- a count that rose didn't stand
pub not-both : (before now : ℕ) → Rose before now → Stood before now → ⊥
not-both before now rose stood = omega (arith, rose, stood)

-- what a write of all that is held came to
pub sent-flushed : (p q : Stand) (x : Result (Unit {0}) Break) → Sent p q p.log.unsent.held x → Flushed p q
sent-flushed p q (Ok done) s = record { front = TakesFront-all p.log.taken q.log.taken p.log.unsent.held s.0; rest = s.1 }
sent-flushed p q (Err LogWrite) s = record { front = s.0; rest = s.1 }
sent-flushed p q (Err NoMemory) s = record {
  front = subst (λ (z : Stand). TakesFront p.log.taken z.log.taken p.log.unsent.held) (sym s) (TakesFront-none p.log.taken p.log.unsent.held);
  rest = s ∙ ap (λ (z : Stand). record p { log = z.log }) (sym s);
}
sent-flushed p q (Err ConsoleRead) s = absurd s
sent-flushed p q (Err ConsoleWrite) s = absurd s

-- the clock gave no value for an event without one
no-value : (p r : Stand) (e : Event) → clock_value e ≡ [] → r.gave ≡ p.gave
    → Gave Part p.gave r.gave (clock_values (e ∷ []))
no-value p r e none gave = record {
  more = [];
  gave = subst (λ (z : Option (List ℕ)). Takes p.gave z (clock_values (e ∷ []) ++ [])) (sym gave)
      (subst (λ (z : List ℕ). Takes p.gave p.gave z)
      (sym (append-nil (clock_values (e ∷ [])) ∙ append-nil (clock_value e) ∙ none))
      (Takes-refl p.gave));
  all = λ same. refl;
}

-- an event of a stop: no input comes with it
abbrev pub EndsInput : Event → Type 0
EndsInput (event.End reason code) = Unit {0}
EndsInput other = ⊥

-- END stops a window, whatever it has to take
no-part : (o : Remainder) (p r : Stand) (e : Event) → EndsInput e → r.feed ≡ p.feed
    → Hears o p.feed (e ∷ []) (Left [] true) r.feed
no-part o p r (event.End reason code) ends same =
    subst (λ (z : Feed). Hears o p.feed (event.End reason code ∷ []) (Left [] true) z) (sym same)
    (inr (p.feed, inl refl, hears-none (Left [] true) p.feed))
no-part o p r e ends same = absurd ends

-- an event was entered, and the log ended after it
noted-stopped : (o : Remainder) (p : Stand) (m : State) (e : Event) (r : Stand) (after : Option (List ℕ))
    → step p.machine e ≡ Some m → IsEvent e
    → EndsInput e → clock_value e ≡ [] → TakesFront p.log.taken r.log.taken (p.log.unsent.held ++ text e)
    → r.console ≡ p.console → r.console_faults ≡ p.console_faults → r.feed ≡ p.feed → r.gave ≡ p.gave → Stopped o p r
noted-stopped o p m e r after s is ends none front console faults feed gave = record {
  recorded = record {
    events = e ∷ [];
    taken = out_alone [];
    last = m;
    are = (is, tt);
    runs = run-one p.machine m e s;
    stands = λ same. absurd cc;
    log = subst (λ (z : List ℕ). TakesFront p.log.taken r.log.taken (p.log.unsent.held ++ z)) (sym (append-nil (text e))) front;
    log_faults = tt;
    console = subst (λ (z : Option (List ℕ)). TakesFront p.console z []) (sym console) (TakesFront-none p.console []);
    console_faults = tt;
    left = Left [] true;
    heard = no-part o p r e ends feed;
    leaves = λ same. absurd cc;
    steady = tt;
    clock = no-value p r e none gave;
  };
  silent = refl;
  console = console;
  console_faults = faults;
  feed = feed;
}

unmoved : (o : Remainder) (p : Stand) → Stopped o p p
unmoved o p = flushed-stopped o p p (record { front = TakesFront-none p.log.taken p.log.unsent.held; rest = refl })

-- memory was refused after the machine had taken an event
moved : (o : Remainder) (p : Stand) (m : State) → Stopped o p (record p { machine = m })
moved o p m =
    let s = unmoved o p in
    record {
      recorded = record {
        events = s.recorded.events;
        taken = s.recorded.taken;
        last = s.recorded.last;
        are = s.recorded.are;
        runs = s.recorded.runs;
        stands = λ same. absurd cc;
        log = s.recorded.log;
        log_faults = tt;
        console = s.recorded.console;
        console_faults = tt;
        left = s.recorded.left;
        heard = s.recorded.heard;
        leaves = λ same. absurd cc;
        steady = tt;
        clock = s.recorded.clock;
      };
      silent = s.silent;
      console = refl;
      console_faults = refl;
      feed = refl;
    }

-- the log got the event, and all that it held was written
entered-flushed : (o : Remainder) (p q r : Stand) (e : Event) → IsEvent e → EndsInput e
    → clock_value e ≡ [] → Enters p q e (Ok tt) → Flushed q r → Stopped o p r
entered-flushed o p q r e is ends none (inl refused) f = absurd cc
entered-flushed o p q r e is ends none (inr took) f =
    let rest = rest-of (record p { machine = q.machine }) q (text e) (Ok tt) took.1 in
    let a = took.1.0 in
    let front : TakesFront p.log.taken r.log.taken (a.written ++ q.log.unsent.held) =
    TakesFront-after p.log.taken q.log.taken r.log.taken a.written q.log.unsent.held a.taken f.front in
    noted-stopped o p q.machine e r r.console took.0 is ends none
    (subst (TakesFront p.log.taken r.log.taken) a.whole front)
    (ap (λ (z : Stand). z.console) f.rest ∙ ap (λ (z : Stand). z.console) rest)
    (ap (λ (z : Stand). z.console_faults) f.rest ∙ ap (λ (z : Stand). z.console_faults) rest)
    (ap (λ (z : Stand). z.feed) f.rest ∙ ap (λ (z : Stand). z.feed) rest)
    (ap (λ (z : Stand). z.gave) f.rest ∙ ap (λ (z : Stand). z.gave) rest)

entered-stopped : (o : Remainder) (p q r : Stand) (e : Event) (x : Result (Unit {0}) Break) → IsEvent e
    → EndsInput e → clock_value e ≡ []
    → Enters p q e (Ok tt) → Sent q r q.log.unsent.held x → Stopped o p r
entered-stopped o p q r e x is ends none en s = entered-flushed o p q r e is ends none en (sent-flushed q r x s)

-- the event wasn't entered
failed-stopped : (o : Remainder) (p q : Stand) (e : Event) (b : Break) → IsEvent e → EndsInput e
    → clock_value e ≡ []
    → Enters p q e (Err b) → Stopped o p q
failed-stopped o p q e b is ends none (inl refused) = subst (Stopped o p) (sym refused.1) (unmoved o p)
failed-stopped o p q e ConsoleRead is ends none (inr took) = absurd took.1
failed-stopped o p q e ConsoleWrite is ends none (inr took) = absurd took.1
failed-stopped o p q e NoMemory is ends none (inr took) = subst (Stopped o p) (sym took.1) (moved o p q.machine)
failed-stopped o p q e LogWrite is ends none (inr took) =
    let rest = took.1.1 in
    noted-stopped o p q.machine e q q.console took.0 is ends none took.1.0
    (ap (λ (z : Stand). z.console) rest) (ap (λ (z : Stand). z.console_faults) rest)
    (ap (λ (z : Stand). z.feed) rest) (ap (λ (z : Stand). z.gave) rest)

-- where the console wasn't shown all, less is known of the stop
less-stopped : (shown : Extent) (g : State) → IsStopped shown g → IsStopped Part g
less-stopped shown g (inl ended) = inl ended
less-stopped shown g (inr owed) = inr (refl, owed.1, owed.2, owed.3, owed.4, owed.5)

-- the log has all, and the console has a front of the bytes from before
logged-to : (o : Remainder) (shown : Extent) (p r : Stand) (console : Option (List ℕ)) (faults : ℕ)
    → TakesFront p.console console p.machine.devices.uart.out
    → IsLogged shown o
    (record p { machine = without_out p.machine; console = console; console_faults = faults }) r
    → r.console ≡ console → IsLogged Part o p r
logged-to o shown p r console faults t s same = record {
  events = s.events;
  taken = joined (out_alone p.machine.devices.uart.out) s.taken;
  last = s.last;
  are = s.are;
  runs =
      ap (λ z. run z s.events) (sym (taken-before p.machine))
      ∙ run-behind (out_alone p.machine.devices.uart.out) s.taken s.events (without_out p.machine) s.last
      s.runs;
  stopped = less-stopped shown s.last s.stopped;
  log = s.log;
  console = subst (λ (z : Option (List ℕ)). TakesFront p.console z
      (p.machine.devices.uart.out ++ s.taken.out)) (sym same)
      (TakesFront-longer p.console console p.machine.devices.uart.out s.taken.out t);
  all = λ same. absurd cc;
  left = s.left;
  heard = s.heard;
  clock = s.clock;
}

-- ---- what became of the log

-- all that was held was written, where an END of the machine's own was due
flushed-logged : (o : Remainder) (p q : Stand) (reason code : ℕ) → p.machine.control.ended ≡ None
    → due p.machine ≡ due_is.End reason code → reason ≢ 1
    → Sent p q p.log.unsent.held (Ok tt) → IsLogged Part o p q
flushed-logged o p q reason code going owed other s = record {
  events = [];
  taken = out_alone [];
  last = p.machine;
  are = tt;
  runs = run-none p.machine;
  stopped = inr (refl, going, reason, code, owed, other);
  log = subst (Takes p.log.taken q.log.taken) (sym (append-nil p.log.unsent.held)) s.0;
  console = subst (λ (z : Stand). TakesFront p.console z.console []) (sym s.1)
      (TakesFront-none p.console []);
  all = λ same. absurd cc;
  left = o;
  heard = subst (λ (z : Stand). Hears o p.feed [] o z.feed) (sym s.1) (hears-none o p.feed);
  clock = subst (λ (z : Stand). Gave Part p.gave z.gave []) (sym s.1) (gave-none Part p.gave);
}

flushed-stops : (o : Remainder) (p q : Stand) (reason code : ℕ) (x : Result (Unit {0}) Break)
    → p.machine.control.ended ≡ None
    → due p.machine ≡ due_is.End reason code → reason ≢ 1
    → Sent p q p.log.unsent.held x → Stops Part o p q x
flushed-stops o p q reason code (Ok done) going owed other s = (
  flushed-stopped o p q (sent-flushed p q (Ok done) s),
  flushed-logged o p q reason code going owed other s,
)
flushed-stops o p q reason code (Err LogWrite) going owed other s =
    (flushed-stopped o p q (sent-flushed p q (Err LogWrite) s), s.2)
flushed-stops o p q reason code (Err NoMemory) going owed other s = flushed-stopped o p q
    (sent-flushed p q (Err NoMemory) s)
flushed-stops o p q reason code (Err ConsoleRead) going owed other s = absurd s
flushed-stops o p q reason code (Err ConsoleWrite) going owed other s = absurd s

-- END 3 was entered, and all that was held was written
entered-logged : (o : Remainder) (p q r : Stand) (e : Event) → IsEvent e → EndsInput e
    → clock_value e ≡ [] → IsStopped Entire q.machine
    → q.machine.devices.uart.out ≡ []
    → step p.machine e ≡ Some q.machine
    → Notes (record p { machine = q.machine }) q (text e) (Ok tt)
    → Sent q r q.log.unsent.held (Ok tt) → IsLogged Entire o p r
entered-logged o p q r e is ends none stopped silent s n sent =
    let rest = rest-of (record p { machine = q.machine }) q (text e) (Ok tt) n in
    let console : r.console ≡ p.console = ap (λ (z : Stand). z.console) sent.1
    ∙ ap (λ (z : Stand). z.console) rest in
    let gave : r.gave ≡ p.gave = ap (λ (z : Stand). z.gave) sent.1
    ∙ ap (λ (z : Stand). z.gave) rest in
    let feed : r.feed ≡ p.feed = ap (λ (z : Stand). z.feed) sent.1
    ∙ ap (λ (z : Stand). z.feed) rest in
    record {
      events = e ∷ [];
      taken = out_alone [];
      last = q.machine;
      are = (is, tt);
      runs = run-one p.machine q.machine e s;
      stopped = stopped;
      log = subst (λ (z : List ℕ). Takes p.log.taken r.log.taken (p.log.unsent.held ++ z))
          (sym (append-nil (text e)))
          (subst (Takes p.log.taken r.log.taken) n.0.whole
          (Takes-trans p.log.taken q.log.taken r.log.taken n.0.written q.log.unsent.held n.0.taken
          sent.0));
      console = subst (λ (z : Option (List ℕ)). Takes p.console z []) (sym console)
          (Takes-refl p.console);
      all = λ same. silent;
      left = Left [] true;
      heard = no-part o p r e ends feed;
      clock = no-value p r e none gave;
    }

pub entered-stops : (o : Remainder) (p q r : Stand) (e : Event) (x : Result (Unit {0}) Break) → IsEvent e
    → EndsInput e
    → clock_value e ≡ []
    → (step p.machine e ≡ Some q.machine
    → IsStopped Entire q.machine × (q.machine.devices.uart.out ≡ []))
    → Enters p q e (Ok tt) → Sent q r q.log.unsent.held x → Stops Entire o p r x
entered-stops o p q r e x is ends none stopped (inl refused) s = absurd cc
entered-stops o p q r e (Ok done) is ends none stopped (inr took) s = (
  entered-stopped o p q r e (Ok done) is ends none (inr took) s,
  entered-logged o p q r e is ends none (stopped took.0).0 (stopped took.0).1 took.0 took.1 s,
)
entered-stops o p q r e (Err LogWrite) is ends none stopped (inr took) s = (
  entered-stopped o p q r e (Err LogWrite) is ends none (inr took) s,
  subst (λ (z : ℕ). Rose z r.log.faults) took.1.2 s.2,
)
entered-stops o p q r e (Err NoMemory) is ends none stopped (inr took) s = entered-stopped o p q r e
    (Err NoMemory) is ends none (inr took) s
entered-stops o p q r e (Err ConsoleRead) is ends none stopped (inr took) s = absurd s
entered-stops o p q r e (Err ConsoleWrite) is ends none stopped (inr took) s = absurd s

pub failed-stops : (o : Remainder) (p q : Stand) (e : Event) (b : Break) → IsEvent e → EndsInput e
    → clock_value e ≡ []
    → Enters p q e (Err b) → Stops Entire o p q (Err b)
failed-stops o p q e NoMemory is ends none en = failed-stopped o p q e NoMemory is ends none en
failed-stops o p q e LogWrite is ends none (inl refused) = absurd cc
failed-stops o p q e LogWrite is ends none (inr took) =
    (failed-stopped o p q e LogWrite is ends none (inr took), took.1.2)
failed-stops o p q e ConsoleRead is ends none (inl refused) = absurd cc
failed-stops o p q e ConsoleRead is ends none (inr took) = absurd took.1
failed-stops o p q e ConsoleWrite is ends none (inl refused) = absurd cc
failed-stops o p q e ConsoleWrite is ends none (inr took) = absurd took.1

-- the console's sink failed, and the recording was stopped, whatever broke it off
spill-goes : (o : Remainder) (shown : Extent) (p q r : Stand) (x : Result (Unit {0}) Break)
    → Shows p q (Err ConsoleWrite)
    → Stops shown o q r x → Goes o nothing_left p r (Err (or_memory ConsoleWrite x))
spill-goes o shown p q r (Ok done) s stops = (
  spilled o p q r s stops.0,
  (
    spill-rose o p q r s stops.0,
    λ stood. logged-to o shown p r q.console q.console_faults s.0
        (subst (λ (z : Stand). IsLogged shown o z r) s.1 stops.1) stops.0.console,
    spill-unfailed o p q r s stops.0,
  ),
)
spill-goes o shown p q r (Err LogWrite) s stops = (
  spilled o p q r s stops.0,
  (
    spill-rose o p q r s stops.0,
    λ stood. absurd (not-both p.log.faults r.log.faults
        (subst (λ (z : ℕ). Rose z r.log.faults) (ap (λ (z : Stand). z.log.faults) s.1) stops.1)
        stood),
    spill-unfailed o p q r s stops.0,
  ),
)
spill-goes o shown p q r (Err NoMemory) s stops = (spilled o p q r s stops, tt)
spill-goes o shown p q r (Err ConsoleRead) s stops = absurd stops
spill-goes o shown p q r (Err ConsoleWrite) s stops = absurd stops

pub spills : (o : Remainder) (shown : Extent) (p q r : Stand) (b c : Break) (x : Result (Unit {0}) Break)
    → c ≡ or_memory b x
    → Shows p q (Err b) → Stops shown o q r x → Goes o nothing_left p r (Err c)
spills o shown p q r ConsoleWrite c x is s stops = subst (λ (z : Break). Goes o nothing_left p r (Err z)) (sym is)
    (spill-goes o shown p q r x s stops)
spills o shown p q r ConsoleRead c x is s stops = absurd s
spills o shown p q r LogWrite c x is s stops = absurd s
spills o shown p q r NoMemory c x is s stops = absurd s

-- ---- what the console's bytes leave

pub shown-machine : (p q : Stand) (x : Result (Unit {0}) Break) → Shows p q x → q.machine ≡ without_out p.machine
shown-machine p q (Ok done) s = ap (λ (z : Stand). z.machine) s.1
shown-machine p q (Err ConsoleWrite) s = ap (λ (z : Stand). z.machine) s.1
shown-machine p q (Err ConsoleRead) s = absurd s
shown-machine p q (Err LogWrite) s = absurd s
shown-machine p q (Err NoMemory) s = absurd s

-- what is due doesn't depend on bytes that were taken
pub due-without : (g : State) → due (without_out g) ≡ due g
due-without g = sym (due-with (out_alone g.devices.uart.out) (without_out g)) ∙ ap due (taken-before g)

-- a sink fails only where something is to be shown
shown-some : (p q : Stand) (b : Break) → Shows p q (Err b) → p.machine.devices.uart.out ≢ []
shown-some p q ConsoleWrite s = s.3
shown-some p q ConsoleRead s = absurd s
shown-some p q LogWrite s = absurd s
shown-some p q NoMemory s = absurd s

-- the console's sink failed before an END of the machine's own
pub conclusion-spills : (o : Remainder) (p q r : Stand) (b c : Break) (x : Result (Unit {0}) Break)
    (reason code : ℕ) → c ≡ or_memory b x → Shows p q (Err b)
    → p.machine.control.ended ≡ None → due p.machine ≡ due_is.End reason code → Rests p
    → Sent q r q.log.unsent.held x → Goes o nothing_left p r (Err c)
conclusion-spills o p q r b c x reason code is s going owed rests sent =
    let machine : q.machine ≡ without_out p.machine = shown-machine p q (Err b) s in
    let other : reason ≢ 1 =
    λ one. shown-some p q b s (rests.silent (wakeless p.machine reason code owed one)) in
    spills o Part p q r b c x is s
    (flushed-stops o q r reason code x (ap (λ (z : State). z.control.ended) machine ∙ going)
    (ap due machine ∙ due-without p.machine ∙ owed) other sent)
