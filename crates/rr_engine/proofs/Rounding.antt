-- What each round gives, from the event that it entered.
use Rattle.std.proofs.Common.{◌≡◌, ℕ, ◌+◌, ◌-◌, ◌^◌, ◌<◌, ◌≤◌, Bool, true, false, List, [], ◌∷◌, refl, sym, ap, ◌∙◌, subst, inl, inr, arith}
use Rattle.std.specs.Prelude.{Some, None, OnOk, Result, Ok, Err}
use Rattle.std.specs.declared.option.Option.{Option}
use Rattle.outside.specs.Told.{Takes}
use Rattle.outside.proofs.ToldLemmas.{Takes-refl}
use Rattle.event_log.specs.declared.event.Event.{Event}
use Rattle.event_log.specs.declared.event.Event.TheVariants as event
use Rattle.event_log.specs.Spelling.{text, IsEvent}
use Rattle.uart16550.specs.Line.{Line}
use Rattle.board.specs.State.{State}
use Rattle.board.specs.Runs.{step, after}
use Rattle.board.specs.Bounds.{Counts, IsDue}
use Rattle.board.specs.declared.control.Ending.{Ending}
use Rattle.board.specs.declared.control.Window.TheVariants as window
use Rattle.board.specs.declared.due.Due.TheVariants as due_is
use Rattle.board.specs.Accept.{takes_input}
use Rattle.board.specs.Due.{due}
use Rattle.board.specs.Taken.{without_out}
use Rattle.rr_engine.specs.declared.ends.Break.{Break}
use Rattle.rr_engine.specs.declared.ends.Break.TheVariants.{ConsoleRead, ConsoleWrite, LogWrite, NoMemory}
use Rattle.rr_engine.specs.declared.recorder.Recorder.{Recorder}
use Rattle.rr_engine.specs.Feed.{Feed, Source, IsOver, IsSound}
use Rattle.rr_engine.specs.Windows.{Unreceived, nothing_left}
use Rattle.rr_engine.specs.Stand.{Stand, Devices, stand}
use Rattle.io_workers.specs.Intake.{Intake}
use Rattle.rr_engine.specs.Work.{work, work_left, FallsBy, Falls}
use Rattle.rr_engine.specs.Rounds.{GoesOn, Rounds}
use Rattle.rr_engine.specs.Recording.{Goes, clock_value}
use Rattle.rr_engine.specs.Owed.{Enters, IsOwed, IsOwn, IsOwnEnd, EndsByItself, Rests}
use Rattle.rr_engine.specs.Outputs.{Notes, Shows}
use Rattle.rr_engine.proofs.Joining.{goes-then, broken-to}
use Rattle.rr_engine.proofs.Owing.{owes_end}
use Rattle.rr_engine.proofs.Stopping.{shown, shown-machine, due-without}
use Rattle.rr_engine.proofs.Falling.{step-falls}
use Rattle.rr_engine.proofs.Endings.{step-own, goes-on, ended-own}
use Rattle.rr_engine.proofs.Idling.{IsInner, inner-own, inner-plain, inner-idle, inner-going, end-idle, end-ended, wakeless, after-idle, after-shut}
use Rattle.rr_engine.proofs.Silence.{inner-uart}
use Rattle.rr_engine.proofs.Entering.{entered, rest-of, had, had-opened, IsPlain}

pub entered-step : (p q : Stand) (e : Event) (x : Result (Unit {0}) Break) → Enters p q e x → OnOk x (step p.machine e ≡ Some q.machine)
entered-step p q e (Ok done) (inl none) = absurd cc
entered-step p q e (Ok done) (inr took) = took.0
entered-step p q e (Err b) en = tt

pub entered-works : (p q : Stand) (e : Event) (x : Result (Unit {0}) Break) → Enters p q e x → OnOk x (q.log.unsent.failed ≡ false)
entered-works p q e (Ok done) (inl none) = absurd cc
entered-works p q e (Ok done) (inr took) = took.1.0.works
entered-works p q e (Err b) en = tt

-- an event without a value, from the stand at which it was entered
pub entered-goes : (p q : Stand) (e : Event) (x : Result (Unit {0}) Break) → IsEvent e → clock_value e ≡ [] → IsPlain e
    → Enters p q e x → Goes nothing_left nothing_left p q x
entered-goes p q e x is none plain en =
    entered p q nothing_left nothing_left p.gave e x is
    (had p p.gave e plain (subst (λ (z : List ℕ). Takes p.gave p.gave z) (sym none) (Takes-refl p.gave))) en

-- a checkpoint, whose window hasn't received its inputs
pub opened : (p q : Stand) (idle : Bool) (x : Result (Unit {0}) Break) → Enters p q (event.Checkpoint idle) x
    → Goes nothing_left Unreceived p q x
opened p q idle x en = entered p q nothing_left Unreceived p.gave (event.Checkpoint idle) x tt (had-opened p idle) en

pub unopened : (p q : Stand) (idle : Bool) (b : Break) → Enters p q (event.Checkpoint idle) (Err b)
    → Goes nothing_left nothing_left p q (Err b)
unopened p q idle b en = broken-to nothing_left Unreceived nothing_left p q b (opened p q idle (Err b) en)

pub entered-falls : (p q : Stand) (e : Event) (x : Result (Unit {0}) Break) → IsOwn e → Counts p.machine.control p.machine.devices.time
    → p.machine.control.ended ≡ None → Enters p q e x → OnOk x (work q.machine < work p.machine)
entered-falls p q e (Ok done) own counts going (inl none) = absurd cc
entered-falls p q e (Ok done) own counts going (inr took) = step-falls e p.machine q.machine own counts going took.0
entered-falls p q e (Err b) own counts going en = tt

pub entered-own : (p q : Stand) (e : Event) (x : Result (Unit {0}) Break) → IsOwn e → IsOwnEnd p.machine e
    → p.machine.control.ended ≡ None → Enters p q e x → OnOk x (EndsByItself q.machine)
entered-own p q e (Ok done) own kind going (inl none) = absurd cc
entered-own p q e (Ok done) own kind going (inr took) = step-own e p.machine q.machine own kind going took.0
entered-own p q e (Err b) own kind going en = tt

-- the log gets an event, which leaves the machine
pub noted-machine : (p q : Stand) (bytes : List ℕ) (x : Result (Unit {0}) Break) → Notes p q bytes x → q.machine ≡ p.machine
noted-machine p q bytes x n = ap (λ (z : Stand). z.machine) (rest-of p q bytes x n)

pub turns-progress : (p q : Stand) (bytes : List ℕ) (x : Result (Unit {0}) Break) (g : State) → Notes p q bytes x
    → work p.machine < work g → OnOk x (work q.machine < work g)
turns-progress p q bytes (Ok done) g n h =
    subst (λ (z : State). work z < work g) (sym (noted-machine p q bytes (Ok done) n)) h
turns-progress p q bytes (Err b) g n h = tt

-- the clock gave a value, and its event was entered
pub clock-goes : {I : Type 0} (f : I → Option (List ℕ) → ℕ → Feed) (r : Recorder I) (d d' : Devices) (q : Stand) (value : ℕ) (x : Result (Unit {0}) Break)
    → d' ≡ record d { gave = d'.gave } → Takes d.gave d'.gave (value ∷ []) → IsEvent (event.Clock value)
    → Enters (stand f r d') q (event.Clock value) x → Goes nothing_left nothing_left (stand f r d) q x
clock-goes f r d d' q value x rest t is en =
    let p = stand f r d' in
    subst (λ (z : Stand). Goes nothing_left nothing_left z q x)
    (ap (λ (z : Devices). record (stand f r z) { gave = d.gave }) rest)
    (entered p q nothing_left nothing_left d.gave (event.Clock value) x is (had p d.gave (event.Clock value) tt t) en)

-- what the console's bytes leave of the work and of the end
same-work : (g : State) → work (without_out g) ≡ work g
unfolding work
same-work g = refl

-- an END after the console's bytes
pub conclude-owed : (p q : Stand) (reason code : ℕ) → Shows p q (Ok tt) → due p.machine ≡ due_is.End reason code
    → IsDue p.machine.control false (due_is.End reason code) → IsOwed q.machine (event.End reason code)
conclude-owed p q reason code s d kind =
    subst (λ (z : State). IsOwed z (event.End reason code)) (sym (shown-machine p q (Ok tt) s))
    (owes_end (without_out p.machine) reason code (due-without p.machine ∙ d) kind)

pub conclude-falls : (p q r : Stand) (reason code : ℕ) (x : Result (Unit {0}) Break) → Shows p q (Ok tt)
    → Counts p.machine.control p.machine.devices.time → p.machine.control.ended ≡ None → Enters q r (event.End reason code) x
    → OnOk x (work r.machine < work p.machine)
conclude-falls p q r reason code (Ok done) s counts going en =
    let m = shown-machine p q (Ok tt) s in
    let falls = entered-falls q r (event.End reason code) (Ok done) tt
    (subst (λ (z : State). Counts z.control z.devices.time) (sym m) counts)
    (ap (λ (z : State). z.control.ended) m ∙ going) en in
    subst (λ (z : ℕ). work r.machine < z) (ap work m ∙ same-work p.machine) falls
conclude-falls p q r reason code (Err b) s counts going en = tt

pub conclude-goes : (p q r : Stand) (reason code : ℕ) (x : Result (Unit {0}) Break) → p.log.unsent.failed ≡ false → Shows p q (Ok tt)
    → IsOwed q.machine (event.End reason code) → Enters q r (event.End reason code) x
    → Goes nothing_left nothing_left p r x
conclude-goes p q r reason code x works s owed en =
    goes-then nothing_left nothing_left nothing_left p q r x (shown nothing_left p q works s)
    (entered-goes q r (event.End reason code) x owed.spelled refl tt en)

-- ---- the input

pub entered-feed : (p q : Stand) (e : Event) (x : Result (Unit {0}) Break) → Enters p q e x → q.feed ≡ p.feed
entered-feed p q e x (inl none) = ap (λ (z : Stand). z.feed) none.1
entered-feed p q e x (inr took) =
    ap (λ (z : Stand). z.feed) (rest-of (record p { machine = q.machine }) q (text e) x took.1)

pub noted-feed : (p q : Stand) (bytes : List ℕ) (x : Result (Unit {0}) Break) → Notes p q bytes x → q.feed ≡ p.feed
noted-feed p q bytes x n = ap (λ (z : Stand). z.feed) (rest-of p q bytes x n)

pub shown-feed : (p q : Stand) (x : Result (Unit {0}) Break) → Shows p q x → q.feed ≡ p.feed
shown-feed p q (Ok done) s = ap (λ (z : Stand). z.feed) s.1
shown-feed p q (Err ConsoleWrite) s = ap (λ (z : Stand). z.feed) s.1
shown-feed p q (Err ConsoleRead) s = absurd s
shown-feed p q (Err LogWrite) s = absurd s
shown-feed p q (Err NoMemory) s = absurd s

-- ---- the work left with the input that may come

falls-same : (k m n : ℕ) (s : Feed) → n + k ≤ m → FallsBy k s s m n
falls-same k m n (Source i) h = omega (arith, h)

falls-by : (j k l m n : ℕ) (s t u : Feed) → FallsBy j s t l m → FallsBy k t u m n → FallsBy (j + k) s u l n
falls-by j k l m n (Source a) (Source b) (Source c) p q = omega (arith, p, q)

falls-then : (j k : ℕ) (p q r : Stand) → Falls j p q → Falls k q r → Falls (j + k) p r
falls-then j k p q r a b = falls-by j k (work p.machine) (work q.machine) (work r.machine) p.feed q.feed r.feed a b

falls-with : (k : ℕ) (p q : Stand) → q.feed ≡ p.feed → work q.machine + k ≤ work p.machine → Falls k p q
falls-with k p q same h =
    subst (λ (z : Feed). FallsBy k p.feed z (work p.machine) (work q.machine)) (sym same)
    (falls-same k (work p.machine) (work q.machine) p.feed h)

-- of a source it is a measure
pub source-left : (g h : State) (i j : Intake) → FallsBy 1 (Source i) (Source j) (work g) (work h)
    → work_left h j.progress < work_left g i.progress
unfolding work_left
source-left g h i j f = omega (arith, f)

left-falls : (p q : Stand) → q.feed ≡ p.feed → work q.machine < work p.machine → Falls 1 p q
left-falls p q same h = falls-with 1 p q same (omega (arith, h))

pub all-falls : (p q : Stand) (x : Result (Unit {0}) Break) → q.feed ≡ p.feed → OnOk x (work q.machine < work p.machine)
    → OnOk x (Falls 1 p q)
all-falls p q (Ok done) same h = left-falls p q same h
all-falls p q (Err b) same h = tt

-- ---- what rests

abbrev ending : ℕ → ℕ → Option Ending
ending reason code = Some (record { reason = reason; code = code })

abbrev none : Option Ending
none = None

-- an end of another reason, or none, is none for want of a wake
not-some : (c : ℕ) → none ≡ ending 1 c → ⊥
not-some c e = cc

reason_of : Option Ending → ℕ
reason_of None = 0
reason_of (Some e) = e.reason

reason-is : (r c d : ℕ) → ending r c ≡ ending 1 d → r ≡ 1
unfolding reason_of
reason-is r c d e = ap reason_of e

-- a run that goes on, with the input as it was
rests-on : (p q : Stand) → q.feed ≡ p.feed → Rests p → q.machine.control.ended ≡ None
    → (q.machine.control.window ≡ window.Idle false → p.machine.control.window ≡ window.Idle false)
    → (q.machine.control.window ≡ window.Idle false → p.machine.devices.uart.out ≡ []
    → q.machine.devices.uart.out ≡ [])
    → Rests q
rests-on p q same rests going from silence = record {
  own = goes-on q.machine going;
  silent = λ w. silence w (rests.silent (from w));
  idle = λ w. subst IsOver (sym same) (rests.idle (from w));
  wakeless = λ c is. absurd (not-some c (sym going ∙ is));
  sound = subst IsSound (sym same) rests.sound;
}

-- the console's bytes were taken
rests-shown : (p q : Stand) → q.machine ≡ without_out p.machine → q.feed ≡ p.feed → p.machine.control.ended ≡ None
    → Rests p → Rests q
rests-shown p q machine same going rests =
    rests-on p q same rests (ap (λ (z : State). z.control.ended) machine ∙ going)
    (λ w. sym (ap (λ (z : State). z.control.window) machine) ∙ w)
    (λ w none. ap (λ (z : State). z.devices.uart.out) machine)

-- events that neither opens a window nor end the run
pub inner-rests : (p q : Stand) (e : Event) (x : Result (Unit {0}) Break) → IsInner e → p.machine.control.ended ≡ None
    → Rests p → Enters p q e x → OnOk x (Rests q)
inner-rests p q e (Err b) inner going rests en = tt
inner-rests p q e (Ok done) inner going rests en =
    let s = entered-step p q e (Ok done) en in
    let same = entered-feed p q e (Ok done) en in
    let goes = inner-going e p.machine q.machine inner s going in
    rests-on p q same rests goes (inner-idle e p.machine q.machine inner s)
    (λ w none. ap (λ (z : Line). z.out) (inner-uart e p.machine q.machine inner s) ∙ none)

-- such an event without a value, which was due
pub inner-round : (p q : Stand) (e : Event) (x : Result (Unit {0}) Break) → IsEvent e
    → clock_value e ≡ [] → IsInner e → Counts p.machine.control p.machine.devices.time → GoesOn p
    → Enters p q e x → Rounds p q x
inner-round p q e x is none inner counts on en = record {
  goes = entered-goes p q e x is none (inner-plain e inner) en;
  works = entered-works p q e x en;
  left = all-falls p q x (entered-feed p q e x en)
      (entered-falls p q e x (inner-own e inner) counts on.going en);
  rests = inner-rests p q e x inner on.going on.rests en;
}

-- END of the machine's own
pub end-rests : (p q : Stand) (reason code : ℕ) (x : Result (Unit {0}) Break) → p.machine.devices.uart.out ≡ []
    → IsDue p.machine.control false (due_is.End reason code) → p.machine.control.ended ≡ None
    → due p.machine ≡ due_is.End reason code → Rests p → Enters p q (event.End reason code) x → OnOk x (Rests q)
end-rests p q reason code (Err b) out kind going d rests en = tt
end-rests p q reason code (Ok done) out kind going d rests en =
    let e : Event = event.End reason code in
    let s = entered-step p q e (Ok done) en in
    let same = entered-feed p q e (Ok done) en in
    let own : EndsByItself q.machine = entered-own p q e (Ok done) tt (kind.0, kind.2, out) going en in
    record {
      own = own;
      silent = λ w. (ended-own q.machine (record { reason = reason; code = code })
          (end-ended p.machine q.machine reason code s) own).2;
      idle = λ w. subst IsOver (sym same) (rests.idle (end-idle p.machine q.machine reason code s w));
      wakeless = λ c is. subst IsOver (sym same) (rests.idle (wakeless p.machine reason code d
          (reason-is reason code c (sym (end-ended p.machine q.machine reason code s) ∙ is))));
      sound = subst IsSound (sym same) rests.sound;
    }

pub conclude-rests : (p q r : Stand) (reason code : ℕ) (x : Result (Unit {0}) Break) → Shows p q (Ok tt)
    → IsDue p.machine.control false (due_is.End reason code) → p.machine.control.ended ≡ None
    → due p.machine ≡ due_is.End reason code → Rests p → Enters q r (event.End reason code) x → OnOk x (Rests r)
conclude-rests p q r reason code x s kind going d rests en =
    let m = shown-machine p q (Ok tt) s in
    let same = shown-feed p q (Ok tt) s in
    end-rests q r reason code x (ap (λ (z : State). z.devices.uart.out) m)
    (subst (λ (z : State). IsDue z.control false (due_is.End reason code)) (sym m) kind)
    (ap (λ (z : State). z.control.ended) m ∙ going)
    (ap due m ∙ due-without p.machine ∙ d)
    (rests-shown p q m same going rests) en

-- turns
pub turns-rests : (p q : Stand) (bytes : List ℕ) (x : Result (Unit {0}) Break) (m : State) → Notes (record p { machine = m }) q bytes x
    → m ≡ after (2 ^ 32 - 1) p.machine → due p.machine ≡ due_is.Run → m.control.ended ≡ None → Rests p
    → OnOk x (Rests q)
turns-rests p q bytes (Err b) m n ran d going rests = tt
turns-rests p q bytes (Ok done) m n ran d going rests =
    let machine = noted-machine (record p { machine = m }) q bytes (Ok done) n in
    let same = noted-feed (record p { machine = m }) q bytes (Ok done) n in
    rests-on p q same rests (ap (λ (z : State). z.control.ended) machine ∙ going)
    (λ w. after-idle (2 ^ 32 - 1) p.machine (sym (ap (λ (z : State). z.control.window) (machine ∙ ran)) ∙ w))
    (λ w none. absurd (after-shut (2 ^ 32 - 1) p.machine (omega arith) d
    (sym (ap (λ (z : State). z.control.window) (machine ∙ ran)) ∙ w)))

-- ---- what each part leaves to the next

pub opened-sound : (p q : Stand) (e : Event) (x : Result (Unit {0}) Break) → Enters p q e x → IsSound p.feed → IsSound q.feed
opened-sound p q e x en sound = subst IsSound (sym (entered-feed p q e x en)) sound

pub opened-left : (p q r : Stand) (e : Event) (y : Result (Unit {0}) Break) → Enters p q e (Ok tt)
    → work q.machine < work p.machine → OnOk y (Falls 0 q r) → OnOk y (Falls 1 p r)
opened-left p q r e (Ok done) en falls more =
    falls-then 1 0 p q r (left-falls p q (entered-feed p q e (Ok tt) en) falls) more
opened-left p q r e (Err b) en falls more = tt

pub shown-open : (p q : Stand) (x : Result (Unit {0}) Break) → Shows p q x → takes_input p.machine.control ≡ true
    → takes_input q.machine.control ≡ true
shown-open p q x s opens = ap (λ (z : State). takes_input z.control) (shown-machine p q x s) ∙ opens

pub shown-silent : (p q : Stand) (x : Result (Unit {0}) Break) → Shows p q x → q.machine.devices.uart.out ≡ []
shown-silent p q x s = ap (λ (z : State). z.devices.uart.out) (shown-machine p q x s)

pub shown-sound : (p q : Stand) (x : Result (Unit {0}) Break) → Shows p q x → IsSound p.feed → IsSound q.feed
shown-sound p q x s sound = subst IsSound (sym (shown-feed p q x s)) sound

pub shown-idle : (p q : Stand) (x : Result (Unit {0}) Break) (idle : Bool) → Shows p q x
    → (p.machine.control.window ≡ window.Idle false → idle ≡ true) → q.machine.control.window ≡ window.Idle false → idle ≡ true
shown-idle p q x idle s from w = from (sym (ap (λ (z : State). z.control.window) (shown-machine p q x s)) ∙ w)

pub shown-left : (p q r : Stand) (y : Result (Unit {0}) Break) → Shows p q (Ok tt) → OnOk y (Falls 0 q r)
    → OnOk y (Falls 0 p r)
shown-left p q r (Ok done) s more =
    let same : work q.machine ≡ work p.machine = ap work (shown-machine p q (Ok tt) s) ∙ same-work p.machine in
    falls-then 0 0 p q r (falls-with 0 p q (shown-feed p q (Ok tt) s) (omega (arith, same))) more
shown-left p q r (Err b) s more = tt

pub turns-left : (p q : Stand) (m : State) (bytes : List ℕ) (x : Result (Unit {0}) Break) → Notes (record p { machine = m }) q bytes x
    → work m < work p.machine → OnOk x (Falls 1 p q)
turns-left p q m bytes x n falls =
    all-falls p q x (noted-feed (record p { machine = m }) q bytes x n) (turns-progress (record p { machine = m }) q bytes x p.machine n falls)

pub conclude-left : (p q r : Stand) (reason code : ℕ) (x : Result (Unit {0}) Break) → Shows p q (Ok tt)
    → OnOk x (work r.machine < work p.machine) → Enters q r (event.End reason code) x → OnOk x (Falls 1 p r)
conclude-left p q r reason code x s falls en =
    all-falls p r x (entered-feed q r (event.End reason code) x en ∙ shown-feed p q (Ok tt) s) falls

pub clock-falls : {I : Type 0} (f : I → Option (List ℕ) → ℕ → Feed) (r : Recorder I) (d d' : Devices) (q : Stand) (x : Result (Unit {0}) Break)
    → d' ≡ record d { gave = d'.gave } → OnOk x (Falls 1 (stand f r d') q) → OnOk x (Falls 1 (stand f r d) q)
clock-falls f r d d' q x rest h = subst (λ (z : Devices). OnOk x (Falls 1 (stand f r z) q)) rest h

pub clock-rests : {I : Type 0} (f : I → Option (List ℕ) → ℕ → Feed) (r : Recorder I) (d d' : Devices)
    → d' ≡ record d { gave = d'.gave } → Rests (stand f r d) → Rests (stand f r d')
clock-rests f r d d' rest rests = subst (λ (z : Devices). Rests (stand f r z)) (sym rest) (record {
  own = rests.own;
  silent = rests.silent;
  idle = rests.idle;
  wakeless = rests.wakeless;
  sound = rests.sound;
})
