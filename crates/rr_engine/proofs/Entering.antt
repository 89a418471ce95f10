-- An event that the machine took and the log got.
use Rattle.std.proofs.Common.{◌≡◌, ℕ, Bool, List, [], ◌∷◌, ◌++◌, refl, sym, ap, ◌∙◌, subst, append-nil, inl, inr}
use Rattle.std.specs.Prelude.{Some, Result, Ok, Err}
use Rattle.std.specs.declared.option.Option.{Option}
use Rattle.outside.specs.Told.{Takes, TakesFront}
use Rattle.outside.proofs.ToldLemmas.{Takes-refl, TakesFront-none}
use Rattle.event_log.specs.declared.event.Event.{Event}
use Rattle.event_log.specs.declared.event.Event.TheVariants as event
use Rattle.event_log.specs.Spelling.{text, texts, IsEvent}
use Rattle.event_log.specs.Writing.{Writer}
use Rattle.board.specs.Effect.{IsNoTurn}
use Rattle.board.specs.Taken.{out_alone}
use Rattle.board.specs.State.{State}
use Rattle.board.specs.Runs.{step}
use Rattle.board.specs.Accept.{accept}
use Rattle.rr_engine.specs.declared.ends.Break.{Break}
use Rattle.rr_engine.specs.declared.ends.Break.TheVariants.{ConsoleRead, ConsoleWrite, LogWrite, NoMemory}
use Rattle.rr_engine.specs.Stand.{Stand}
use Rattle.rr_engine.specs.Input.{Extent, Entire, Part}
use Rattle.rr_engine.specs.Feed.{Feed}
use Rattle.rr_engine.specs.Windows.{Remainder, Unreceived, Left, nothing_left, Hears}
use Rattle.rr_engine.specs.Recording.{clock_value, clock_values, Gave, Recorded, Goes}
use Rattle.rr_engine.specs.Outputs.{Appended, Notes}
use Rattle.rr_engine.specs.Owed.{Enters}
use Rattle.rr_engine.proofs.Feeding.{hears-none, unfailed-same}
use Rattle.rr_engine.proofs.Joining.{run-none, run-one}

-- an accepted event that is no INSTRUCTION is a step
pub step-accept : (g h : State) (e : Event) → IsNoTurn e → accept g e ≡ Some h → step g e ≡ Some h
unfolding step
step-accept g h (event.Instruction n) is a = absurd is
step-accept g h e is a = a

-- the values of one event
one-value : (e : Event) → clock_values (e ∷ []) ≡ clock_value e
one-value e = append-nil (clock_value e)

gave-one : (w : Extent) (a b : Option (List ℕ)) (e : Event) → Takes a b (clock_value e)
    → Gave w a b (clock_values (e ∷ []))
gave-one w a b e t = record {
  more = [];
  gave = subst (Takes a b) (sym (append-nil (clock_values (e ∷ [])) ∙ one-value e)) t;
  all = λ same. refl;
}

one-text : (e : Event) → texts (e ∷ []) ≡ text e
one-text e = append-nil (text e)

-- a stand with another clock before it
abbrev pub earlier : Stand → Option (List ℕ) → Stand
earlier p gave = record p { gave = gave }

-- what an event had of the clock, from what the stand had before it, and how it has its input
pub record Had (p : Stand) (d d' : Remainder) (gave : Option (List ℕ)) (e : Event) : Type 0 where
  pub value : Takes gave p.gave (clock_value e)
  pub hears : Hears d p.feed (e ∷ []) d' p.feed

-- the machine took the event, and the log got it as far as its sink took it
noted : (p : Stand) (d d' : Remainder) (before : Option (List ℕ)) (m : State) (w : Writer) (e : Event)
    → (h : Had p d d' before e) → step p.machine e ≡ Some m → IsEvent e
    → Notes (record p { machine = m }) (record p { machine = m; log = w }) (text e) (Ok tt)
    → Recorded Entire d d' (earlier p before) (record p { machine = m; log = w })
noted p d d' before m w e h s is n = record {
  events = e ∷ [];
  taken = out_alone [];
  last = m;
  are = (is, tt);
  runs = run-one p.machine m e s;
  stands = λ same. refl;
  log = subst (Appended p.log w) (sym (one-text e)) n.0;
  log_faults = n.2;
  console = Takes-refl p.console;
  console_faults = refl;
  left = d';
  heard = h.hears;
  leaves = λ same. refl;
  steady = unfailed-same p.feed;
  clock = gave-one Entire before p.gave e h.value;
}

-- the machine took the event, and the log's sink failed, or memory was refused
unnoted : (p : Stand) (d d' : Remainder) (before : Option (List ℕ)) (m : State) (w : Writer)
    (e : Event) (b : Break)
    → (h : Had p d d' before e) → step p.machine e ≡ Some m → IsEvent e
    → Notes (record p { machine = m }) (record p { machine = m; log = w }) (text e) (Err b)
    → Goes d d' (earlier p before) (record p { machine = m; log = w }) (Err b)
unnoted p d d' before m w e LogWrite h s is n = (
  record {
    events = e ∷ [];
    taken = out_alone [];
    last = m;
    are = (is, tt);
    runs = run-one p.machine m e s;
    stands = λ same. absurd cc;
    log = subst (λ (z : List ℕ). TakesFront p.log.taken w.taken (p.log.unsent.held ++ z)) (sym (one-text e)) n.0;
    log_faults = tt;
    console = TakesFront-none p.console [];
    console_faults = tt;
    left = d';
    heard = h.hears;
    leaves = λ same. absurd cc;
    steady = tt;
    clock = gave-one Part before p.gave e h.value;
  },
  (n.2, refl, unfailed-same p.feed),
)
unnoted p d d' before m w e NoMemory h s is n = (
  record {
    events = [];
    taken = out_alone [];
    last = p.machine;
    are = tt;
    runs = run-none p.machine;
    stands = λ same. absurd cc;
    log = subst (λ (z : Stand). TakesFront p.log.taken z.log.taken (p.log.unsent.held ++ [])) (sym n) (TakesFront-none p.log.taken (p.log.unsent.held ++ []));
    log_faults = tt;
    console = TakesFront-none p.console [];
    console_faults = tt;
    left = d;
    heard = hears-none d p.feed;
    leaves = λ same. absurd cc;
    steady = tt;
    clock = record { more = clock_value e; gave = h.value; all = λ same. absurd cc };
  },
  tt,
)
unnoted p d d' before m w e ConsoleRead h s is n = absurd n
unnoted p d d' before m w e ConsoleWrite h s is n = absurd n

-- nothing happened, but that the clock may have given something
refused : (p : Stand) (d d' : Remainder) (before : Option (List ℕ)) (e : Event) → Had p d d' before e
    → Goes d d' (earlier p before) p (Err NoMemory)
refused p d d' before e h = (
  record {
    events = [];
    taken = out_alone [];
    last = p.machine;
    are = tt;
    runs = run-none p.machine;
    stands = λ same. absurd cc;
    log = TakesFront-none p.log.taken (p.log.unsent.held ++ []);
    log_faults = tt;
    console = TakesFront-none p.console [];
    console_faults = tt;
    left = d;
    heard = hears-none d p.feed;
    leaves = λ same. absurd cc;
    steady = tt;
    clock = record { more = clock_value e; gave = h.value; all = λ same. absurd cc };
  },
  tt,
)

pub rest-of : (p q : Stand) (bytes : List ℕ) (x : Result (Unit {0}) Break) → Notes p q bytes x → q ≡ record p { log = q.log }
rest-of p q bytes (Ok done) n = n.1
rest-of p q bytes (Err LogWrite) n = n.1
rest-of p q bytes (Err NoMemory) n = n ∙ ap (λ z. record p { log = z.log }) (sym n)
rest-of p q bytes (Err ConsoleRead) n = absurd n
rest-of p q bytes (Err ConsoleWrite) n = absurd n

-- an event that was entered, or not
pub entered : (p q : Stand) (d d' : Remainder) (before : Option (List ℕ)) (e : Event)
    (x : Result (Unit {0}) Break)
    → IsEvent e → Had p d d' before e → Enters p q e x → Goes d d' (earlier p before) q x
entered p q d d' before e x is h (inl none) =
    subst (λ (z : Result (Unit {0}) Break). Goes d d' (earlier p before) q z) (sym none.0)
    (subst (λ (z : Stand). Goes d d' (earlier p before) z (Err NoMemory)) (sym none.1) (refused p d d' before e h))
entered p q d d' before e (Ok done) is h (inr took) =
    let rest = rest-of (record p { machine = q.machine }) q (text e) (Ok done) took.1 in
    let n = subst (λ (z : Stand). Notes (record p { machine = q.machine }) z (text e) (Ok done)) rest took.1 in
    subst (λ (z : Stand). Recorded Entire d d' (earlier p before) z) (sym rest)
    (noted p d d' before q.machine q.log e h took.0 is n)
entered p q d d' before e (Err b) is h (inr took) =
    let rest = rest-of (record p { machine = q.machine }) q (text e) (Err b) took.1 in
    subst (λ (z : Stand). Goes d d' (earlier p before) z (Err b)) (sym rest)
    (unnoted p d d' before q.machine q.log e b h took.0 is
    (subst (λ (z : Stand). Notes (record p { machine = q.machine }) z (text e) (Err b)) rest took.1))

-- the machine was stepped, and then the log got the event
pub enters-noted : (p q : Stand) (m : State) (e : Event) (x : Result (Unit {0}) Break) → step p.machine e ≡ Some m
    → Notes (record p { machine = m }) q (text e) x → Enters p q e x
enters-noted p q m e x s n =
    let same : q.machine ≡ m = ap (λ (z : Stand). z.machine) (rest-of (record p { machine = m }) q (text e) x n) in
    inr (
      subst (λ (z : State). step p.machine e ≡ Some z) (sym same) s,
      subst (λ (z : State). Notes (record p { machine = z }) q (text e) x) (sym same) n,
    )

-- memory was refused while turns ran
pub out-of-memory : (d d' : Remainder) (p : Stand) (m : State)
    → Goes d d' p (record p { machine = m }) (Err NoMemory)
out-of-memory d d' p m = (
  record {
    events = [];
    taken = out_alone [];
    last = p.machine;
    are = tt;
    runs = run-none p.machine;
    stands = λ same. absurd cc;
    log = TakesFront-none p.log.taken (p.log.unsent.held ++ []);
    log_faults = tt;
    console = TakesFront-none p.console [];
    console_faults = tt;
    left = d;
    heard = hears-none d p.feed;
    leaves = λ same. absurd cc;
    steady = tt;
    clock = record { more = []; gave = Takes-refl p.gave; all = λ same. refl };
  },
  tt,
)

-- ---- what events have of the input

-- an input of a window
abbrev pub IsWindows : Event → Type 0
IsWindows (event.CharRead bytes) = Unit {0}
IsWindows (event.Block id ok) = Unit {0}
IsWindows (event.Net packet) = Unit {0}
IsWindows other = ⊥

-- an event that is no input and opens no window
abbrev pub IsPlain : Event → Type 0
IsPlain (event.CharRead bytes) = ⊥
IsPlain (event.Block id ok) = ⊥
IsPlain (event.Net packet) = ⊥
IsPlain (event.Checkpoint idle) = ⊥
IsPlain other = Unit {0}

plain-hears : (e : Event) (s : Feed) → IsPlain e → Hears nothing_left s (e ∷ []) nothing_left s
plain-hears (event.Instruction n) s l = (s, (refl, refl, refl), (refl, refl, refl))
plain-hears event.Interrupt s l = (s, (refl, refl, refl), (refl, refl, refl))
plain-hears event.Exception s l = (s, (refl, refl, refl), (refl, refl, refl))
plain-hears (event.Clock value) s l = (s, (refl, refl, refl), (refl, refl, refl))
plain-hears (event.End reason code) s l = inl (s, (refl, refl, refl), (refl, refl, refl))
plain-hears e s l = absurd l

-- such an event, where the clock gave its value
pub had : (p : Stand) (before : Option (List ℕ)) (e : Event) → IsPlain e → Takes before p.gave (clock_value e)
    → Had p nothing_left nothing_left before e
had p before e l t = record { value = t; hears = plain-hears e p.feed l }

-- a checkpoint opens a window, for which nothing was received yet
pub had-opened : (p : Stand) (idle : Bool) → Had p nothing_left Unreceived p.gave (event.Checkpoint idle)
had-opened p idle = record { value = Takes-refl p.gave; hears = (p.feed, (refl, refl, refl), (refl, refl)) }

-- the first of the inputs that are left to a window
pub had-input : (p : Stand) (e : Event) (more : List Event) (b : Bool) → IsWindows e
    → Had p (Left (e ∷ more) b) (Left more b) p.gave e
had-input p (event.CharRead bytes) more b is = record {
  value = Takes-refl p.gave;
  hears = (more, b, p.feed, (refl, refl, refl), (refl, refl, refl));
}
had-input p (event.Net packet) more b is = record {
  value = Takes-refl p.gave;
  hears = (more, b, p.feed, (refl, refl, refl), (refl, refl, refl));
}
had-input p (event.Block id ok) more b is = record {
  value = Takes-refl p.gave;
  hears = (more, b, p.feed, (refl, refl, refl), (refl, refl, refl));
}
had-input p e more b is = absurd is
