-- Parts of a recording, one after another.
use Rattle.std.proofs.Common.{◌≡◌, ℕ, false, List, [], ◌∷◌, ◌++◌, refl, sym, ap, ◌∙◌, subst, append_assoc, append-nil}
use Rattle.std.specs.Prelude.{Some, Result, Ok, Err}
use Rattle.std.specs.declared.option.Option.{Option}
use Rattle.std.specs.List.{AllByRecursion}
use Rattle.outside.specs.Causes.{Rose, Stood}
use Rattle.outside.specs.Told.{Takes, TakesFront}
use Rattle.outside.proofs.ToldLemmas.{Takes-refl, Takes-trans, TakesFront-after}
use Rattle.event_log.specs.declared.event.Event.{Event}
use Rattle.event_log.specs.Spelling.{text, texts, IsEvent}
use Rattle.event_log.specs.Writing.{Writer}
use Rattle.board.specs.State.{State}
use Rattle.board.specs.Runs.{step, run}
use Rattle.board.specs.Taken.{Taken, out_alone, joined, with_taken, map_taken}
use Rattle.board.proofs.TakenLaws.{run-with}
pub use Rattle.log_order.proofs.Following.{some_state, some_is, then-more}
use Rattle.rr_engine.specs.declared.ends.Break.{Break}
use Rattle.rr_engine.specs.declared.ends.Break.TheVariants.{ConsoleRead, ConsoleWrite, LogWrite, NoMemory}
use Rattle.rr_engine.specs.Stand.{Stand}
use Rattle.rr_engine.specs.Input.{Extent, Entire, Part}
use Rattle.rr_engine.specs.Feed.{Feed}
use Rattle.rr_engine.specs.Windows.{Remainder, Hears}
use Rattle.rr_engine.specs.Recording.{clock_value, clock_values, Took, Logged, Gave, Counted, Steady, Recorded, IsLogged, Broke, Goes}
use Rattle.rr_engine.specs.Outputs.{Appended}
use Rattle.rr_engine.proofs.Feeding.{hears-then, hears-none, unfailed-same, unfailed-then, failed-after}

-- ---- runs

pub run-none : (g : State) → run g [] ≡ Some g
unfolding run
run-none g = refl

pub run-one : (g h : State) (e : Event) → step g e ≡ Some h → run g (e ∷ []) ≡ Some h
unfolding run
run-one g h e s = rw s refl

pub run-append : (es fs : List Event) (g m : State) (r : Option State)
    → run g es ≡ Some m → run m fs ≡ r → run g (es ++ fs) ≡ r
unfolding run
run-append [] fs g m r p q = ap (λ z. run z fs) (some_is g m p) ∙ q
run-append (e ∷ es) fs g m r p q =
    let more = then-more (step g e) (λ h. run h es) m p in
    rw more.1 (run-append es fs more.0 m r more.2 q)

pub with-with : (xs ys : Taken) (g : State) → with_taken xs (with_taken ys g) ≡ with_taken (joined xs ys) g
with-with xs ys g =
    ap (λ z. record g { devices = record g.devices { uart = record g.devices.uart { out = z } } })
    (sym (append_assoc xs.out ys.out g.devices.uart.out))

-- events that ran where what was taken stands before what wasn't yet
pub run-behind : (xs ys : Taken) (es : List Event) (g last : State) → run g es ≡ Some (with_taken ys last)
    → run (with_taken xs g) es ≡ Some (with_taken (joined xs ys) last)
run-behind xs ys es g last r =
    run-with xs es g ∙ ap (map_taken xs) r ∙ ap (λ z. some_state z) (with-with xs ys last)

-- ---- lists of events

pub all-append : (es fs : List Event) → AllByRecursion IsEvent es → AllByRecursion IsEvent fs → AllByRecursion IsEvent (es ++ fs)
all-append [] fs p q = q
all-append (e ∷ es) fs p q = (p.0, all-append es fs p.1 q)

pub texts-append : (es fs : List Event) → texts (es ++ fs) ≡ texts es ++ texts fs
texts-append [] fs = refl
texts-append (e ∷ es) fs = ap (λ z. text e ++ z) (texts-append es fs) ∙ sym (append_assoc (text e) (texts es) (texts fs))

pub values-append : (es fs : List Event) → clock_values (es ++ fs) ≡ clock_values es ++ clock_values fs
values-append [] fs = refl
values-append (e ∷ es) fs =
    ap (λ z. clock_value e ++ z) (values-append es fs) ∙ sym (append_assoc (clock_value e) (clock_values es) (clock_values fs))

-- ---- what devices took and gave

took-then : (w : Extent) (a b c : Option (List ℕ)) (xs ys : List ℕ) → Takes a b xs → Took w b c ys
    → Took w a c (xs ++ ys)
took-then Entire a b c xs ys p q = Takes-trans a b c xs ys p q
took-then Part a b c xs ys p q = TakesFront-after a b c xs ys p q

-- what is written and held, and more that joins
regroup : (w m o xs ys : List ℕ) → w ++ m ≡ o ++ xs → w ++ (m ++ ys) ≡ o ++ (xs ++ ys)
regroup w m o xs ys e = sym (append_assoc w m ys) ∙ ap (λ z. z ++ ys) e ∙ append_assoc o xs ys

logged-then : (w : Extent) (o m n : Writer) (xs ys : List ℕ) → Appended o m xs → Logged w m n ys
    → Logged w o n (xs ++ ys)
logged-then Entire o m n xs ys p q = record {
  written = p.written ++ q.written;
  taken = Takes-trans o.taken m.taken n.taken p.written q.written p.taken q.taken;
  whole =
      append_assoc p.written q.written n.unsent.held
      ∙ ap (λ z. p.written ++ z) q.whole
      ∙ regroup p.written m.unsent.held o.unsent.held xs ys p.whole;
  works = q.works;
}
logged-then Part o m n xs ys p q =
    subst (TakesFront o.taken n.taken) (regroup p.written m.unsent.held o.unsent.held xs ys p.whole)
    (TakesFront-after o.taken m.taken n.taken p.written (m.unsent.held ++ ys) p.taken q)

gave-then : (w : Extent) (a b c : Option (List ℕ)) (xs ys : List ℕ) → Gave Entire a b xs
    → Gave w b c ys → Gave w a c (xs ++ ys)
gave-then w a b c xs ys p q =
    let first : Takes a b xs = subst (Takes a b) (ap (λ z. xs ++ z) (p.all refl) ∙ append-nil xs) p.gave in
    record {
      more = q.more;
      gave = subst (Takes a c) (sym (append_assoc xs ys q.more)) (Takes-trans a b c xs (ys ++ q.more) first q.gave);
      all = q.all;
    }

counted-then : (w : Extent) (a b c : ℕ) → Counted Entire a b → Counted w b c → Counted w a c
counted-then Entire a b c p q = q ∙ p
counted-then Part a b c p q = tt

-- ---- the recording

pub appended-none : (w : Writer) → w.unsent.failed ≡ false → Appended w w []
appended-none w works = record { written = []; taken = Takes-refl w.taken; whole = sym (append-nil w.unsent.held); works = works }

pub gave-none : (w : Extent) (a : Option (List ℕ)) → Gave w a a []
gave-none w a = record { more = []; gave = Takes-refl a; all = λ e. refl }

steady-then : (w : Extent) (a b c : Feed) → Steady Entire a b → Steady w b c → Steady w a c
steady-then Entire a b c p q = unfailed-then a b c p q
steady-then Part a b c p q = tt

pub recorded-none : (d : Remainder) (p : Stand) → p.log.unsent.failed ≡ false → Recorded Entire d d p p
recorded-none d p works = record {
  events = [];
  taken = out_alone [];
  last = p.machine;
  are = tt;
  runs = run-none p.machine;
  stands = λ e. refl;
  log = appended-none p.log works;
  log_faults = refl;
  console = Takes-refl p.console;
  console_faults = refl;
  left = d;
  heard = hears-none d p.feed;
  leaves = λ whole. refl;
  steady = unfailed-same p.feed;
  clock = gave-none Entire p.gave;
}

pub recorded-then : (w : Extent) (d d' d'' : Remainder) (p q r : Stand) → Recorded Entire d d' p q
    → Recorded w d' d'' q r → Recorded w d d'' p r
recorded-then w d d' d'' p q r a b = record {
  events = a.events ++ b.events;
  taken = joined a.taken b.taken;
  last = b.last;
  are = all-append a.events b.events a.are b.are;
  runs = run-append a.events b.events p.machine (with_taken a.taken q.machine) (Some (with_taken (joined a.taken b.taken) b.last))
      (a.runs ∙ ap (λ z. some_state (with_taken a.taken z)) (a.stands refl))
      (run-behind a.taken b.taken b.events q.machine b.last b.runs);
  stands = b.stands;
  log = subst (Logged w p.log r.log) (sym (texts-append a.events b.events))
      (logged-then w p.log q.log r.log (texts a.events) (texts b.events) a.log b.log);
  log_faults = counted-then w p.log.faults q.log.faults r.log.faults a.log_faults b.log_faults;
  console = took-then w p.console q.console r.console a.taken.out b.taken.out a.console b.console;
  console_faults = counted-then w p.console_faults q.console_faults r.console_faults a.console_faults b.console_faults;
  left = b.left;
  heard = hears-then d p.feed a.events d' q.feed b.events b.left r.feed
      (subst (λ (z : Remainder). Hears d p.feed a.events z q.feed) (a.leaves refl) a.heard) b.heard;
  leaves = b.leaves;
  steady = steady-then w p.feed q.feed r.feed a.steady b.steady;
  clock = subst (Gave w p.gave r.gave) (sym (values-append a.events b.events))
      (gave-then w p.gave q.gave r.gave (clock_values a.events) (clock_values b.events) a.clock b.clock);
}

-- what was recorded, and then all of the rest
pub logged-after : (shown : Extent) (d d' : Remainder) (p q r : Stand) → Recorded Entire d d' p q
    → IsLogged shown d' q r → IsLogged shown d p r
logged-after shown d d' p q r a b = record {
  events = a.events ++ b.events;
  taken = joined a.taken b.taken;
  last = b.last;
  are = all-append a.events b.events a.are b.are;
  runs = run-append a.events b.events p.machine (with_taken a.taken q.machine) (Some (with_taken (joined a.taken b.taken) b.last))
      (a.runs ∙ ap (λ z. some_state (with_taken a.taken z)) (a.stands refl))
      (run-behind a.taken b.taken b.events q.machine b.last b.runs);
  stopped = b.stopped;
  log = subst (λ (z : List ℕ). Takes p.log.taken r.log.taken (p.log.unsent.held ++ z))
      (sym (texts-append a.events b.events))
      (subst (Takes p.log.taken r.log.taken)
      (regroup a.log.written q.log.unsent.held p.log.unsent.held (texts a.events)
      (texts b.events) a.log.whole)
      (Takes-trans p.log.taken q.log.taken r.log.taken a.log.written
      (q.log.unsent.held ++ texts b.events) a.log.taken b.log));
  console = took-then shown p.console q.console r.console a.taken.out b.taken.out a.console b.console;
  all = b.all;
  left = b.left;
  heard = hears-then d p.feed a.events d' q.feed b.events b.left r.feed
      (subst (λ (z : Remainder). Hears d p.feed a.events z q.feed) (a.leaves refl) a.heard) b.heard;
  clock = subst (Gave Part p.gave r.gave) (sym (values-append a.events b.events))
      (gave-then Part p.gave q.gave r.gave (clock_values a.events) (clock_values b.events)
      a.clock b.clock);
}

broke-then : (d d' : Remainder) (p q r : Stand) (b : Break) → Recorded Entire d d' p q → Broke d' q r b
    → Broke d p r b
broke-then d d' p q r ConsoleRead a h =
    let Q : ℕ → Type 0 = λ n. Stood n r.log.faults in (
      failed-after p.feed q.feed r.feed a.steady h.0,
      λ stood. logged-after Entire d d' p q r a (h.1 (subst Q (sym a.log_faults) stood)),
      h.2 ∙ a.console_faults,
    )
broke-then d d' p q r ConsoleWrite a h =
    let P : ℕ → Type 0 = λ n. Rose n r.console_faults in
    let Q : ℕ → Type 0 = λ n. Stood n r.log.faults in (
      subst P a.console_faults h.0,
      λ stood. logged-after Part d d' p q r a (h.1 (subst Q (sym a.log_faults) stood)),
      unfailed-then p.feed q.feed r.feed a.steady h.2,
    )
broke-then d d' p q r LogWrite a h =
    let P : ℕ → Type 0 = λ n. Rose n r.log.faults in (
      subst P a.log_faults h.0,
      h.1 ∙ a.console_faults,
      unfailed-then p.feed q.feed r.feed a.steady h.2,
    )
broke-then d d' p q r NoMemory a h = tt

pub goes-then : (d d' d'' : Remainder) (p q r : Stand) (x : Result (Unit {0}) Break) → Recorded Entire d d' p q
    → Goes d' d'' q r x → Goes d d'' p r x
goes-then d d' d'' p q r (Ok done) a h = recorded-then Entire d d' d'' p q r a h
goes-then d d' d'' p q r (Err b) a h =
    (recorded-then Part d d' d'' p q r a h.0, broke-then d d' p q r b a h.1)

-- where it broke off, the debt after it isn't told
pub part-to : (d d' d'' : Remainder) (p q : Stand) → Recorded Part d d' p q → Recorded Part d d'' p q
part-to d d' d'' p q a = record {
  events = a.events;
  taken = a.taken;
  last = a.last;
  are = a.are;
  runs = a.runs;
  stands = a.stands;
  log = a.log;
  log_faults = a.log_faults;
  console = a.console;
  console_faults = a.console_faults;
  left = a.left;
  heard = a.heard;
  leaves = λ whole. absurd cc;
  steady = a.steady;
  clock = a.clock;
}

pub broken-to : (d d' d'' : Remainder) (p q : Stand) (b : Break) → Goes d d' p q (Err b) → Goes d d'' p q (Err b)
broken-to d d' d'' p q b h = (part-to d d' d'' p q h.0, h.1)
