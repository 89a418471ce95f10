-- A window's inputs were received.
use Rattle.std.proofs.Common.{◌≡◌, ℕ, List, [], sym, ap, ◌∙◌, subst}
use Rattle.std.specs.Prelude.{Some, None, is_some, Result, Ok, Err}
use Rattle.std.specs.declared.option.Option.{Option}
use Rattle.outside.specs.Causes.{Rose}
use Rattle.event_log.specs.declared.event.Event.{Event}
use Rattle.io_workers.specs.Intake.{Intake}
use Rattle.io_workers.specs.declared.read_error.ReadError.TheVariants as error
use Rattle.rr_engine.specs.declared.ends.Break.{Break}
use Rattle.rr_engine.specs.declared.ends.Break.TheVariants.{ConsoleRead, ConsoleWrite, LogWrite, NoMemory}
use Rattle.rr_engine.specs.declared.inputs.Trouble.{Trouble}
use Rattle.rr_engine.specs.declared.inputs.Trouble.TheVariants as trouble_is
use Rattle.rr_engine.specs.Stand.{Stand}
use Rattle.rr_engine.specs.Input.{Extent, Entire, Part}
use Rattle.rr_engine.specs.Feed.{Feed, Source, Receives, Unfailed, Failed}
use Rattle.rr_engine.specs.Windows.{Remainder, Unreceived, Left, nothing_left, Hears}
use Rattle.rr_engine.specs.Recording.{Recorded, Goes, Broke, Stopped, IsLogged, Stops, or_memory}
use Rattle.rr_engine.proofs.Hearing.{ends-faults}
use Rattle.rr_engine.proofs.Feeding.{hears-then, hears-received, unfailed-then, failed-after}
use Rattle.rr_engine.proofs.Joining.{recorded-then, logged-after, part-to}
use Rattle.rr_engine.proofs.Entering.{out-of-memory}
use Rattle.rr_engine.proofs.Stopping.{not-both}

-- ---- causes

abbrev failed : Option Trouble
failed = Some trouble_is.ConsoleRead

abbrev none : Option Trouble
none = None

none-failed : none ≡ failed → ⊥
none-failed e = cc

memory-failed : Some trouble_is.NoMemory ≡ failed → ⊥
memory-failed e = cc

-- the source failed where the trouble says so, and nowhere else
pub receives-unfailed : (s t : Feed) (xs : List Event) (trouble : Option Trouble)
    → (trouble ≡ failed → ⊥) → Receives s t xs trouble → Unfailed s t
receives-unfailed (Source i) (Source j) xs trouble unfailed (Ok (Some piece), next, events, is) = next.faults
receives-unfailed (Source i) (Source j) xs trouble unfailed (Ok None, next, events, is) = ends-faults i j next
receives-unfailed (Source i) (Source j) xs trouble unfailed (Err error.Failed, next, events, is) = absurd (unfailed is)
receives-unfailed (Source i) (Source j) xs trouble unfailed (Err error.NoMemory, next, events, is) =
    ap (λ (z : Intake). z.faults) next.1

pub receives-failed : (s t : Feed) (xs : List Event) (trouble : Option Trouble) → trouble ≡ failed
    → Receives s t xs trouble → Failed s t
receives-failed (Source i) (Source j) xs trouble deaf (Ok read, next, events, is) =
    absurd (none-failed (sym is ∙ deaf))
receives-failed (Source i) (Source j) xs trouble deaf (Err error.Failed, next, events, is) = next.faults
receives-failed (Source i) (Source j) xs trouble deaf (Err error.NoMemory, next, events, is) =
    absurd (memory-failed (sym is ∙ deaf))

-- where something was received, the source didn't fail
pub receives-some : (s t : Feed) (xs : List Event) (trouble : Option Trouble) → (xs ≡ [] → ⊥)
    → Receives s t xs trouble → Unfailed s t
receives-some (Source i) (Source j) xs trouble some (Ok (Some piece), next, events, is) = next.faults
receives-some (Source i) (Source j) xs trouble some (Ok None, next, events, is) = absurd (some events)
receives-some (Source i) (Source j) xs trouble some (Err why, next, events, is) = absurd (some events)

-- ---- the recording from before

abbrev pub with_feed : Stand → Feed → Stand
with_feed p f = record p { feed = f }

-- from where a window's inputs weren't received yet
module _ (p : Stand) (f : Feed) (xs : List Event) (trouble : Option Trouble)
    (received : Receives p.feed f xs trouble) where
  -- what the window has to take after it received them
  abbrev had : Remainder
  had = Left xs (is_some trouble)

  heard-first : (t : Feed) (es : List Event) (d : Remainder) → Hears had f es d t
      → Hears Unreceived p.feed es d t
  heard-first t es d h =
      hears-then Unreceived p.feed [] had f es d t (hears-received p.feed f xs trouble received) h

  received-part : (d : Remainder) (r : Stand) → Recorded Part had d (with_feed p f) r
      → Recorded Part Unreceived d p r
  received-part d r a = record {
    events = a.events;
    taken = a.taken;
    last = a.last;
    are = a.are;
    runs = a.runs;
    stands = a.stands;
    log = a.log;
    log_faults = a.log_faults;
    console = a.console;
    console_faults = a.console_faults;
    left = a.left;
    heard = heard-first r.feed a.events a.left a.heard;
    leaves = λ whole. absurd cc;
    steady = tt;
    clock = a.clock;
  }

  -- there was no trouble by a fault
  pub received-entire : (d : Remainder) (r : Stand) → Unfailed p.feed f
      → Recorded Entire had d (with_feed p f) r → Recorded Entire Unreceived d p r
  received-entire d r unfailed a = record {
    events = a.events;
    taken = a.taken;
    last = a.last;
    are = a.are;
    runs = a.runs;
    stands = a.stands;
    log = a.log;
    log_faults = a.log_faults;
    console = a.console;
    console_faults = a.console_faults;
    left = a.left;
    heard = heard-first r.feed a.events a.left a.heard;
    leaves = a.leaves;
    steady = unfailed-then p.feed f r.feed unfailed a.steady;
    clock = a.clock;
  }

  received-logged : (shown : Extent) (r : Stand) → IsLogged shown had (with_feed p f) r
      → IsLogged shown Unreceived p r
  received-logged shown r s = record {
    events = s.events;
    taken = s.taken;
    last = s.last;
    are = s.are;
    runs = s.runs;
    stopped = s.stopped;
    log = s.log;
    console = s.console;
    all = s.all;
    left = s.left;
    heard = heard-first r.feed s.events s.left s.heard;
    clock = s.clock;
  }

  received-broke : (r : Stand) (b : Break) → Unfailed p.feed f → Broke had (with_feed p f) r b
      → Broke Unreceived p r b
  received-broke r ConsoleRead unfailed h = (
    failed-after p.feed f r.feed unfailed h.0,
    λ stood. received-logged Entire r (h.1 stood),
    h.2,
  )
  received-broke r ConsoleWrite unfailed h = (
    h.0,
    λ stood. received-logged Part r (h.1 stood),
    unfailed-then p.feed f r.feed unfailed h.2,
  )
  received-broke r LogWrite unfailed h = (h.0, h.1, unfailed-then p.feed f r.feed unfailed h.2)
  received-broke r NoMemory unfailed h = tt

  -- one of them wasn't entered
  pub received-breaks : (d e : Remainder) (r : Stand) (b : Break) → (xs ≡ [] → ⊥)
      → Goes had d (with_feed p f) r (Err b) → Goes Unreceived e p r (Err b)
  received-breaks d e r b some h = (
    part-to Unreceived d e p r (received-part d r h.0),
    received-broke r b (receives-some p.feed f xs trouble some received) h.1,
  )

  -- all were entered
  module _ (q : Stand) (a : Recorded Entire had (Left [] (is_some trouble)) (with_feed p f) q) where
    abbrev all_taken : Remainder
    all_taken = Left [] (is_some trouble)

    then-part : (r : Stand) → Recorded Part all_taken nothing_left q r → Recorded Part Unreceived nothing_left p r
    then-part r b =
        received-part nothing_left r (recorded-then Part had all_taken nothing_left (with_feed p f) q r a b)

    -- and then memory was refused
    pub received-no-more : Goes Unreceived nothing_left p q (Err NoMemory)
    received-no-more = (then-part q (out-of-memory all_taken nothing_left q q.machine).0, tt)

    -- and then the recording was stopped, since its source had failed
    module _ (r : Stand) (deaf : trouble ≡ failed) (same : q.feed ≡ f) where
      failed-now : Stopped all_taken q r → Failed p.feed r.feed
      failed-now s = subst (λ (z : Feed). Failed p.feed z) (sym same ∙ sym s.feed)
          (receives-failed p.feed f xs trouble deaf received)

      console-kept : Stopped all_taken q r → r.console_faults ≡ p.console_faults
      console-kept s = s.console_faults ∙ a.console_faults

      stop-goes : (x : Result (Unit {0}) Break) → Stops Entire all_taken q r x
          → Goes Unreceived nothing_left p r (Err (or_memory ConsoleRead x))
      stop-goes (Ok done) stops = (
        then-part r stops.0.recorded,
        (
          failed-now stops.0,
          λ stood. received-logged Entire r
              (logged-after Entire had all_taken (with_feed p f) q r a stops.1),
          console-kept stops.0,
        ),
      )
      stop-goes (Err LogWrite) stops = (
        then-part r stops.0.recorded,
        (
          failed-now stops.0,
          λ stood. absurd (not-both p.log.faults r.log.faults
              (subst (λ (z : ℕ). Rose z r.log.faults) a.log_faults stops.1) stood),
          console-kept stops.0,
        ),
      )
      stop-goes (Err NoMemory) stops = (then-part r stops.recorded, tt)
      stop-goes (Err ConsoleRead) stops = absurd stops
      stop-goes (Err ConsoleWrite) stops = absurd stops

      pub received-stops : (c : Break) (x : Result (Unit {0}) Break) → c ≡ or_memory ConsoleRead x
          → ((d : Remainder) → Stops Entire d q r x) → Goes Unreceived nothing_left p r (Err c)
      received-stops c x is stops =
          subst (λ (z : Break). Goes Unreceived nothing_left p r (Err z)) (sym is) (stop-goes x (stops all_taken))
