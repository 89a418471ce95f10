-- The inputs of a window are entered, one after another.
use Rattle.std.proofs.Common.{◌≡◌, ℕ, ◌+◌, ◌*◌, ◌≤◌, Bool, true, false, List, [], ◌∷◌, ◌++◌, length, map, refl, sym, ap, ◌∙◌, subst, inl, inr, append_assoc, append-nil, arith}
use Rattle.std.specs.Prelude.{Some, None, All, reverse, is_some, Result, Ok, Err}
use Rattle.std.specs.declared.option.Option.{Option}
use Rattle.std.proofs.lemmas.List.{reverse-append, reverse-reverse, length-append, length-map}
use Rattle.std.proofs.lemmas.List.Elements.{All-head, All-tail}
use Rattle.event_log.specs.declared.event.Event.{Event}
use Rattle.plain_hub.specs.declared.item.Item.{Item}
use Rattle.plain_hub.specs.declared.item.Item.TheVariants as item
use Rattle.board.specs.State.{State}
use Rattle.board.specs.declared.control.Window.TheVariants as window
use Rattle.board.specs.Accept.{takes_input}
use Rattle.board.specs.Runs.{step}
use Rattle.io_workers.specs.Intake.{Intake, Progress}
use Rattle.io_workers.specs.declared.read_error.ReadError.TheVariants as error
use Rattle.board.specs.declared.control.Ending.{Ending}
use Rattle.rr_engine.specs.declared.ends.Break.{Break}
use Rattle.rr_engine.specs.declared.ends.Break.TheVariants.{ConsoleRead, NoMemory}
use Rattle.rr_engine.specs.declared.recorder.Recorder.{Recorder}
use Rattle.rr_engine.specs.Stand.{Stand, Devices, stand}
use Rattle.rr_engine.specs.Work.{work, FallsBy, Falls}
use Rattle.rr_engine.specs.Input.{Entire}
use Rattle.rr_engine.specs.declared.inputs.Trouble.{Trouble}
use Rattle.rr_engine.specs.declared.inputs.Trouble.TheVariants as trouble_is
use Rattle.rr_engine.specs.Feed.{Feed, Source, IsInput, IsOver, IsSound, Receives, event_of_item}
use Rattle.rr_engine.specs.Windows.{Remainder, Unreceived, Left, nothing_left}
use Rattle.rr_engine.specs.Recording.{Recorded, Goes, Stops, or_memory}
use Rattle.rr_engine.specs.Owed.{Enters, IsOwed, Rests}
use Rattle.rr_engine.specs.Rounds.{Fills, TookIn}
use Rattle.rr_engine.proofs.Receiving.{with_feed, receives-unfailed, received-entire, received-breaks, received-no-more, received-stops}
use Rattle.rr_engine.proofs.Hearing.{ends-count}
use Rattle.rr_engine.proofs.Joining.{recorded-none, recorded-then, goes-then, broken-to}
use Rattle.rr_engine.proofs.Entering.{entered, had-input, IsWindows}
use Rattle.rr_engine.proofs.Owing.{owes_piece, owes_packet}
use Rattle.rr_engine.proofs.Idling.{Typed, types, delivers, open-parts}
use Rattle.rr_engine.proofs.Endings.{goes-on}
use Rattle.rr_engine.proofs.Rounding.{entered-step, entered-works, entered-feed}

-- ---- one input

pub owes-input : (g : State) (x : Item) → IsInput x → takes_input g.control ≡ true → IsOwed g (event_of_item x)
owes-input g (item.Console bytes) is opens = owes_piece g bytes opens is
owes-input g (item.Packet packet) is opens = owes_packet g packet opens is
owes-input g (item.Done id read) is opens = absurd is

is-windows : (x : Item) → IsWindows (event_of_item x)
is-windows (item.Console bytes) = tt
is-windows (item.Packet packet) = tt
is-windows (item.Done id read) = tt

typed-by : (g h : State) (x : Item) → IsInput x → takes_input g.control ≡ true → step g (event_of_item x) ≡ Some h → Typed g h
typed-by g h (item.Console bytes) is opens s = types g h bytes s
typed-by g h (item.Packet packet) is opens s = delivers g h packet s
typed-by g h (item.Done id read) is opens s = absurd is

pub input-goes : (p q : Stand) (x : Item) (more : List Event) (b : Bool) (y : Result (Unit {0}) Break) → IsInput x
    → takes_input p.machine.control ≡ true → Enters p q (event_of_item x) y
    → Goes (Left (event_of_item x ∷ more) b) (Left more b) p q y
input-goes p q x more b y is opens en =
    entered p q (Left (event_of_item x ∷ more) b) (Left more b) p.gave (event_of_item x) y
    (owes-input p.machine x is opens).spelled (had-input p (event_of_item x) more b (is-windows x)) en

-- ---- all inputs

pub took-none : (p : Stand) → takes_input p.machine.control ≡ true → p.machine.devices.uart.out ≡ []
    → p.log.unsent.failed ≡ false → TookIn [] p p
took-none p opens silent works = record {
  opens = opens;
  silent = silent;
  works = works;
  feed = refl;
  window = inl (refl, refl);
  work = omega arith;
}

pub took-one : (p q r : Stand) (taken : List Item) (x : Item) → TookIn taken p q → IsInput x
    → Enters q r (event_of_item x) (Ok tt) → TookIn (taken ++ x ∷ []) p r
took-one p q r taken x t is en =
    let y = typed-by q.machine r.machine x is t.opens (entered-step q r (event_of_item x) (Ok tt) en) in
    record {
      opens = y.opens;
      silent = y.silent ∙ t.silent;
      works = entered-works q r (event_of_item x) (Ok tt) en;
      feed = entered-feed q r (event_of_item x) (Ok tt) en ∙ t.feed;
      window = inr y.used;
      work = omega (arith, t.work, y.work, length-append taken (x ∷ []));
    }

-- the items that are taken last wait first
pub record Taking (items waiting : List Item) (p q : Stand) : Type 0 where
  pub taken : List Item
  pub all : items ≡ taken ++ reverse waiting
  pub are : All IsInput (reverse waiting)
  pub recorded : (b : Bool) → Recorded Entire (Left (map event_of_item items) b) (Left (map event_of_item (reverse waiting)) b) p q
  pub took : TookIn taken p q

pub taking-starts : (items waiting : List Item) (p : Stand) → waiting ≡ reverse items → All IsInput items
    → takes_input p.machine.control ≡ true → p.machine.devices.uart.out ≡ [] → p.log.unsent.failed ≡ false
    → Taking items waiting p p
taking-starts items waiting p is are opens silent works =
    let same : reverse waiting ≡ items = ap reverse is ∙ reverse-reverse items in
    record {
      taken = [];
      all = sym same;
      are = subst (All IsInput) (sym same) are;
      recorded = λ b. subst (λ (z : List Item). Recorded Entire (Left (map event_of_item items) b) (Left (map event_of_item z) b) p p) (sym same)
          (recorded-none (Left (map event_of_item items) b) p works);
      took = took-none p opens silent works;
    }

last-first : (xs : List Item) (x : Item) → reverse (xs ++ x ∷ []) ≡ x ∷ reverse xs
last-first xs x = reverse-append xs (x ∷ [])

module _ (items before waiting : List Item) (x : Item) (is : before ≡ waiting ++ x ∷ []) (p q : Stand)
    (t : Taking items before p q) where
  first : reverse before ≡ x ∷ reverse waiting
  first = ap reverse is ∙ last-first waiting x

  split : All IsInput (x ∷ reverse waiting)
  split = subst (All IsInput) first t.are

  pub taking-input : IsInput x
  taking-input = All-head IsInput x (reverse waiting) split

  now : (b : Bool) → Recorded Entire (Left (map event_of_item items) b) (Left (event_of_item x ∷ map event_of_item (reverse waiting)) b) p q
  now b = subst (λ (z : List Item). Recorded Entire (Left (map event_of_item items) b) (Left (map event_of_item z) b) p q) first (t.recorded b)

  pub taking-more : (r : Stand) → Enters q r (event_of_item x) (Ok tt) → Taking items waiting p r
  taking-more r en = record {
    taken = t.taken ++ x ∷ [];
    all = t.all ∙ ap (λ z. t.taken ++ z) first ∙ sym (append_assoc t.taken (x ∷ []) (reverse waiting));
    are = All-tail IsInput x (reverse waiting) split;
    recorded = λ b. recorded-then Entire (Left (map event_of_item items) b)
        (Left (event_of_item x ∷ map event_of_item (reverse waiting)) b) (Left (map event_of_item (reverse waiting)) b) p q r (now b)
        (input-goes q r x (map event_of_item (reverse waiting)) b (Ok tt) taking-input t.took.opens en);
    took = took-one p q r t.taken x t.took taking-input en;
  }

  pub taking-breaks : (r : Stand) (e : Break) (b : Bool) → Enters q r (event_of_item x) (Err e)
      → Goes (Left (map event_of_item items) b) (Left [] b) p r (Err e)
  taking-breaks r e b en =
      broken-to (Left (map event_of_item items) b) (Left (map event_of_item (reverse waiting)) b) (Left [] b) p r e
      (goes-then (Left (map event_of_item items) b)
      (Left (event_of_item x ∷ map event_of_item (reverse waiting)) b) (Left (map event_of_item (reverse waiting)) b) p q r (Err e) (now b)
      (input-goes q r x (map event_of_item (reverse waiting)) b (Err e) taking-input t.took.opens en))

-- where one wasn't entered, there was one
pub taking-some : (items before waiting : List Item) (x : Item) → before ≡ waiting ++ x ∷ [] → (p q : Stand)
    → Taking items before p q → items ≡ [] → ⊥
taking-some items before waiting x is p q t none =
    let size : length items ≡ length t.taken + length (x ∷ reverse waiting) =
    ap length t.all ∙ length-append t.taken (reverse before)
    ∙ ap (λ z. length t.taken + length z) (ap reverse is ∙ last-first waiting x) in
    absurd (omega (arith, size, ap length none))

pub taking-ends : (items waiting : List Item) (p q : Stand) → waiting ≡ [] → Taking items waiting p q
    → ((b : Bool) → Recorded Entire (Left (map event_of_item items) b) (Left [] b) p q) × TookIn items p q
taking-ends items waiting p q none t =
    let same : items ≡ t.taken = t.all ∙ ap (λ z. t.taken ++ reverse z) none ∙ append-nil t.taken in (
      λ b. subst (λ (z : List Item). Recorded Entire (Left (map event_of_item items) b) (Left (map event_of_item (reverse z)) b) p q) none (t.recorded b),
      subst (λ (z : List Item). TookIn z p q) (sym same) t.took,
    )

-- ---- what the window leaves to the next

source-falls : (i j : Intake) (m n : ℕ) (xs : List Event) (trouble : Option Trouble) → Receives (Source i) (Source j) xs trouble
    → n ≤ m + 2 * length xs → FallsBy 0 (Source i) (Source j) m n
source-falls i j m n xs trouble (Ok (Some piece), next, events, is) h =
    omega (arith, next.count, next.some, next.within, ap length events, h)
source-falls i j m n xs trouble (Ok None, next, events, is) h =
    omega (arith, ends-count i j next, ap length events, h)
source-falls i j m n xs trouble (Err error.Failed, next, events, is) h =
    omega (arith, ap (λ (z : Progress). z.count) next.progress, ap length events, h)
source-falls i j m n xs trouble (Err error.NoMemory, next, events, is) h =
    omega (arith, ap (λ (z : Intake). z.progress.count) next.1, ap length events, h)

receives-falls : (s t : Feed) (m n : ℕ) (xs : List Event) (trouble : Option Trouble) → Receives s t xs trouble
    → n ≤ m + 2 * length xs → FallsBy 0 s t m n
receives-falls (Source i) (Source j) m n xs trouble r h = source-falls i j m n xs trouble r h

pub window-falls : (p q : Stand) (f : Feed) (items : List Item) (trouble : Option Trouble)
    → Receives p.feed f (map event_of_item items) trouble → TookIn items (record p { feed = f }) q → Falls 0 p q
window-falls p q f items trouble received t =
    subst (λ (z : Feed). FallsBy 0 p.feed z (work p.machine) (work q.machine)) (sym t.feed)
    (receives-falls p.feed f (work p.machine) (work q.machine) (map event_of_item items) trouble received
    (omega (arith, t.work, length-map items event_of_item)))

abbrev none : Option Ending
none = None

not-ended : (c : ℕ) → none ≡ Some (record { reason = 1; code = c }) → ⊥
not-ended c e = cc

pub window-rests : (p q : Stand) (f : Feed) (items : List Item) (trouble : Option Trouble) (idle : Bool) → trouble ≡ None
    → (p.machine.control.window ≡ window.Idle false → idle ≡ true)
    → (idle ≡ true → items ≡ [] → trouble ≡ None → IsOver f) → IsSound f → TookIn items (record p { feed = f }) q → Rests q
window-rests p q f items trouble idle well is quiet sound t =
    let going = (open-parts q.machine.control.ended q.machine.control.window t.opens).0 in
    record {
      own = goes-on q.machine going;
      silent = λ w. t.silent;
      idle = λ w. elim t.window [
        | inl same ↦ subst IsOver (sym t.feed) (quiet (is (sym same.1 ∙ w)) same.0 well)
        | inr used ↦ absurd (used w)
      ];
      wakeless = λ c ended. absurd (not-ended c (sym going ∙ ended));
      sound = subst IsSound (sym t.feed) sound;
    }

-- ---- the whole window

pub trouble-is : (o : Option Trouble) (a b : Trouble) → o ≡ Some a → a ≡ b → o ≡ Some b
trouble-is o a b e same = subst (λ (z : Trouble). o ≡ Some z) same e

abbrev pub received_devices : Devices → Devices → Devices
received_devices d d' = record d { input = d'.input; input_faults = d'.input_faults }

-- items of which there are some have events
some-events : (items : List Item) → (items ≡ [] → ⊥) → map event_of_item items ≡ [] → ⊥
some-events [] some e = some refl
some-events (x ∷ xs) some e = absurd cc

-- from where its inputs weren't received yet
module _ {I : Type 0} (feed : I → Option (List ℕ) → ℕ → Feed) (r : Recorder I) (d d' : Devices) (i : I)
    (rest : d' ≡ received_devices d d') (items : List Item) (trouble : Option Trouble)
    (received : Receives (feed r.inputs d.input d.input_faults) (feed i d'.input d'.input_faults)
    (map event_of_item items) trouble) where
  abbrev before : Stand
  before = stand feed r d

  abbrev given : Feed
  given = feed i d'.input d'.input_faults

  abbrev after : Stand
  after = stand feed (record r { inputs = i }) d'

  abbrev events : List Event
  events = map event_of_item items

  here : after ≡ with_feed before given
  here = ap (λ z. stand feed (record r { inputs = i }) z) rest

  -- they were entered, or one of them wasn't
  abbrev Entered : Stand → Result (Unit {0}) Break → Type 0
  Entered q x = (troubled : Bool) → Goes (Left events troubled) (Left [] troubled) after q x

  from-before : (q : Stand) (x : Result (Unit {0}) Break) → Entered q x
      → Goes (Left events (is_some trouble)) (Left [] (is_some trouble)) (with_feed before given) q x
  from-before q x e =
      subst (λ (z : Stand). Goes (Left events (is_some trouble)) (Left [] (is_some trouble)) z q x) here
      (e (is_some trouble))

  took-before : (q : Stand) → TookIn items after q → TookIn items (with_feed before given) q
  took-before q t = subst (λ (z : Stand). TookIn items z q) here t

  pub window-breaks : (q : Stand) (b : Break) → (items ≡ [] → ⊥) → Entered q (Err b) → Fills before q (Err b)
  window-breaks q b some e = record {
    goes = received-breaks before given events trouble received (Left [] (is_some trouble)) nothing_left q b
        (some-events items some) (from-before q (Err b) e);
    works = tt;
    left = tt;
    rests = tt;
  }

  window-goes : (q : Stand) → trouble ≡ None → Entered q (Ok tt) → Recorded Entire Unreceived nothing_left before q
  window-goes q well e =
      received-entire before given events trouble received nothing_left q
      (receives-unfailed before.feed given events trouble (λ deaf. no-trouble (sym well ∙ deaf)) received)
      (subst (λ (z : Option Trouble). Recorded Entire (Left events (is_some trouble)) (Left [] (is_some z))
      (with_feed before given) q) well (from-before q (Ok tt) e))
    where
      no-trouble : None ≡ Some trouble_is.ConsoleRead → ⊥
      no-trouble x = cc

  pub window-fills : (q : Stand) (idle : Bool) → trouble ≡ None
      → (before.machine.control.window ≡ window.Idle false → idle ≡ true)
      → (idle ≡ true → items ≡ [] → trouble ≡ None → IsOver given) → IsSound given
      → Entered q (Ok tt) → TookIn items after q → Fills before q (Ok tt)
  window-fills q idle well is quiet sound e t = record {
    goes = window-goes q well e;
    works = t.works;
    left = window-falls before q given items trouble received (took-before q t);
    rests = window-rests before q given items trouble idle well is quiet sound (took-before q t);
  }

  pub window-no-memory : (q : Stand) → Entered q (Ok tt) → Fills before q (Err NoMemory)
  window-no-memory q e = record {
    goes = received-no-more before given events trouble received q (from-before q (Ok tt) e);
    works = tt;
    left = tt;
    rests = tt;
  }

  pub window-stops : (q s : Stand) (c : Break) (x : Result (Unit {0}) Break)
      → trouble ≡ Some trouble_is.ConsoleRead → Entered q (Ok tt) → TookIn items after q
      → c ≡ or_memory ConsoleRead x → ((before : Remainder) → Stops Entire before q s x)
      → Fills before s (Err c)
  window-stops q s c x deaf e t is stops = record {
    goes = received-stops before given events trouble received q (from-before q (Ok tt) e) s deaf
        (took-before q t).feed c x is stops;
    works = tt;
    left = tt;
    rests = tt;
  }
