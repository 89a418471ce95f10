-- The bytes of a log that was broken off: its accepted events, and a part of the next.
use Rattle.std.proofs.Common.{◌≡◌, ℕ, ◌^◌, List, [], ◌∷◌, ◌++◌, refl, sym, ap, ◌∙◌, inl, inr, append_assoc, subst, ◌⊎◌, take}
use Rattle.std.specs.Prelude.{Some, None, IfSome}
use Rattle.std.specs.declared.option.Option.{Option}
use Rattle.std.specs.List.{AllByRecursion}
use Rattle.outside.specs.Told.{TakesFront}
use Rattle.event_log.specs.declared.event.Event.{Event}
use Rattle.event_log.specs.declared.event.Event.TheVariants as event
use Rattle.event_log.specs.Spelling.{texts, IsEvent}
use Rattle.event_log.specs.Fronts.{IsPartOfNext}
use Rattle.event_log.proofs.FrontLemmas.{front_of_texts}
use Rattle.board.specs.State.{State}
use Rattle.board.specs.Runs.{step, run, then_run}
use Rattle.board.specs.Taken.{Taken, out_alone, with_taken, without_out, map_taken}
use Rattle.board.proofs.TakenLaws.{run-with}
use Rattle.rr_engine.specs.Stand.{Devices}
use Rattle.rr_engine.specs.Input.{Part, Paid, Hears}
use Rattle.rr_engine.specs.Recording.{clock_values, Gave}
use Rattle.rr_engine.specs.Runs.{Came, Front, OneIsFront, IsPartOfEvent, IsLogOf}
use Rattle.rr_engine.proofs.Hearing.{hears-front}
use Rattle.rr_engine.proofs.Joining.{some_is, then-more, run-none, values-append}
use Rattle.rr_engine.proofs.Stopping.{taken-before}

-- two ways to cut one list
cut : (h t b r : List ℕ) → h ++ t ≡ b ++ r
    → ((x : List ℕ) × (h ≡ b ++ x)) ⊎ ((p : List ℕ) × (b ≡ h ++ p) × (t ≡ p ++ r))
cut [] t b r e = inr (b, refl, e)
cut (x ∷ h) t [] r e = inl (x ∷ h, refl)
cut (x ∷ h) t (y ∷ b) r e =
    let head : x ≡ y = cc in
    let tail : h ++ t ≡ b ++ r = cc in
    elim (cut h t b r tail) [
      | inl c ↦ inl (c.0, ap (λ z. x ∷ z) c.1 ∙ ap (λ z. z ∷ (b ++ c.0)) head)
      | inr c ↦ inr (c.0, ap (λ z. y ∷ z) c.1 ∙ ap (λ z. z ∷ (h ++ c.0)) (sym head), c.2)
    ]

-- two fronts of one list
compare : (a b r s : List ℕ) → a ++ r ≡ b ++ s → OneIsFront a b
compare a b r s e =
    elim (cut a r b s e) [
      | inl c ↦ inr (c.0, c.1)
      | inr c ↦ inl (c.0, c.1)
    ]

-- a run is cut between its events
run-cut : (es fs : List Event) (g last : State) → run g (es ++ fs) ≡ Some last
    → (mid : State) × (run g es ≡ Some mid) × (run mid fs ≡ Some last)
unfolding run
run-cut [] fs g last r = (g, refl, r)
run-cut (e ∷ es) fs g last r =
    let more = then-more (step g e) (λ h. run h (es ++ fs)) last r in
    let rest = run-cut es fs more.0 last more.2 in
    (rest.0, ap (λ (z : Option State). then_run z (λ h. run h es)) more.1 ∙ rest.1, rest.2)

all-front : (es fs : List Event) → AllByRecursion IsEvent (es ++ fs) → AllByRecursion IsEvent es
all-front [] fs all = tt
all-front (e ∷ es) fs all = (all.0, all-front es fs all.1)

all-rest : (es fs : List Event) → AllByRecursion IsEvent (es ++ fs) → AllByRecursion IsEvent fs
all-rest [] fs all = all
all-rest (e ∷ es) fs all = all-rest es fs all.1

mapped : (front : Taken) (o : Option State) (h : State) → map_taken front o ≡ Some h
    → (k : State) × (o ≡ Some k) × (h ≡ with_taken front k)
mapped front None h e = absurd cc
mapped front (Some k) h e = (k, refl, sym (some_is (with_taken front k) h e))

-- console bytes are only added
grows : (es : List Event) (g h : State) → run g es ≡ Some h
    → (more : List ℕ) × (h.devices.uart.out ≡ g.devices.uart.out ++ more)
grows es g h r =
    let out = g.devices.uart.out in
    let behind : map_taken (out_alone out) (run (without_out g) es) ≡ Some h =
    sym (run-with (out_alone out) es (without_out g)) ∙ ap (λ z. run z es) (taken-before g) ∙ r in
    let m = mapped (out_alone out) (run (without_out g) es) h behind in
    (m.0.devices.uart.out, ap (λ (z : State). z.devices.uart.out) m.2)

part-of-event : (es : List Event) (part : List ℕ) → AllByRecursion IsEvent es → IsPartOfNext es part
    → IsPartOfEvent part
part-of-event [] part all none =
    subst IsPartOfEvent (sym none) (record
    { event = event.Interrupt; is = tt; rest = 1 ∷ []; spelled = refl; less = λ e. absurd cc })
part-of-event (e ∷ es) part all next = record
    { event = e; is = all.0; rest = next.0; spelled = next.1; less = next.2 }

console-none : (start : State) (console : Option (List ℕ)) → start.devices.uart.out ≡ []
    → IfSome console (λ shown. OneIsFront shown start.devices.uart.out)
console-none start None e = tt
console-none start (Some shown) e = rw e (inr (shown, refl))

console-front : (console : Option (List ℕ)) (mid last : State) (more : List ℕ)
    → last.devices.uart.out ≡ mid.devices.uart.out ++ more
    → TakesFront (Some []) console last.devices.uart.out
    → IfSome console (λ shown. OneIsFront shown mid.devices.uart.out)
console-front None mid last more e t = tt
console-front (Some shown) mid last more e t =
    compare shown mid.devices.uart.out t.rest more (ap (λ z. z ++ t.rest) t.taken ∙ sym t.whole ∙ e)

clock-front : (gave : Option (List ℕ)) (es fs : List Event)
    → Gave Part (Some []) gave (clock_values (es ++ fs))
    → IfSome gave (λ values. (rest : List ℕ) × (values ≡ clock_values es ++ rest))
clock-front None es fs g = tt
clock-front (Some values) es fs g = (
  clock_values fs ++ g.more,
  g.gave ∙ ap (λ z. z ++ g.more) (values-append es fs) ∙ append_assoc (clock_values es)
      (clock_values fs) g.more,
)

clock-any : (gave : Option (List ℕ))
    → IfSome gave (λ values. (rest : List ℕ) × (values ≡ [] ++ rest))
clock-any None = tt
clock-any (Some values) = (values, refl)

input-front : (input left : Option (List ℕ)) (es fs : List Event) → Came Part input left (es ++ fs)
    → IfSome input (λ bytes. (rest : List ℕ) × Hears Part Paid (take (2 ^ 40) bytes) es rest)
input-front None left es fs c = tt
input-front (Some x) left es fs c =
    hears-front Part Paid es fs (take (2 ^ 40) x) c.heard.0 c.heard.1

input-any : (input : Option (List ℕ))
    → IfSome input (λ bytes. (rest : List ℕ) × Hears Part Paid (take (2 ^ 40) bytes) [] rest)
input-any None = tt
input-any (Some x) = (take (2 ^ 40) x, (λ whole. absurd cc, refl))

-- devices that tell this
abbrev pub told : Option (List ℕ) → Option (List ℕ) → Option (List ℕ) → Option (List ℕ) → Devices
told log console input gave = record {
  log = log;
  log_faults = 0;
  console = console;
  console_faults = 0;
  input = input;
  input_faults = 0;
  gave = gave;
}

log-of : (start : State) (head bytes : List ℕ) (console input left gave : Option (List ℕ))
    → start.devices.uart.out ≡ []
    → Front start head (told (Some []) (Some []) input (Some []))
    (told (Some bytes) console left gave)
    → IsLogOf start head bytes console input gave
log-of start head bytes console input left gave none f =
    let whole : head ++ texts f.events ≡ bytes ++ f.log.rest =
    f.log.whole ∙ ap (λ z. z ++ f.log.rest) (sym f.log.taken) in
    elim (cut head (texts f.events) bytes f.log.rest whole) [
      | inl c ↦ record {
        events = [];
        last = start;
        are = tt;
        runs = run-none start;
        spelled = inl (refl, c);
        console_shown = console-none start console none;
        input_came = input-any input;
        clock_gave = clock-any gave;
      }
      | inr c ↦
          let t = front_of_texts f.events c.0 f.log.rest c.2 in
          let r = run-cut t.whole t.left start f.last
          (ap (λ z. run start z) (sym t.events) ∙ f.runs) in
          let all = subst (AllByRecursion IsEvent) t.events f.are in
          let more = grows t.left r.0 f.last r.2 in
          record {
            events = t.whole;
            last = r.0;
            are = all-front t.whole t.left all;
            runs = r.1;
            spelled = inr (
              t.part,
              c.1 ∙ ap (λ z. head ++ z) t.bytes,
              part-of-event t.left t.part
                  (all-rest t.whole t.left all) t.next,
            );
            console_shown = console-front console r.0 f.last more.0 more.1 f.console;
            input_came = input-front input left t.whole t.left
                (subst (λ (z : List Event). Came Part input left z) t.events f.input);
            clock_gave = clock-front gave t.whole t.left
                (subst (λ (z : List Event). Gave Part (Some []) gave (clock_values z)) t.events
                f.clock);
          }
    ]

-- of a log that was broken off, what its bytes are, where they are told
pub is_log : (start : State) (head : List ℕ) (log console input left gave : Option (List ℕ))
    → start.devices.uart.out ≡ []
    → Front start head (told (Some []) (Some []) input (Some [])) (told log console left gave)
    → IfSome log (λ bytes. IsLogOf start head bytes console input gave)
is_log start head None console input left gave none f = tt
is_log start head (Some bytes) console input left gave none f =
    log-of start head bytes console input left gave none f
