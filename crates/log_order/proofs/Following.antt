-- One event after another.
use Rattle.std.proofs.Common.{◌≡◌, ◌≢◌, ℕ, ◌<◌, ◌≤◌, ◌+◌, ◌^◌, List, [], ◌∷◌, ◌++◌, length, drop, refl, sym, ap, ◌∙◌, arith, length-append, length-drop, append_assoc}
use Rattle.std.specs.Prelude.{Option, Some, None, IsSome, Ok, Err}
use Rattle.std.specs.List.{AllByRecursion}
use Rattle.event_log.specs.declared.event.Event.{Event}
use Rattle.event_log.specs.declared.event.Event.TheVariants as event_is
use Rattle.event_log.specs.Spelling.{text, texts, IsEvent}
use Rattle.event_log.proofs.FrontLemmas.{texts_more}
use Rattle.board.specs.State.{State}
use Rattle.board.specs.Due.{due}
use Rattle.board.specs.Runs.{step, run, then_run}
use Rattle.log_order.specs.declared.refusal.Found.TheVariants as found
use Rattle.log_order.specs.declared.runner.FeedError.{FeedError}
use Rattle.log_order.specs.declared.runner.FeedError.TheVariants as error
use Rattle.log_order.specs.Order.{Accepted}
use Rattle.log_order.specs.Feeding.{Progress, starting, refused, refused_first}
use Rattle.log_order.specs.Judging.{Judges, Follows}

-- where a run of a log stands, at a place before which all was accepted
pub record Followed (bytes : List ℕ) (g : State) (place : ℕ) (p : Progress) : Type 0 where
  pub within : place ≤ length bytes
  pub events : List Event
  pub accepted : Accepted (drop 98 bytes) g events (drop place bytes) p.machine
  pub index : p.index ≡ length events
  pub offset : place ≡ 98 + length (texts events)
  pub apart : length events + 98 ≤ place
  pub out : p.out ≡ p.machine.devices.uart.out
  pub unrefused : p.refusal ≡ None

accepted-none : (bytes : List ℕ) (g : State) → Accepted bytes g [] bytes g
unfolding run
accepted-none bytes g = record { parts = refl; are = tt; runs = refl }

all-more : (es : List Event) (e : Event) → AllByRecursion IsEvent es → IsEvent e
    → AllByRecursion IsEvent (es ++ e ∷ [])
all-more [] e all is = (is, tt)
all-more (d ∷ es) e all is = (all.0, all-more es e all.1 is)

pub then-more : (o : Option State) (f : State → Option State) (h : State) → then_run o f ≡ Some h
    → (mid : State) × (o ≡ Some mid) × (f mid ≡ Some h)
then-more None f h e = absurd cc
then-more (Some mid) f h e = (mid, refl, e)

abbrev pub some_state : State → Option State
some_state g = Some g

pub some_is : (g h : State) → some_state g ≡ some_state h → g ≡ h
some_is g h e = cc

run-more : (es : List Event) (g mid last : State) (e : Event) → run g es ≡ Some mid
    → step mid e ≡ Some last → run g (es ++ e ∷ []) ≡ Some last
unfolding run
run-more [] g mid last e r s =
    let same : g ≡ mid = some_is g mid r in
    rw same (rw s refl)
run-more (d ∷ es) g mid last e r s =
    let p = then-more (step g d) (λ h. run h es) mid r in
    rw p.1 (run-more es p.0 mid last e p.2 s)

accepted-more : (bytes : List ℕ) (g mid last : State) (es : List Event) (e : Event)
    (rest more : List ℕ) → Accepted bytes g es rest mid
    → IsEvent e → rest ≡ text e ++ more → step mid e ≡ Some last
    → Accepted bytes g (es ++ e ∷ []) more last
accepted-more bytes g mid last es e rest more a is split s =
    record {
      parts = a.parts ∙ ap (λ z. texts es ++ z) split ∙ sym (append_assoc (texts es) (text e) more)
          ∙ ap (λ z. z ++ more) (sym (texts_more es e));
      are = all-more es e a.are is;
      runs = run-more es g mid last e a.runs s;
    }

pub text-some : (e : Event) → 0 < length (text e)
text-some (event_is.Instruction n) = omega arith
text-some e = omega arith

-- ---- the steps of a run

pub followed-none : (bytes : List ℕ) (p : Progress) → 98 ≤ length bytes → p ≡ starting p.machine
    → Followed bytes p.machine 98 p
followed-none bytes p enough new = record {
  within = enough;
  events = [];
  accepted = accepted-none (drop 98 bytes) p.machine;
  index = ap (λ (z : Progress). z.index) new;
  offset = omega arith;
  apart = omega arith;
  out = ap (λ (z : Progress). z.out) new;
  unrefused = ap (λ (z : Progress). z.refusal) new;
}

pub followed-more : (bytes : List ℕ) (g : State) (place next : ℕ) (p q : Progress)
    → Followed bytes g place p
    → Follows bytes place p (Ok next) q → next ≤ length bytes → next < 2 ^ 64
    → Followed bytes g next q
followed-more bytes g place next p q f (e, h, (is, split, n), stepped, new) within fits =
    let counted : length (f.events ++ e ∷ []) ≡ length f.events + 1 =
    length-append f.events (e ∷ []) in
    let sizes : length (texts (f.events ++ e ∷ [])) ≡ length (texts f.events) + length (text e) =
    ap length (texts_more f.events e) ∙ length-append (texts f.events) (text e) in
    let some = text-some e in
    record {
      within = within;
      events = f.events ++ e ∷ [];
      accepted = rw new
          (accepted-more (drop 98 bytes) g p.machine h f.events e (drop place bytes)
          (drop next bytes) f.accepted is split stepped);
      index = ap (λ (z : Progress). z.index) new
          ∙ omega (arith, counted, f.index, f.apart, n, some, fits);
      offset = omega (arith, sizes, n, f.offset);
      apart = omega (arith, counted, f.apart, n, some);
      out = rw new refl;
      unrefused = ap (λ (z : Progress). z.refusal) new;
    }

pub judged-wrong : (bytes : List ℕ) (g : State) (place : ℕ) (p q : Progress) (why : FeedError)
    → Followed bytes g place p
    → Follows bytes place p (Err why) q → Judges (drop 98 bytes) 98 g (Some why) q
judged-wrong bytes g place p q error.Refused f (what, d, last, wrong, new) = record {
  refusal = record { index = p.index; offset = place; due = d; found = what };
  is = ap (λ (z : Progress). z.refusal) new;
  mid = p.machine;
  wrong = record {
    events = f.events;
    rest = drop place bytes;
    accepted = f.accepted;
    index = f.index;
    offset = f.offset;
    wrong = rw new wrong;
  };
  out = ap (λ (z : Progress). z.out) new ∙ f.out;
}
judged-wrong bytes g place p q error.NoMemory f (none, wants) = record {
  unrefused = none;
  events = f.events;
  rest = drop place bytes;
  mid = p.machine;
  accepted = f.accepted;
  wants = wants;
}

pub judged-more : (bytes : List ℕ) (g : State) (place : ℕ) (p q : Progress)
    → Followed bytes g place p
    → IsSome p.machine.control.ended → place < length bytes
    → q ≡ refused_first p.refusal p place found.MoreBytes
    → Judges (drop 98 bytes) 98 g (Some error.Refused) q
judged-more bytes g place p q f ended more new =
    let some : drop place bytes ≢ [] =
    λ none. absurd (omega (arith, more, length-drop place bytes, ap length none)) in
    let first : q ≡ refused p p.machine place (due p.machine) found.MoreBytes =
    new ∙ ap (λ z. refused_first z p place found.MoreBytes) f.unrefused in
    judged-wrong bytes g place p q error.Refused f
    (found.MoreBytes, due p.machine, p.machine, (ended, some, refl, refl), first)
