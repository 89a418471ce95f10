-- The state at a count is the last with it.
use Rattle.std.proofs.Common.{◌≡◌, ℕ, zero, suc, ◌<◌, ◌≤◌, ◌+◌, ◌-◌, refl, sym, ap, ◌∙◌, inl, inr, arith, subst, List, [], ◌∷◌, ◌++◌, append_assoc}
use Rattle.std.specs.Prelude.{nat_le, Option, Some}
use Rattle.std.specs.List.{AllByRecursion}
use Rattle.std.proofs.lemmas.Bool.{cases_Bool, leb-true, leb-false}
use Rattle.event_log.specs.declared.event.Event.{Event}
use Rattle.event_log.specs.declared.event.Event.TheVariants.{Instruction}
use Rattle.board.specs.State.{State}
use Rattle.board.specs.Turn.{turn}
use Rattle.board.specs.Due.{due}
use Rattle.board.specs.Runs.{is_run, after, ran, step, run, turns_of, state_at}
use Rattle.board.proofs.Counting.{turn-counts}
use Rattle.reverse_seek.specs.Script.{Script, IsScript}
use Rattle.reverse_seek.specs.Trace.{before_turns, before_event, then_states, states_of, IsLastAt}
use Rattle.reverse_seek.proofs.Turns.{parts, step_ran, run_first}
use Rattle.reverse_seek.proofs.Standing.{state_past, state_within, step_count, last_state}

-- the count of each state is above this
abbrev Above : ℕ → List State → Type 0
Above n states = AllByRecursion (λ h. n < h.devices.time.count) states

above-both : (n : ℕ) (xs ys : List State) → Above n xs → Above n ys → Above n (xs ++ ys)
above-both n [] ys p q = q
above-both n (x ∷ xs) ys p q = (p.0, above-both n xs ys p.1 q)

above-turns : (n k : ℕ) (g : State) → ran k g ≡ k → n < g.devices.time.count → Above n (before_turns k g)
unfolding ran
above-turns n zero g all more = tt
above-turns n (suc k) g all more =
    elim (cases_Bool (is_run (due g))) [
      | inl on ↦
          let rest : suc (ran k (turn g)) ≡ suc k = rw on at all in
          (more, above-turns n k (turn g) (omega (arith, rest)) (omega (arith, more, (turn-counts g on).count)))
      | inr off ↦ absurd (omega (arith, rw off at all))
    ]

above-event : (n : ℕ) (g h : State) (e : Event) → step g e ≡ Some h → n < g.devices.time.count
    → Above n (before_event g e)
above-event n g h (Instruction t) is more = above-turns n t g (step_ran t g h is).0 more
above-event n g h e is more = (more, tt)

-- the states of a run whose first event is accepted
states-more : (g h : State) (e : Event) (es : List Event) → step g e ≡ Some h
    → states_of g (e ∷ es) ≡ before_event g e ++ states_of h es
states-more g h e es is = ap (λ o. before_event g e ++ then_states o (λ z. states_of z es)) is

above-states : (n : ℕ) (es : List Event) (g last : State) → run g es ≡ Some last
    → n < g.devices.time.count → Above n (states_of g es)
unfolding run
above-states n [] g last ran_to more = (more, tt)
above-states n (e ∷ es) g last ran_to more =
    let (h, is, then_to) = run_first (step g e) (λ z. run z es) last ran_to in
    let later : n < h.devices.time.count = omega (arith, more, step_count g h e is) in
    subst (Above n) (sym (states-more g h e es is))
    (above-both n (before_event g e) (states_of h es) (above-event n g h e is more)
    (above-states n es h last then_to later))

-- m of t turns were made, and the others follow
turns-parts : (m t : ℕ) (g : State) → m < t → ran t g ≡ t
    → before_turns t g ≡ before_turns m g ++ after m g ∷ before_turns (t - suc m) (after (suc m) g)
unfolding after ran
turns-parts m zero g less all = absurd (omega arith)
turns-parts zero (suc t) g less all =
    elim (cases_Bool (is_run (due g))) [
      | inl on ↦ let one : suc t - 1 ≡ t = omega arith in rw on (rw one refl)
      | inr off ↦ absurd (omega (arith, rw off at all))
    ]
turns-parts (suc m) (suc t) g less all =
    elim (cases_Bool (is_run (due g))) [
      | inl on ↦
          let rest : suc (ran t (turn g)) ≡ suc t = rw on at all in
          let p = turns-parts m t (turn g) (omega arith) (omega (arith, rest)) in
          let same : suc t - suc (suc m) ≡ t - suc m = omega arith in
          rw on (rw same (ap (λ z. g ∷ z) p))
      | inr off ↦ absurd (omega (arith, rw off at all))
    ]

-- in the middle of an INSTRUCTION
middle : (m : ℕ) (g h last : State) (e : Event) (es : List Event) → step g e ≡ Some h
    → run h es ≡ Some last → m < turns_of e
    → IsLastAt (states_of g (e ∷ es)) (g.devices.time.count + m) (after m g)
middle m g h last (Instruction t) es is then_to less =
    let all = (step_ran t g h is).0 in
    let p = parts m t g (omega (arith, less)) all in
    let q = parts (suc m) t g (omega (arith, less)) all in
    let n = g.devices.time.count + m in
    let later : n < h.devices.time.count = omega (arith, less, step_count g h (Instruction t) is) in
    record {
      front = before_turns m g;
      behind = before_turns (t - suc m) (after (suc m) g) ++ states_of h es;
      place = states-more g h (Instruction t) es is
          ∙ ap (λ z. z ++ states_of h es) (turns-parts m t g less all)
          ∙ append_assoc (before_turns m g) (after m g ∷ before_turns (t - suc m) (after (suc m) g))
          (states_of h es);
      count = p.count;
      above = above-both n (before_turns (t - suc m) (after (suc m) g)) (states_of h es)
          (above-turns n (t - suc m) (after (suc m) g) q.rest (omega (arith, q.count)))
          (above-states n es h last then_to later);
    }
middle m g h last e es is then_to less = absurd (omega (arith, less))

abbrev some_state : State → Option State
some_state g = Some g

some-same : (g h : State) → some_state g ≡ some_state h → g ≡ h
some-same g h e = cc

last-at : (m : ℕ) (es : List Event) (g last : State) → run g es ≡ Some last
    → g.devices.time.count + m ≤ last.devices.time.count
    → IsLastAt (states_of g es) (g.devices.time.count + m) (state_at g es m)
unfolding run state_at after
last-at m [] g last ran_to within =
    let same : g ≡ last = some-same g last ran_to in
    let none : m ≡ 0 = omega (arith, within, ap (λ (z : State). z.devices.time.count) same) in
    rw none (record { front = []; behind = []; place = refl; count = omega arith; above = tt })
last-at m (e ∷ es) g last ran_to within =
    let (h, is, then_to) = run_first (step g e) (λ z. run z es) last ran_to in
    let count = step_count g h e is in
    elim (cases_Bool (nat_le (turns_of e) m)) [
      | inl on ↦
          let past = leb-true (turns_of e) m on in
          let x = last-at (m - turns_of e) es h last then_to (omega (arith, count, past, within)) in
          let n : h.devices.time.count + (m - turns_of e) ≡ g.devices.time.count + m =
          omega (arith, count, past) in
          subst (IsLastAt (states_of g (e ∷ es)) (g.devices.time.count + m))
          (sym (state_past m g h e es is past))
          (record {
            front = before_event g e ++ x.front;
            behind = x.behind;
            place = states-more g h e es is ∙ ap (λ z. before_event g e ++ z) x.place
                ∙ sym (append_assoc (before_event g e) x.front
                (state_at h es (m - turns_of e) ∷ x.behind));
            count = x.count ∙ n;
            above = subst (λ z. Above z x.behind) n x.above;
          })
      | inr off ↦
          let less = leb-false (turns_of e) m off in
          subst (IsLastAt (states_of g (e ∷ es)) (g.devices.time.count + m))
          (sym (state_within m g e es less)) (middle m g h last e es is then_to less)
    ]

pub last-at-its-count : (s : Script) → IsScript s → (n : ℕ) → n ≤ s.last
    → IsLastAt (states_of s.start s.events) n (state_at s.start s.events n)
last-at-its-count s is n within =
    let (f, ran_to, last) = last_state s is in
    let none = is.begins in
    let same : s.start.devices.time.count + n ≡ n = omega (arith, none) in
    subst (λ z. IsLastAt (states_of s.start s.events) z (state_at s.start s.events n)) same
    (last-at n s.events s.start f ran_to (omega (arith, none, last, within)))
