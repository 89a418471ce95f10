-- The first wrong place of a log is one, and no longer part is accepted.
use Rattle.std.proofs.Common.{◌≡◌, ℕ, ◌+◌, ◌≤◌, Bool, true, false, List, [], ◌∷◌, ◌++◌, length, length-append, refl, sym, ap, ◌∙◌, arith, append_assoc}
use Rattle.std.specs.Prelude.{Option, Some, None, IsSome, IsNone, is_some, is_none, Result, Err, ◌&&◌}
use Rattle.event_log.specs.declared.event.Event.{Event}
use Rattle.event_log.specs.declared.rule.Rule.{Rule}
use Rattle.event_log.specs.Grammar.{Fault, Cut, Bad, Stops}
use Rattle.event_log.specs.Spelling.{event, text, texts, IsEvent}
use Rattle.event_log.proofs.Exact.{meets_read}
use Rattle.event_log.proofs.FrontLemmas.{same_front, front_stops}
use Rattle.board.specs.State.{State}
use Rattle.board.specs.Accept.{is_open, takes_input}
use Rattle.board.specs.Close.{close}
use Rattle.board.specs.Due.{due, due_closed}
use Rattle.board.specs.Runs.{is_run, ran, step, run, due_at}
use Rattle.board.specs.Effect.{Effect, IsStep}
use Rattle.board.specs.Effect as by
use Rattle.board.specs.declared.due.Due.{Due}
use Rattle.board.specs.declared.due.Due.TheVariants as due_is
use Rattle.board.proofs.Counting.{close-keeps}
use Rattle.board.proofs.RunFacts.{ran-none}
use Rattle.board.proofs.Effects.{step_of}
use Rattle.log_order.specs.declared.refusal.Found.{Found}
use Rattle.log_order.specs.declared.refusal.Found.TheVariants as found
use Rattle.log_order.specs.declared.refusal.Refusal.{Refusal}
use Rattle.log_order.specs.Order.{Accepted, IsWrong, IsFirstWrong, IsWhole, stands}
use Rattle.log_order.proofs.Following.{then-more, some_is, text-some}

-- ---- after the end nothing is accepted

not-none : {A : Type 0} (o : Option A) → IsSome o → is_none o ≡ false
not-none None some = absurd cc
not-none (Some x) some = refl

some-not-none : {A : Type 0} (o : Option A) → IsSome o → IsNone o → ⊥
some-not-none None some none = absurd cc
some-not-none (Some x) some none = absurd cc

ended-due : (g : State) → IsSome g.control.ended → due g ≡ due_is.Nothing
unfolding due due_closed
ended-due g ended =
    let still : is_some (close g).control.ended ≡ true =
    ap (λ z. is_some z) (close-keeps g).ended ∙ ended in
    rw still refl

shut-by : (b c : Bool) → b ≡ false → (b && c) ≡ true → ⊥
shut-by true c e o = cc
shut-by false c e o = cc

shut-ended : (g : State) → IsSome g.control.ended → takes_input g.control ≡ true → ⊥
shut-ended g ended opened =
    shut-by (is_none g.control.ended) (is_open g.control.window) (not-none g.control.ended ended) opened

-- nothing else is due, and no window takes an input
no-effect : (e : Event) (g k : State) → IsSome g.control.ended → Effect g e k → ⊥
no-effect e g k ended (by.exception d) = let n = ended-due g ended in absurd cc
no-effect e g k ended (by.interrupt which d i) = let n = ended-due g ended in absurd cc
no-effect e g k ended (by.idle d) = let n = ended-due g ended in absurd cc
no-effect e g k ended (by.slice d) = let n = ended-due g ended in absurd cc
no-effect e g k ended (by.clock value d) = let n = ended-due g ended in absurd cc
no-effect e g k ended (by.end reason code d) = let n = ended-due g ended in absurd cc
no-effect e g k ended (by.stop code opened) = shut-ended g ended opened
no-effect e g k ended (by.char_read bytes opened) = shut-ended g ended opened
no-effect e g k ended (by.net packet opened) = shut-ended g ended opened

no-step : (e : Event) (g h : State) → IsEvent e → IsSome g.control.ended → IsStep g e h → ⊥
no-step e g h is ended (by.turns n made other) =
    let none : ran n g ≡ 0 = ran-none n g (ap is_run (ended-due g ended)) in
    omega (arith, made, none, is.0)
no-step e g h is ended (by.taking f) = no-effect e g f.before ended f.effect

none-of : (o : Option State) → ((h : State) → o ≡ Some h → ⊥) → o ≡ None
none-of None never = refl
none-of (Some h) never = absurd (never h refl)

pub ended-none : (g : State) (e : Event) → IsEvent e → IsSome g.control.ended → step g e ≡ None
ended-none g e is ended = none-of (step g e) (λ h s. no-step e g h is ended (step_of e g h s))

-- ---- where a log comes to a halt

-- no event at the front of the bytes is accepted
abbrev Halts : State → List ℕ → Type 0
Halts g bytes = (e : Event) (more : List ℕ) (h : State) → IsEvent e → bytes ≡ text e ++ more
    → step g e ≡ Some h → ⊥

wrong-halts : (g : State) (bytes : List ℕ) (f : Found) (d : Due) (last : State)
    → IsWrong g bytes f d last → Halts g bytes
wrong-halts g bytes found.MoreBytes d last (ended, some, due_, last_) e more h is split s =
    let none = ended-none g e is ended in absurd cc
wrong-halts g bytes found.Cut d last (going, stops, due_, last_) e more h is split s =
    front_stops e more Cut is (rw split at stops)
wrong-halts g bytes (found.Rule rule) d last (going, stops, due_, last_) e more h is split s =
    front_stops e more (Bad rule) is (rw split at stops)
wrong-halts g bytes (found.Event w) d last (going, is_w, (after_w, split_w), none, due_, last_)
    e more h is split s =
    let same = same_front w e after_w more is_w is (sym split_w ∙ split) in
    let again : step g e ≡ None = ap (λ z. step g z) (sym same.0) ∙ none in
    absurd cc

whole-halts : (g : State) → Halts g []
whole-halts g e more h is split s =
    absurd (omega (arith, text-some e, ap length split, length-append (text e) more))

-- no longer list is accepted
longest : (es ds : List Event) (bytes : List ℕ) (g : State) (rest other : List ℕ) (mid end : State)
    → Accepted bytes g es rest mid → Halts mid rest → Accepted bytes g ds other end
    → length ds ≤ length es
unfolding run
longest es [] bytes g rest other mid end a halts b = omega arith
longest [] (x ∷ ds) bytes g rest other mid end a halts b =
    let p = then-more (step g x) (λ h. run h ds) end b.runs in
    let here : bytes ≡ text x ++ (texts ds ++ other) =
    b.parts ∙ append_assoc (text x) (texts ds) other in
    let same : g ≡ mid = some_is g mid a.runs in
    absurd (halts x (texts ds ++ other) p.0 b.are.0 (sym a.parts ∙ here)
    (ap (λ z. step z x) (sym same) ∙ p.1))
longest (e ∷ es) (x ∷ ds) bytes g rest other mid end a halts b =
    let p = then-more (step g e) (λ h. run h es) mid a.runs in
    let q = then-more (step g x) (λ h. run h ds) end b.runs in
    let here : bytes ≡ text e ++ (texts es ++ rest) =
    a.parts ∙ append_assoc (text e) (texts es) rest in
    let there : bytes ≡ text x ++ (texts ds ++ other) =
    b.parts ∙ append_assoc (text x) (texts ds) other in
    let same = same_front e x (texts es ++ rest) (texts ds ++ other) a.are.0 b.are.0
    (sym here ∙ there) in
    let one : p.0 ≡ q.0 = some_is p.0 q.0 (sym p.1 ∙ ap (λ z. step g z) same.0 ∙ q.1) in
    let more = longest es ds (texts es ++ rest) p.0 rest other mid end
    (record { parts = refl; are = a.are.1; runs = p.2 }) halts
    (record { parts = same.1; are = b.are.1; runs = ap (λ z. run z ds) one ∙ q.2 }) in
    omega (arith, more)

-- two lists after which nothing more is accepted are the same
same-halt : (es ds : List Event) (bytes : List ℕ) (g : State) (rest other : List ℕ)
    (mid end : State)
    → Accepted bytes g es rest mid → Halts mid rest → Accepted bytes g ds other end
    → Halts end other
    → (es ≡ ds) × (rest ≡ other) × (mid ≡ end)
unfolding run
same-halt [] [] bytes g rest other mid end a halts b stops =
    (refl, sym a.parts ∙ b.parts, sym (some_is g mid a.runs) ∙ some_is g end b.runs)
same-halt [] (x ∷ ds) bytes g rest other mid end a halts b stops =
    absurd (omega (arith, longest [] (x ∷ ds) bytes g rest other mid end a halts b))
same-halt (e ∷ es) [] bytes g rest other mid end a halts b stops =
    absurd (omega (arith, longest [] (e ∷ es) bytes g other rest end mid b stops a))
same-halt (e ∷ es) (x ∷ ds) bytes g rest other mid end a halts b stops =
    let p = then-more (step g e) (λ h. run h es) mid a.runs in
    let q = then-more (step g x) (λ h. run h ds) end b.runs in
    let here : bytes ≡ text e ++ (texts es ++ rest) =
    a.parts ∙ append_assoc (text e) (texts es) rest in
    let there : bytes ≡ text x ++ (texts ds ++ other) =
    b.parts ∙ append_assoc (text x) (texts ds) other in
    let same = same_front e x (texts es ++ rest) (texts ds ++ other) a.are.0 b.are.0
    (sym here ∙ there) in
    let one : p.0 ≡ q.0 = some_is p.0 q.0 (sym p.1 ∙ ap (λ z. step g z) same.0 ∙ q.1) in
    let more = same-halt es ds (texts es ++ rest) p.0 rest other mid end
    (record { parts = refl; are = a.are.1; runs = p.2 }) halts
    (record { parts = same.1; are = b.are.1; runs = ap (λ z. run z ds) one ∙ q.2 }) stops in
    (ap (λ z. z ∷ es) same.0 ∙ ap (λ z. x ∷ z) more.0, more.1, more.2)

-- ---- what is wrong at a place is one

abbrev SameWrong : Found → Due → State → Found → Due → State → Type 0
SameWrong f d last other e end = (f ≡ other) × (d ≡ e) × (last ≡ end)

abbrev fails : Fault Rule → Result (Event × List ℕ) (Fault Rule)
fails fault = Err fault

fails-is : (a b : Fault Rule) → fails a ≡ fails b → a ≡ b
fails-is a b e = cc

same-fault : (rest : List ℕ) (a b : Fault Rule) → Stops event rest a → Stops event rest b → a ≡ b
same-fault rest a b s t =
    fails-is a b (sym (meets_read event rest (Err a) s) ∙ meets_read event rest (Err b) t)

bad-is : (r s : Rule) → Bad r ≡ Bad s → r ≡ s
bad-is r s e = cc

cut-not-bad : (r : Rule) → Cut ≡ Bad r → ⊥
cut-not-bad r e = absurd cc

no-event : (rest more : List ℕ) (e : Event) (fault : Fault Rule) → IsEvent e → rest ≡ text e ++ more
    → Stops event rest fault → ⊥
no-event rest more e fault is split s = front_stops e more fault is (rw split at s)

same-wrong : (g : State) (rest : List ℕ) (f other : Found) (d e : Due) (last end : State)
    → IsWrong g rest f d last → IsWrong g rest other e end → SameWrong f d last other e end
same-wrong g rest found.MoreBytes found.MoreBytes d e last end
    (_, _, d_is, last_is) (_, _, e_is, end_is) =
    (refl, d_is ∙ sym e_is, last_is ∙ sym end_is)
same-wrong g rest found.MoreBytes found.Cut d e last end (ended, _, _, _) (going, _, _, _) =
    absurd (some-not-none g.control.ended ended going)
same-wrong g rest found.MoreBytes (found.Rule r) d e last end (ended, _, _, _) (going, _, _, _) =
    absurd (some-not-none g.control.ended ended going)
same-wrong g rest found.MoreBytes (found.Event w) d e last end
    (ended, _, _, _) (going, _, _, _, _, _) =
    absurd (some-not-none g.control.ended ended going)
same-wrong g rest found.Cut found.MoreBytes d e last end (going, _, _, _) (ended, _, _, _) =
    absurd (some-not-none g.control.ended ended going)
same-wrong g rest found.Cut found.Cut d e last end (_, _, d_is, last_is) (_, _, e_is, end_is) =
    (refl, d_is ∙ sym e_is, last_is ∙ sym end_is)
same-wrong g rest found.Cut (found.Rule r) d e last end (_, s, _, _) (_, t, _, _) =
    absurd (cut-not-bad r (same-fault rest Cut (Bad r) s t))
same-wrong g rest found.Cut (found.Event w) d e last end
    (_, s, _, _) (_, is, (more, split), _, _, _) =
    absurd (no-event rest more w Cut is split s)
same-wrong g rest (found.Rule q) found.MoreBytes d e last end (going, _, _, _) (ended, _, _, _) =
    absurd (some-not-none g.control.ended ended going)
same-wrong g rest (found.Rule q) found.Cut d e last end (_, s, _, _) (_, t, _, _) =
    absurd (cut-not-bad q (same-fault rest Cut (Bad q) t s))
same-wrong g rest (found.Rule q) (found.Rule r) d e last end
    (_, s, d_is, last_is) (_, t, e_is, end_is) = (
      ap (λ z. found.Rule z) (bad-is q r (same-fault rest (Bad q) (Bad r) s t)),
      d_is ∙ sym e_is,
      last_is ∙ sym end_is,
    )
same-wrong g rest (found.Rule q) (found.Event w) d e last end
    (_, s, _, _) (_, is, (more, split), _, _, _) =
    absurd (no-event rest more w (Bad q) is split s)
same-wrong g rest (found.Event v) found.MoreBytes d e last end
    (going, _, _, _, _, _) (ended, _, _, _) =
    absurd (some-not-none g.control.ended ended going)
same-wrong g rest (found.Event v) found.Cut d e last end
    (_, is, (more, split), _, _, _) (_, t, _, _) =
    absurd (no-event rest more v Cut is split t)
same-wrong g rest (found.Event v) (found.Rule r) d e last end
    (_, is, (more, split), _, _, _) (_, t, _, _) =
    absurd (no-event rest more v (Bad r) is split t)
same-wrong g rest (found.Event v) (found.Event w) d e last end
    (_, is, (more, split), _, d_is, last_is) (_, it, (behind, other), _, e_is, end_is) =
    let same : v ≡ w = (same_front v w more behind is it (sym split ∙ other)).0 in (
      ap (λ z. found.Event z) same,
      d_is ∙ ap (λ z. due_at g z) same ∙ sym e_is,
      last_is ∙ ap (λ z. stands g z) same ∙ sym end_is,
    )

-- ---- the laws

pub longest-refused : (bytes : List ℕ) (at : ℕ) (g mid last : State) (r : Refusal)
    → IsFirstWrong bytes at g r mid last
    → (events : List Event) (rest : List ℕ) (end : State) → Accepted bytes g events rest end
    → length events ≤ r.index
longest-refused bytes at g mid last r w events rest end a =
    omega (
      arith,
      w.index,
      longest w.events events bytes g w.rest rest mid end w.accepted
          (wrong-halts mid w.rest r.found r.due last w.wrong) a,
    )

pub longest-whole : (bytes : List ℕ) (g last : State) (w : IsWhole bytes g last)
    → (events : List Event) (rest : List ℕ) (end : State) → Accepted bytes g events rest end
    → length events ≤ length w.events
longest-whole bytes g last w events rest end a =
    longest w.events events bytes g [] rest last end w.accepted (whole-halts last) a

pub whole-right : (bytes : List ℕ) (at : ℕ) (g mid last end : State) (r : Refusal)
    → IsFirstWrong bytes at g r mid last → IsWhole bytes g end → ⊥
whole-right bytes at g mid last end r w whole =
    let same = same-halt w.events whole.events bytes g w.rest [] mid end w.accepted
    (wrong-halts mid w.rest r.found r.due last w.wrong) whole.accepted (whole-halts end) in
    let ended : IsSome mid.control.ended = rw same.2 whole.ended in
    no-wrong mid w.rest r.found r.due last ended same.1 w.wrong
  where
    no-wrong : (g : State) (rest : List ℕ) (f : Found) (d : Due) (h : State)
        → IsSome g.control.ended → rest ≡ [] → IsWrong g rest f d h → ⊥
    no-wrong g rest found.MoreBytes d h ended none (_, some, _, _) = some none
    no-wrong g rest found.Cut d h ended none (going, _, _, _) =
        some-not-none g.control.ended ended going
    no-wrong g rest (found.Rule rule) d h ended none (going, _, _, _) =
        some-not-none g.control.ended ended going
    no-wrong g rest (found.Event e) d h ended none (going, _, _, _, _, _) =
        some-not-none g.control.ended ended going

pub one-whole : (bytes : List ℕ) (g last end : State) → IsWhole bytes g last → IsWhole bytes g end
    → last ≡ end
one-whole bytes g last end v w =
    (same-halt v.events w.events bytes g [] [] last end v.accepted (whole-halts last) w.accepted
    (whole-halts end)).2

refusal-of : ℕ → ℕ → Due → Found → Refusal
refusal-of index offset d f = record { index = index; offset = offset; due = d; found = f }

refusal-is : (index offset j o : ℕ) (d e : Due) (f other : Found) → index ≡ j → offset ≡ o → d ≡ e
    → f ≡ other
    → refusal-of index offset d f ≡ refusal-of j o e other
refusal-is index offset j o d e f other p q r s = rw (p, q, r, s) refl

pub one-wrong : (bytes : List ℕ) (at : ℕ) (g mid last other end : State) (r s : Refusal)
    → IsFirstWrong bytes at g r mid last → IsFirstWrong bytes at g s other end
    → (r ≡ s) × (mid ≡ other) × (last ≡ end)
unfolding refusal-of
one-wrong bytes at g mid last other end r s v w =
    let same = same-halt v.events w.events bytes g v.rest w.rest mid other v.accepted
    (wrong-halts mid v.rest r.found r.due last v.wrong) w.accepted
    (wrong-halts other w.rest s.found s.due end w.wrong) in
    let here : IsWrong mid v.rest s.found s.due end = rw (same.1, same.2) w.wrong in
    let one = same-wrong mid v.rest r.found s.found r.due s.due last end v.wrong here in (
      refusal-is r.index r.offset s.index s.offset r.due s.due r.found s.found
          (v.index ∙ ap (λ z. length z) same.0 ∙ sym w.index)
          (v.offset ∙ ap (λ z. at + length (texts z)) same.0 ∙ sym w.offset) one.1 one.0,
      same.2,
      one.2,
    )
