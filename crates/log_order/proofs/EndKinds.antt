-- A run ends as an END event is spelled: each event keeps the ending, or is the END that sets it.
use Rattle.std.proofs.Common.{◌≡◌, ℕ, ◌≤◌, List, [], ◌∷◌, sym, subst}
use Rattle.std.specs.Prelude.{Option, Some, None}
use Rattle.std.specs.List.{AllByRecursion}
use Rattle.event_log.specs.declared.event.Event.{Event}
use Rattle.event_log.specs.Spelling.{IsEvent}
use Rattle.board.specs.declared.control.Ending.{Ending}
use Rattle.board.specs.State.{State}
use Rattle.board.specs.Close.{close}
use Rattle.board.specs.Runs.{step, run}
use Rattle.board.specs.Effect.{Effect, IsStep}
use Rattle.board.specs.Effect as by
use Rattle.board.proofs.Counting.{close-keeps, after-counts}
use Rattle.board.proofs.Effects.{step_of}
use Rattle.log_order.proofs.Following.{then-more, some_is}

-- no ending, or one that END spells
abbrev IsSpelled : Option Ending → Type 0
IsSpelled None = Unit {0}
IsSpelled (Some e) = (e.reason ≤ 3) × (1 ≤ e.reason → e.code ≡ 0)

abbrev Ends : State → Type 0
Ends g = IsSpelled g.control.ended

-- closing a window keeps the ending
closed-ends : (g : State) → Ends g → Ends (close g)
closed-ends g p = subst IsSpelled (sym (close-keeps g).ended) p

effect-ends : (e : Event) (g k : State) → IsEvent e → Ends g → Effect g e k → Ends k
effect-ends e g k is p (by.end reason code d) = (is.0, is.2)
effect-ends e g k is p (by.stop code opened) = (is.0, is.2)
effect-ends e g k is p (by.char_read bytes opened) = p
effect-ends e g k is p (by.net packet opened) = p
effect-ends e g k is p f = closed-ends g p

one-ends : (e : Event) (g h : State) → IsEvent e → Ends g → IsStep g e h → Ends h
one-ends e g h is p (by.turns n made other) = subst IsSpelled (sym (after-counts n g).ended) p
one-ends e g h is p (by.taking f) = subst Ends (sym f.levels) (effect-ends e g f.before is p f.effect)

step-ends : (e : Event) (g h : State) → IsEvent e → Ends g → step g e ≡ Some h → Ends h
step-ends e g h is p s = one-ends e g h is p (step_of e g h s)

run-ends : (es : List Event) (g last : State) → AllByRecursion IsEvent es → Ends g
    → run g es ≡ Some last → Ends last
unfolding run
run-ends [] g last all p r = subst Ends (some_is g last r) p
run-ends (e ∷ es) g last all p r =
    let m = then-more (step g e) (λ h. run h es) last r in
    let q = step-ends e g m.0 all.0 p m.1 in
    run-ends es m.0 last all.1 q m.2

pub ending-kind : (events : List Event) (g last : State) (reason code : ℕ)
    → AllByRecursion IsEvent events → g.control.ended ≡ None → run g events ≡ Some last
    → last.control.ended ≡ Some (record { reason = reason; code = code })
    → (reason ≤ 3) × (1 ≤ reason → code ≡ 0)
ending-kind events g last reason code all going runs is =
    let start : Ends g = subst IsSpelled (sym going) tt in
    subst IsSpelled is (run-ends events g last all start runs)
