-- A history that is one entry longer.
use Rattle.std.proofs.Common.{◌≡◌, ℕ, List, [], ◌∷◌, ◌++◌, refl, sym, ap, ◌∙◌, subst}
use Rattle.plain_hub.specs.declared.entry.Call.{Call}
use Rattle.plain_hub.specs.declared.entry.Entry.{Entry}
use Rattle.plain_hub.specs.Hub.{State, after, Allows, state_from, LegalFrom, state_of, Legal, entry}

pub state_from-push : (s : State) (es : List Entry) (e : Entry) → state_from s (es ++ e ∷ []) ≡ after (state_from s es) e.pass e.call
state_from-push s [] e = refl
state_from-push s (x ∷ es) e = state_from-push (after s x.pass x.call) es e

pub LegalFrom-push : (s : State) (es : List Entry) (e : Entry) → LegalFrom s es → Allows (state_from s es) e.pass e.call → LegalFrom s (es ++ e ∷ [])
LegalFrom-push s [] e h a = (a, tt)
LegalFrom-push s (x ∷ es) e h a = (h.0, LegalFrom-push (after s x.pass x.call) es e h.1 a)

-- a beginning of a legal history is legal
pub LegalFrom-front : (s : State) (es more : List Entry) → LegalFrom s (es ++ more) → LegalFrom s es
LegalFrom-front s [] more h = tt
LegalFrom-front s (x ∷ es) more h = (h.0, LegalFrom-front (after s x.pass x.call) es more h.1)

pub longer : (es now : List Entry) (p : ℕ) (c : Call) → now ≡ es ++ entry p c ∷ [] → Legal es → Allows (state_of es) p c → (state_of now ≡ after (state_of es) p c) × Legal now
longer es now p c is legal allows = (ap state_of is ∙ state_from-push _ es (entry p c), subst Legal (sym is) (LegalFrom-push _ es (entry p c) legal allows))
