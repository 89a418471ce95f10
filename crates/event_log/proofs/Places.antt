-- What is read at a place is what may be answered there.
use Rattle.std.proofs.Common.{◌≡◌, ℕ, ◌≤◌, ◌+◌, ◌-◌, List, ◌++◌, length, drop, refl, sym, ap, ◌∙◌, arith, subst, length-append, length-drop}
use Rattle.std.specs.Prelude.{Result, Ok, Err}
use Rattle.std.proofs.lemmas.List.{drop-drop, drop_at}
use Rattle.event_log.specs.declared.event.Event.{Event}
use Rattle.event_log.specs.declared.rule.Rule.{Rule}
use Rattle.event_log.specs.declared.parse.ParseError.{ParseError}
use Rattle.event_log.specs.declared.parse.ParseError.TheVariants as parse
use Rattle.event_log.specs.Grammar.{Fault}
use Rattle.event_log.specs.Grammar.{Cut, Bad}
use Rattle.event_log.specs.Grammar.{read, Spells, Stops, Meets}
use Rattle.event_log.specs.Spelling.{event, text, IsEvent}
use Rattle.event_log.specs.Log.{Stands, Answers, Unless, FindsBytes, AsksMemory}
use Rattle.event_log.proofs.Exact.{read_meets, meets_read}
use Rattle.event_log.proofs.Numbers.{IsBytes}
use Rattle.event_log.proofs.FrontLemmas.{ok_is, spelled}
use Rattle.event_log.proofs.Spells.{spells_text}

-- ---- from what was read

pub read_spells : (bytes : List ℕ) (e : Event) (rest : List ℕ) → read event bytes ≡ Ok (e, rest) → Spells event bytes e rest
read_spells bytes e rest is = subst (Meets event bytes) is (read_meets event bytes)

pub read_stops : (bytes : List ℕ) (fault : Fault Rule) → read event bytes ≡ Err fault → Stops event bytes fault
read_stops bytes fault is = subst (Meets event bytes) is (read_meets event bytes)

pub read_stands : (bytes : List ℕ) (at : ℕ) (e : Event) (rest : List ℕ) → at ≤ length bytes → IsBytes (drop at bytes) → read event (drop at bytes) ≡ Ok (e, rest)
    → (length rest ≤ length bytes) × Stands bytes at e (length bytes - length rest)
read_stands bytes at e rest within are is =
    let t = spells_text (drop at bytes) e rest are (read_spells (drop at bytes) e rest is) in
    let sizes : length bytes - at ≡ length (text e) + length rest = sym (length-drop at bytes) ∙ ap length t.1 ∙ length-append (text e) rest in
    let next : length bytes - length rest ≡ at + length (text e) = omega arith in
    let left : drop (length (text e)) (drop at bytes) ≡ rest = ap (λ z. drop (length (text e)) z) t.1 ∙ drop_at (text e) rest (length (text e)) refl in
    let follows : drop (length bytes - length rest) bytes ≡ rest = ap (λ n. drop n bytes) next ∙ sym (drop-drop (length (text e)) at bytes) ∙ left in
    (omega arith, (t.0, t.1 ∙ ap (λ z. text e ++ z) (sym follows), next))

-- memory is asked where reading gives an event that has bytes
pub read_asks : (bytes : List ℕ) (found : Result (Event × List ℕ) (Fault Rule)) → IsBytes bytes → read event bytes ≡ found → FindsBytes found → AsksMemory bytes
read_asks bytes (Ok f) are is holds =
    let t = spells_text bytes f.0 f.1 are (read_spells bytes f.0 f.1 is) in
    (f.0, f.1, t.0, holds, t.1)
read_asks bytes (Err fault) are is holds = absurd holds

-- ---- from what is answered

abbrev ReadIs : Result (Event × List ℕ) (Fault Rule) → ℕ → Result (Event × ℕ) ParseError → Type 0
ReadIs found at (Ok answer) = ((after : List ℕ) × (found ≡ Ok (answer.0, after))) × (answer.1 ≡ at + length (text answer.0))
ReadIs found at (Err (parse.Bad offset rule)) = (offset ≡ at) × (found ≡ Err (Bad rule))
ReadIs found at (Err (parse.Cut offset)) = (offset ≡ at) × (found ≡ Err Cut)
ReadIs found at (Err parse.NoMemory) = Unit {0}

answer_read : (bytes : List ℕ) (at : ℕ) (r : Result (Event × ℕ) ParseError) → Answers bytes at r → ReadIs (read event (drop at bytes)) at r
answer_read bytes at (Ok answer) (is, parts, next) =
    let after : List ℕ = drop answer.1 bytes in
    ((after, spelled (drop at bytes) after answer.0 is parts), next)
answer_read bytes at (Err (parse.Bad offset rule)) (place, stops) = (place, meets_read event (drop at bytes) (Err (Bad rule)) stops)
answer_read bytes at (Err (parse.Cut offset)) (place, stops) = (place, meets_read event (drop at bytes) (Err Cut) stops)
answer_read bytes at (Err parse.NoMemory) a = tt

same_answer : (found : Result (Event × List ℕ) (Fault Rule)) (at : ℕ) (one other : Result (Event × ℕ) ParseError) → (one ≡ Err parse.NoMemory → ⊥) → ReadIs found at one → ReadIs found at other → Unless one other
same_answer found at (Ok a) (Ok b) some ((x, p), n) ((y, q), m) =
    let same : a.0 ≡ b.0 = ap (λ z. z.0) (ok_is (a.0, x) (b.0, y) (sym p ∙ q)) in
    ap Ok (ap (λ z. (z, a.1)) same ∙ ap (λ z. (b.0, z)) (n ∙ ap (λ z. at + length (text z)) same ∙ sym m))
same_answer found at (Ok a) (Err (parse.Bad offset rule)) some ((x, p), n) (o, q) = cc
same_answer found at (Ok a) (Err (parse.Cut offset)) some ((x, p), n) (o, q) = cc
same_answer found at one (Err parse.NoMemory) some h k = tt
same_answer found at (Err (parse.Bad offset rule)) (Ok b) some (o, q) ((y, p), n) = cc
same_answer found at (Err (parse.Bad offset rule)) (Err (parse.Bad offset' rule')) some (o, q) (o', q') = cc
same_answer found at (Err (parse.Bad offset rule)) (Err (parse.Cut offset')) some (o, q) (o', q') = cc
same_answer found at (Err (parse.Cut offset)) (Ok b) some (o, q) ((y, p), n) = cc
same_answer found at (Err (parse.Cut offset)) (Err (parse.Bad offset' rule')) some (o, q) (o', q') = cc
same_answer found at (Err (parse.Cut offset)) (Err (parse.Cut offset')) some (o, q) (o', q') = cc
same_answer found at (Err parse.NoMemory) (Ok b) some h k = absurd (some refl)
same_answer found at (Err parse.NoMemory) (Err (parse.Bad offset rule)) some h k = absurd (some refl)
same_answer found at (Err parse.NoMemory) (Err (parse.Cut offset)) some h k = absurd (some refl)

pub one_answers : (bytes : List ℕ) (at : ℕ) (one other : Result (Event × ℕ) ParseError) → (one ≡ Err parse.NoMemory → ⊥) → Answers bytes at one → Answers bytes at other → Unless one other
one_answers bytes at one other some a b = same_answer (read event (drop at bytes)) at one other some (answer_read bytes at one a) (answer_read bytes at other b)
