-- No event's spelling is the front of another's, and what the fronts of spellings are.
use Rattle.std.proofs.Common.{◌≡◌, ◌≢◌, ℕ, List, [], ◌∷◌, ◌++◌, refl, sym, ap, ◌∙◌, inl, inr, append_assoc, append-nil}
use Rattle.std.specs.Prelude.{Result, Ok, Err, ◌⊎◌}
use Rattle.event_log.specs.declared.event.Event.{Event}
use Rattle.event_log.specs.declared.rule.Rule.{Rule}
use Rattle.event_log.specs.Grammar.{Fault, Stops, read}
use Rattle.event_log.specs.Spelling.{event, text, texts, IsEvent}
use Rattle.event_log.specs.Fronts.{FrontOfTexts}
use Rattle.event_log.proofs.Exact.{meets_read}
use Rattle.event_log.proofs.Spelled.{text_spells}

abbrev pub read_ok : Event × List ℕ → Result (Event × List ℕ) (Fault Rule)
read_ok found = Ok found

pub ok_is : (a b : Event × List ℕ) → read_ok a ≡ read_ok b → a ≡ b
ok_is a b e = cc

front_read : (e : Event) (after : List ℕ) → IsEvent e → read event (text e ++ after) ≡ Ok (e, after)
front_read e after is = meets_read event (text e ++ after) (Ok (e, after)) (text_spells e after is)

pub spelled : (bytes after : List ℕ) (e : Event) → IsEvent e → bytes ≡ text e ++ after → read event bytes ≡ Ok (e, after)
spelled bytes after e is parts = rw parts (front_read e after is)

-- the event at the front is one
pub same_front : (e d : Event) (after rest : List ℕ) → IsEvent e → IsEvent d → text e ++ after ≡ text d ++ rest → (e ≡ d) × (after ≡ rest)
same_front e d after rest is_e is_d same =
    let pair = ok_is (e, after) (d, rest) (sym (front_read e after is_e) ∙ ap (λ z. read event z) same ∙ front_read d rest is_d) in
    (ap (λ z. z.0) pair, ap (λ z. z.1) pair)

-- where an event stands at the front, no rule is broken and nothing is cut
pub front_stops : (e : Event) (after : List ℕ) (fault : Fault Rule) → IsEvent e → Stops event (text e ++ after) fault → ⊥
front_stops e after fault is s =
    let one : read event (text e ++ after) ≡ Ok (e, after) = front_read e after is in
    let two : read event (text e ++ after) ≡ Err fault = meets_read event (text e ++ after) (Err fault) s in
    absurd cc

-- the spellings of one event more
pub texts_more : (es : List Event) (e : Event) → texts (es ++ e ∷ []) ≡ texts es ++ text e
texts_more [] e = append-nil (text e)
texts_more (d ∷ es) e = ap (λ z. text d ++ z) (texts_more es e) ∙ sym (append_assoc (text d) (texts es) (text e))

-- ---- fronts

-- c goes on where a ends, or a goes on where c ends
abbrev Meet : (a b c d : List ℕ) → Type 0
Meet a b c d = ((rest : List ℕ) × (c ≡ a ++ rest) × (rest ≢ [])) ⊎ ((rest : List ℕ) × (a ≡ c ++ rest) × (rest ++ b ≡ d))

one_more : (x y : ℕ) (a b c d : List ℕ) → y ≡ x → Meet a b c d → Meet (y ∷ a) b (x ∷ c) d
one_more x y a b c d e (inl (rest, is, some)) = inl (rest, ap (λ z. x ∷ z) is ∙ ap (λ z. z ∷ (a ++ rest)) (sym e), some)
one_more x y a b c d e (inr (rest, is, there)) = inr (rest, ap (λ z. y ∷ z) is ∙ ap (λ z. z ∷ (c ++ rest)) e, there)

head_is : (x y : ℕ) (xs ys : List ℕ) → x ∷ xs ≡ y ∷ ys → x ≡ y
head_is x y xs ys e = cc

tail_is : (x y : ℕ) (xs ys : List ℕ) → x ∷ xs ≡ y ∷ ys → xs ≡ ys
tail_is x y xs ys e = cc

-- of two fronts of the same bytes one is a front of the other
fronts_meet : (a b c d : List ℕ) → a ++ b ≡ c ++ d → Meet a b c d
fronts_meet a b [] d same = inr (a, refl, same)
fronts_meet [] b (x ∷ c) d same = inl (x ∷ c, refl, λ none. absurd cc)
fronts_meet (y ∷ a) b (x ∷ c) d same =
    one_more x y a b c d (head_is y x (a ++ b) (c ++ d) same) (fronts_meet a b c d (tail_is y x (a ++ b) (c ++ d) same))

no_front : (front rest : List ℕ) → [] ≡ front ++ rest → front ≡ []
no_front [] rest is = refl
no_front (x ∷ xs) rest is = absurd cc

-- the front ends within the first event
within : (e : Event) (es : List Event) (front more : List ℕ) → text e ≡ front ++ more → more ≢ [] → FrontOfTexts (e ∷ es) front
within e es front more is some = record {
  whole = [];
  left = e ∷ es;
  part = front;
  events = refl;
  bytes = refl;
  next = (more, is, some);
}

-- or it goes on behind it
beyond : (e : Event) (es : List Event) (front more : List ℕ) → front ≡ text e ++ more → FrontOfTexts es more → FrontOfTexts (e ∷ es) front
beyond e es front more is f = record {
  whole = e ∷ f.whole;
  left = f.left;
  part = f.part;
  events = ap (λ z. e ∷ z) f.events;
  bytes = is ∙ ap (λ z. text e ++ z) f.bytes ∙ sym (append_assoc (text e) (texts f.whole) f.part);
  next = f.next;
}

-- a front of events' spellings ends within one of them, or between two
pub front_of_texts : (es : List Event) (front rest : List ℕ) → texts es ≡ front ++ rest → FrontOfTexts es front
front_of_texts [] front rest is = record {
  whole = [];
  left = [];
  part = front;
  events = refl;
  bytes = refl;
  next = no_front front rest is;
}
front_of_texts (e ∷ es) front rest is =
    elim (fronts_meet front rest (text e) (texts es) (sym is)) [
      | inl m ↦ within e es front m.0 m.1 m.2
      | inr m ↦ beyond e es front m.0 m.1 (front_of_texts es m.0 rest (sym m.2))
    ]
