-- Of the lists that a log begins with one is the longest, and the others are its fronts.
use Rattle.std.proofs.Common.{◌≡◌, ℕ, ◌+◌, ◌-◌, ◌^◌, ◌≤◌, Bool, true, false, List, [], ◌∷◌, ◌++◌, length, refl, sym, ap, ◌∙◌, subst, inl, inr, arith, append_assoc, length-append}
use Rattle.std.specs.Prelude.{Some, IfSome, take, ⊤}
use Rattle.std.specs.List.{AllByRecursion}
use Rattle.std.proofs.Math.Seq.{take-append-add}
use Rattle.event_log.specs.declared.event.Event.{Event}
use Rattle.event_log.specs.Grammar.{Stops, Cut, Bad, Fault}
use Rattle.event_log.specs.declared.rule.Rule.{Rule}
use Rattle.event_log.specs.Spelling.{event, text, texts, IsEvent}
use Rattle.event_log.specs.Reading.{Reader, ahead, to_limit}
use Rattle.event_log.proofs.FrontLemmas.{same_front, front_stops}
use Rattle.log_order.proofs.Following.{text-some}
use Rattle.log_order.specs.declared.refusal.Refusal.{Refusal}
use Rattle.log_order.specs.declared.refusal.Found.{Found}
use Rattle.log_order.specs.declared.refusal.Found.TheVariants as found
use Rattle.event_list.specs.Listing.{EndIsLast, ended, behind, Begins, IsWrongAt, IsPastLimit, Listed, ListsWhole, ListsToWrong, ListsToLimit}

-- ---- two lists of the same bytes

split : (e f : Event) (es fs : List Event) (rest other : List ℕ) → IsEvent e → IsEvent f
    → texts (e ∷ es) ++ rest ≡ texts (f ∷ fs) ++ other
    → (e ≡ f) × (texts es ++ rest ≡ texts fs ++ other)
split e f es fs rest other is-e is-f same =
    same_front e f (texts es ++ rest) (texts fs ++ other) is-e is-f
    (sym (append_assoc (text e) (texts es) rest) ∙ same
    ∙ append_assoc (text f) (texts fs) other)

fronts : (es fs : List Event) (rest other : List ℕ) → AllByRecursion IsEvent es
    → AllByRecursion IsEvent fs → texts es ++ rest ≡ texts fs ++ other → length es ≤ length fs
    → (more : List Event) × (fs ≡ es ++ more)
fronts [] fs rest other are also same few = (fs, refl)
fronts (e ∷ es) [] rest other are also same few = absurd (omega (arith, few))
fronts (e ∷ es) (f ∷ fs) rest other are also same few =
    let (one, others) = split e f es fs rest other are.0 also.0 same in
    let (more, is) = fronts es fs rest other are.1 also.1 others (omega (arith, few)) in
    (more, ap (λ z. f ∷ z) is ∙ ap (λ z. z ∷ (es ++ more)) (sym one))

-- no list is longer where no event stands behind this one
longest-of : (es fs : List Event) (rest other : List ℕ) → AllByRecursion IsEvent es
    → AllByRecursion IsEvent fs → texts es ++ rest ≡ texts fs ++ other
    → ((d : Event) (ds : List Event) → fs ≡ es ++ d ∷ ds
    → rest ≡ text d ++ (texts ds ++ other) → ⊥)
    → length fs ≤ length es
longest-of es [] rest other are also same none = omega arith
longest-of [] (d ∷ ds) rest other are also same none =
    absurd (none d ds refl (same ∙ append_assoc (text d) (texts ds) other))
longest-of (e ∷ es) (f ∷ fs) rest other are also same none =
    let (one, others) = split e f es fs rest other are.0 also.0 same in
    let few = longest-of es fs rest other are.1 also.1 others
    (λ d ds is there. none d ds
    (ap (λ z. f ∷ z) is ∙ ap (λ z. z ∷ (es ++ d ∷ ds)) (sym one)) there) in
    omega (arith, few)

-- ---- an event behind a list

not-both : (b : Bool) → b ≡ true → b ≡ false → ⊥
not-both true p q = absurd cc
not-both false p q = absurd cc

end-before : (es : List Event) (d : Event) (ds : List Event) → EndIsLast (es ++ d ∷ ds)
    → ended es ≡ false
unfolding EndIsLast ended
end-before [] d ds one = refl
end-before (e ∷ []) d ds one = one.0
end-before (e ∷ f ∷ es) d ds one = end-before (f ∷ es) d ds one.1

next-is : (es : List Event) (d : Event) (ds : List Event)
    → AllByRecursion IsEvent (es ++ d ∷ ds) → IsEvent d
next-is [] d ds are = are.0
next-is (e ∷ es) d ds are = next-is es d ds are.1

sizes : (es : List Event) (d : Event) (ds : List Event)
    → length (texts es) + length (text d) ≤ length (texts (es ++ d ∷ ds))
sizes [] d ds = omega (arith, length-append (text d) (texts ds))
sizes (e ∷ es) d ds =
    omega (
      arith,
      sizes es d ds,
      length-append (text e) (texts es),
      length-append (text e) (texts (es ++ d ∷ ds)),
    )

-- what rules out that an event stands behind these
abbrev Ends : List Event → (List ℕ → Type 0) → Type 0
Ends es P = (d : Event) (after : List ℕ) → IsEvent d → ended es ≡ false
    → behind es + length (text d) ≤ 2 ^ 40 → P (text d ++ after) → ⊥

abbrev Rest : List Event → (List ℕ → Type 0) → List ℕ → Type 0
Rest es P bytes = (rest : List ℕ) × (bytes ≡ texts es ++ rest) × P rest

longest-by : (log : Reader) (bytes : List ℕ) (es fs : List Event) (P Q : List ℕ → Type 0)
    → Ends es P → ahead log ≡ Some bytes → Begins log es P → Begins log fs Q
    → length fs ≤ length es
longest-by log bytes es fs P Q ends told b c =
    let (rest, is, here) = subst (λ z. IfSome z (Rest es P)) told b.spelled in
    let (other, also, there) = subst (λ z. IfSome z (Rest fs Q)) told c.spelled in
    longest-of es fs rest other b.are c.are (sym is ∙ also)
    (λ d ds more next.
    ends d (texts ds ++ other) (next-is es d ds (subst (AllByRecursion IsEvent) more c.are))
    (end-before es d ds (subst EndIsLast more c.one_end))
    (omega (arith, c.within, sizes es d ds, ap (λ z. length (texts z)) more))
    (subst P next here))

pub one-front : (log : Reader) (bytes : List ℕ) (es fs : List Event) → ahead log ≡ Some bytes
    → Begins log es (λ rest. ⊤) → Begins log fs (λ rest. ⊤) → length es ≤ length fs
    → (more : List Event) × (fs ≡ es ++ more)
one-front log bytes es fs told b c few =
    let (rest, is, here) = subst (λ z. IfSome z (Rest es (λ rest. ⊤))) told b.spelled in
    let (other, also, there) = subst (λ z. IfSome z (Rest fs (λ rest. ⊤))) told c.spelled in
    fronts es fs rest other b.are c.are (sym is ∙ also) few

-- ---- a list that ends

-- the limit leaves an event whole that ends before it
stops-within : (place : ℕ) (d : Event) (after : List ℕ) (fault : Fault Rule) → IsEvent d
    → place + length (text d) ≤ 2 ^ 40 → Stops event (to_limit place (text d ++ after)) fault → ⊥
stops-within place d after fault is fits stops =
    let room : ℕ = 2 ^ 40 - place - length (text d) in
    let all : 2 ^ 40 - place ≡ length (text d) + room = omega (arith, fits) in
    let front : to_limit place (text d ++ after) ≡ text d ++ take room after =
    ap (λ n. take n (text d ++ after)) all ∙ take-append-add (text d) after room in
    front_stops d (take room after) fault is (subst (λ z. Stops event z fault) front stops)

ends-wrong : (es : List Event) (f : Found) → Ends es (IsWrongAt (ended es) (behind es) f)
ends-wrong es found.MoreBytes d after is going fits w = not-both (ended es) w.0 going
ends-wrong es found.Cut d after is going fits w = front_stops d after Cut is w.2
ends-wrong es (found.Rule rule) d after is going fits w =
    stops-within (behind es) d after (Bad rule) is fits w.1
ends-wrong es (found.Event e) d after is going fits w = absurd w

ends-limit : (es : List Event) → Ends es (IsPastLimit (ended es) (behind es))
ends-limit es d after is going fits (past, inl cut) =
    stops-within (behind es) d after Cut is fits cut.1
ends-limit es d after is going fits (past, inr over) = not-both (ended es) over.0 going

ends-whole : (es : List Event) → Ends es (λ rest. rest ≡ [])
ends-whole es d after is going fits none =
    absurd (omega (arith, text-some d, ap length none, length-append (text d) after))

pub longest-whole : (p q : Listed) (bytes : List ℕ) (w : ListsWhole p q)
    → ahead p.log ≡ Some bytes → (fs : List Event) → Begins p.log fs (λ rest. ⊤)
    → length fs ≤ length w.events
longest-whole p q bytes w told fs b =
    longest-by p.log bytes w.events fs (λ rest. rest ≡ []) (λ rest. ⊤) (ends-whole w.events) told
    w.begins b

pub longest-refused : (p q : Listed) (r : Refusal) (bytes : List ℕ) → ListsToWrong p q r
    → ahead p.log ≡ Some bytes → (fs : List Event) → Begins p.log fs (λ rest. ⊤)
    → length fs ≤ r.index
longest-refused p q r bytes w told fs b =
    subst (λ z. length fs ≤ z) (sym w.index)
    (longest-by p.log bytes w.events fs (IsWrongAt (ended w.events) (behind w.events) r.found)
    (λ rest. ⊤) (ends-wrong w.events r.found) told w.begins b)

pub longest-limit : (p q : Listed) (bytes : List ℕ) (w : ListsToLimit p q)
    → ahead p.log ≡ Some bytes → (fs : List Event) → Begins p.log fs (λ rest. ⊤)
    → length fs ≤ length w.events
longest-limit p q bytes w told fs b =
    longest-by p.log bytes w.events fs (IsPastLimit (ended w.events) (behind w.events))
    (λ rest. ⊤) (ends-limit w.events) told w.begins b
