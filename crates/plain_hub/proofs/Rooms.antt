-- Room for the entries that take no memory.
use Rattle.std.proofs.Common.{◌≡◌, ◌≢◌, ℕ, zero, suc, ◌+◌, ◌<◌, ◌≤◌, List, [], ◌∷◌, ◌++◌, Bool, true, false, ◌||◌, ◌==◌, refl, sym, ap, ◌∙◌, arith, eq-eqb, ne_eqb}
use Rattle.std.specs.Prelude.{if◌then◌else◌}
use mathlib.Core.Logic.{dite}
use native.Mathlib.Decide.{ℕ_discrete}
use Rattle.plain_hub.specs.declared.entry.Call.TheVariants.{End, Stop}
use Rattle.plain_hub.specs.declared.trouble.Why.{Why}
use Rattle.plain_hub.specs.declared.entry.Entry.{Entry}
use Rattle.plain_hub.specs.Hub.{State, empty, state_of, entry, is_end, has_end, one_unless, left_below, to_come}
use Rattle.plain_hub.proofs.History.{state_from-push}

bit : (b : Bool) → one_unless b ≤ 1
bit true = omega arith
bit false = omega arith

pub left_at_most : (n : ℕ) (es : List Entry) → left_below n es ≤ n
left_at_most zero es = omega arith
left_at_most (suc n) es = let h = left_at_most n es in let b = bit (has_end n es) in omega arith

pub to_come_at_most : (es : List Entry) → to_come es ≤ 18
to_come_at_most es = let h = left_at_most 17 es in let b = bit (state_of es).stopped in omega arith

or_assoc : (a b c : Bool) → (a || (b || c)) ≡ ((a || b) || c)
or_assoc true b c = refl
or_assoc false b c = refl

or_false : (a : Bool) → (a || false) ≡ a
or_false true = refl
or_false false = refl

pub has_end-push : (p : ℕ) (es : List Entry) (e : Entry) → has_end p (es ++ e ∷ []) ≡ (has_end p es || (if e.pass == p then is_end e.call else false))
has_end-push p [] e = or_false _
has_end-push p (x ∷ es) e = ap (λ b. (if x.pass == p then is_end x.call else false) || b) (has_end-push p es e) ∙ or_assoc (if x.pass == p then is_end x.call else false) (has_end p es) (if e.pass == p then is_end e.call else false)

-- another pass, or a call that is no end
same_end : (p : ℕ) (es : List Entry) (e : Entry) → (if e.pass == p then is_end e.call else false) ≡ false → has_end p (es ++ e ∷ []) ≡ has_end p es
same_end p es e no_end = has_end-push p es e ∙ ap (λ b. has_end p es || b) no_end ∙ or_false (has_end p es)

if_false : (b : Bool) → (if b then false else false) ≡ false
if_false true = refl
if_false false = refl

-- a call that is no end leaves the passes that have not ended
pub left-other : (n : ℕ) (es : List Entry) (e : Entry) → is_end e.call ≡ false → left_below n (es ++ e ∷ []) ≡ left_below n es
left-other zero es e other = refl
left-other (suc n) es e other =
    let none : (if e.pass == n then is_end e.call else false) ≡ false = ap (λ b. if e.pass == n then b else false) other ∙ if_false (e.pass == n) in
    (λ i. left-other n es e other i + one_unless (same_end n es e none i))

above : (n : ℕ) (es : List Entry) (p : ℕ) (why : Why) → n ≤ p → left_below n (es ++ entry p (End why) ∷ []) ≡ left_below n es
above zero es p why le = refl
above (suc n) es p why le =
    let ne : p ≢ n = (λ e. omega arith) in
    (λ i. above n es p why (omega arith) i + (one_unless (same_end n es (entry p (End why)) (ap (λ b. if b then true else false) (ne_eqb p n ne)) i)))

pub left-end : (n : ℕ) (es : List Entry) (p : ℕ) (why : Why) → p < n → has_end p es ≡ false → left_below n (es ++ entry p (End why) ∷ []) + 1 ≡ left_below n es
left-end zero es p why lt not_yet = absurd (omega arith)
left-end (suc n) es p why lt not_yet = dite (ℕ_discrete p n)
    (λ same.
    let e = entry p (End why) in
    let now : has_end n (es ++ e ∷ []) ≡ true = has_end-push n es e ∙ ap (λ b. b || (if p == n then true else false)) (ap (λ k. has_end k es) (sym same) ∙ not_yet) ∙ ap (λ b. if b then true else false) (eq-eqb p n same) in
    let was : has_end n es ≡ false = ap (λ k. has_end k es) (sym same) ∙ not_yet in
    let a : left_below n (es ++ e ∷ []) ≡ left_below n es = above n es p why (omega arith) in
    let x : (one_unless (has_end n (es ++ e ∷ []))) ≡ 0 = ap (λ b. one_unless (b)) now in
    let y : (one_unless (has_end n es)) ≡ 1 = ap (λ b. one_unless (b)) was in
    omega arith)
    (λ ne.
    let e = entry p (End why) in
    let a = left-end n es p why (omega arith) not_yet in
    let x : (one_unless (has_end n (es ++ e ∷ []))) ≡ (one_unless (has_end n es)) = ap (λ b. one_unless (b)) (same_end n es e (ap (λ b. if b then true else false) (ne_eqb p n ne))) in
    omega arith)

-- an end and a first stop use up what was reserved for them
pub end_fits : (es : List Entry) (p : ℕ) (why : Why) → p < 17 → has_end p es ≡ false → to_come (es ++ entry p (End why) ∷ []) + 1 ≡ to_come es
end_fits es p why lt not_yet =
    let a = left-end 17 es p why lt not_yet in
    let b : (one_unless ((state_of (es ++ entry p (End why) ∷ [])).stopped)) ≡ (one_unless ((state_of es).stopped)) = ap (λ (s : State). one_unless (s.stopped)) (state_from-push empty es (entry p (End why))) in
    omega arith

pub stop_fits : (es : List Entry) → (state_of es).stopped ≡ false → to_come (es ++ entry 0 Stop ∷ []) + 1 ≡ to_come es
stop_fits es not_yet =
    let a = left-other 17 es (entry 0 Stop) refl in
    let b : (one_unless ((state_of (es ++ entry 0 Stop ∷ [])).stopped)) ≡ 0 = ap (λ (s : State). one_unless (s.stopped)) (state_from-push empty es (entry 0 Stop)) in
    let c : (one_unless ((state_of es).stopped)) ≡ 1 = ap (λ b. one_unless (b)) not_yet in
    omega arith
