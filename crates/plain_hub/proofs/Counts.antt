-- No id is claimed twice.
use Rattle.std.proofs.Common.{◌≡◌, ◌≢◌, ℕ, ◌+◌, ◌≤◌, List, [], ◌∷◌, ◌++◌, Bool, true, false, ◌==◌, refl, sym, ap, ◌∙◌, ⊎_elim, arith, eq-eqb, ne_eqb}
use Rattle.std.specs.Prelude.{if◌then◌else◌, is_some, Contains}
use mathlib.Core.Logic.{dite}
use native.Mathlib.Decide.{ℕ_discrete}
use Rattle.plain_hub.specs.declared.job.Job.{Job}
use Rattle.plain_hub.specs.declared.entry.Call.{Call}
use Rattle.plain_hub.specs.declared.entry.Call.TheVariants.{Issue, Claim, Post, Flush, TakeDone, End, Stop}
use Rattle.plain_hub.specs.declared.entry.Entry.{Entry}
use Rattle.plain_hub.specs.Hub.{State, empty, job_of, rest_of, after, Allows, state_from, LegalFrom, Legal, entry}
use Rattle.plain_hub.specs.Proper.{one_if, is_claim, is_post, claims, posts}
use Rattle.plain_hub.proofs.Issued.{job_of-new, job_of-other}
use Rattle.plain_hub.proofs.Contained.{not_in_nil, where_in}

-- how often an id stands among the jobs, and how often it is issued
abbrev jobs_with : ℕ → List Job → ℕ
jobs_with id [] = 0
jobs_with id (j ∷ js) = one_if (j.id == id) + jobs_with id js

abbrev is_issue : ℕ → Call → ℕ
is_issue id (Issue j) = one_if (j.id == id)
is_issue id (Claim j) = 0
is_issue id (Post x) = 0
is_issue id (Flush n) = 0
is_issue id (TakeDone i ok) = 0
is_issue id (End why) = 0
is_issue id Stop = 0

abbrev issues : ℕ → List Entry → ℕ
issues id [] = 0
issues id (e ∷ es) = is_issue id e.call + issues id es

jobs_push : (id : ℕ) (js : List Job) (j : Job) → jobs_with id (js ++ j ∷ []) ≡ jobs_with id js + one_if (j.id == id)
jobs_push id [] j = omega arith
jobs_push id (x ∷ js) j = let h = jobs_push id js j in omega arith

-- what is claimed leaves the jobs
step : (id : ℕ) (s : State) (p : ℕ) (c : Call) → Allows s p c → jobs_with id (after s p c).jobs + is_claim id c ≡ jobs_with id s.jobs + is_issue id c
step id s p (Issue j) may = let h = jobs_push id s.jobs j in omega arith
step id s p (Claim j) may = let h : jobs_with id s.jobs ≡ one_if (j.id == id) + jobs_with id (rest_of s.jobs) = ap (jobs_with id) may.2 in omega arith
step id s p (Post x) may = refl
step id s p (Flush n) may = refl
step id s p (TakeDone i ok) may = refl
step id s p (End why) may = refl
step id s p Stop may = refl

balance : (id : ℕ) (s : State) (es : List Entry) → LegalFrom s es → jobs_with id (state_from s es).jobs + claims id es ≡ jobs_with id s.jobs + issues id es
balance id s [] h = refl
balance id s (e ∷ es) h = let a = step id s e.pass e.call h.0 in let b = balance id (after s e.pass e.call) es h.1 in omega arith

-- no id is issued twice
abbrev found : ℕ → List Job → ℕ
found id jobs = one_if (is_some (job_of id jobs))

at_most : (b : Bool) → one_if b ≤ 1
at_most true = omega arith
at_most false = omega arith

once_step : (id : ℕ) (s : State) (p : ℕ) (c : Call) → Allows s p c → is_issue id c + found id s.issued ≤ found id (after s p c).issued
once_step id s p (Issue j) may = dite (ℕ_discrete j.id id)
    (λ same.
    let was : found id s.issued ≡ 0 = ap (λ n. found n s.issued) (sym same) ∙ ap (λ o. one_if (is_some o)) may.1 in
    let now : found id (s.issued ++ j ∷ []) ≡ 1 = ap (λ n. found n (s.issued ++ j ∷ [])) (sym same) ∙ ap (λ o. one_if (is_some o)) (job_of-new s.issued j may.1) in
    let bit = at_most (j.id == id) in
    omega arith)
    (λ ne.
    let none : one_if (j.id == id) ≡ 0 = ap one_if (ne_eqb j.id id ne) in
    let now : found id (s.issued ++ j ∷ []) ≡ found id s.issued = ap (λ o. one_if (is_some o)) (job_of-other id s.issued j ne) in
    omega arith)
once_step id s p (Claim j) may = omega arith
once_step id s p (Post x) may = omega arith
once_step id s p (Flush n) may = omega arith
once_step id s p (TakeDone i ok) may = omega arith
once_step id s p (End why) may = omega arith
once_step id s p Stop may = omega arith

once_from : (id : ℕ) (s : State) (es : List Entry) → LegalFrom s es → issues id es + found id s.issued ≤ 1
once_from id s [] h = let m = at_most (is_some (job_of id s.issued)) in omega arith
once_from id s (e ∷ es) h = let a = once_step id s e.pass e.call h.0 in let b = once_from id (after s e.pass e.call) es h.1 in omega arith

pub claimed_once : (id : ℕ) (es : List Entry) → Legal es → claims id es ≤ 1
claimed_once id es h = let a = balance id empty es h in let b = once_from id empty es h in omega arith

pub claims-push : (id : ℕ) (xs ys : List Entry) → claims id (xs ++ ys) ≡ claims id xs + claims id ys
claims-push id [] ys = omega arith
claims-push id (x ∷ xs) ys = let h = claims-push id xs ys in omega arith

pub posts-push : (id : ℕ) (xs ys : List Entry) → posts id (xs ++ ys) ≡ posts id xs + posts id ys
posts-push id [] ys = omega arith
posts-push id (x ∷ xs) ys = let h = posts-push id xs ys in omega arith

-- the same by one pass
abbrev pub if_by : ℕ → ℕ → ℕ → ℕ
if_by p q n = if q == p then n else 0

abbrev pub claims_by : ℕ → ℕ → List Entry → ℕ
claims_by p id [] = 0
claims_by p id (e ∷ es) = if_by p e.pass (is_claim id e.call) + claims_by p id es

abbrev pub posts_by : ℕ → ℕ → List Entry → ℕ
posts_by p id [] = 0
posts_by p id (e ∷ es) = if_by p e.pass (is_post id e.call) + posts_by p id es

if_by_le : (p q n : ℕ) → if_by p q n ≤ n
if_by_le p q n = less (q == p)
  where
    less : (b : Bool) → (if b then n else 0) ≤ n
    less true = omega arith
    less false = omega arith

pub claims_by_le : (p id : ℕ) (es : List Entry) → claims_by p id es ≤ claims id es
claims_by_le p id [] = omega arith
claims_by_le p id (e ∷ es) = let h = claims_by_le p id es in let b = if_by_le p e.pass (is_claim id e.call) in omega arith

pub posts_by_le : (p id : ℕ) (es : List Entry) → posts_by p id es ≤ posts id es
posts_by_le p id [] = omega arith
posts_by_le p id (e ∷ es) = let h = posts_by_le p id es in let b = if_by_le p e.pass (is_post id e.call) in omega arith

pub claims_by-push : (p id : ℕ) (xs ys : List Entry) → claims_by p id (xs ++ ys) ≡ claims_by p id xs + claims_by p id ys
claims_by-push p id [] ys = omega arith
claims_by-push p id (x ∷ xs) ys = let h = claims_by-push p id xs ys in omega arith

pub claimed_by : (p : ℕ) (j : Job) (es : List Entry) → Contains es (entry p (Claim j)) → 1 ≤ claims_by p j.id es
claimed_by p j [] has = absurd (not_in_nil (entry p (Claim j)) has)
claimed_by p j (e ∷ es) has = ⊎_elim
    (λ (is : e ≡ entry p (Claim j)).
    let one : if_by p e.pass (is_claim j.id e.call) ≡ 1 = ap (λ (x : Entry). if_by p x.pass (is_claim j.id x.call)) is ∙ ap (λ b. if b then one_if (j.id == j.id) else 0) (eq-eqb p p refl) ∙ ap one_if (eq-eqb j.id j.id refl) in
    omega arith)
    (λ (later : Contains es (entry p (Claim j))). let h = claimed_by p j es later in omega arith)
    (where_in (entry p (Claim j)) e es has)

-- two passes cannot both have claimed it
bits : (p q n m : ℕ) → p ≢ q → if_by p n m + if_by q n m ≤ m
bits p q n m ne = dite (ℕ_discrete n p)
    (λ e. let a : if_by p n m ≡ m = ap (λ b. if b then m else 0) (eq-eqb n p e) in let b : if_by q n m ≡ 0 = ap (λ b. if b then m else 0) (ne_eqb n q (λ f. ne (sym e ∙ f))) in omega arith)
    (λ e. let a : if_by p n m ≡ 0 = ap (λ b. if b then m else 0) (ne_eqb n p e) in let b = if_by_le q n m in omega arith)

pub two_claims : (p q id : ℕ) (es : List Entry) → p ≢ q → claims_by p id es + claims_by q id es ≤ claims id es
two_claims p q id [] ne = omega arith
two_claims p q id (e ∷ es) ne = let h = two_claims p q id es ne in let b = bits p q e.pass (is_claim id e.call) ne in omega arith
