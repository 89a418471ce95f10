-- A job that was claimed is the job of its id.
use Rattle.std.proofs.Common.{◌≡◌, ◌≢◌, ℕ, List, [], ◌∷◌, ◌++◌, ◌==◌, None, Some, refl, sym, ap, ◌∙◌, subst, ⊎_elim, eq-eqb, ne_eqb, arith}
use Rattle.std.specs.Prelude.{Contains, if◌then◌else◌}
use Rattle.std.specs.Option.{option_or}
use Rattle.std.specs.declared.option.Option.{Option}
use Rattle.std.proofs.lemmas.List.Folds.{find-append}
use Rattle.plain_hub.specs.declared.job.Job.{Job}
use Rattle.plain_hub.specs.declared.entry.Call.{Call}
use Rattle.plain_hub.specs.declared.entry.Call.TheVariants.{Issue, Claim, Post, Flush, TakeDone, End, Stop}
use Rattle.plain_hub.specs.declared.entry.Entry.{Entry}
use Rattle.plain_hub.specs.Hub.{State, empty, job_of, rest_of, after, Allows, state_from, LegalFrom, state_of, Legal, entry}
use Rattle.plain_hub.proofs.Contained.{not_in_nil, in_rest, where_in, in_either, is_last}

pub job_of-old : (id : ℕ) (jobs : List Job) (j k : Job) → job_of id jobs ≡ Some k → job_of id (jobs ++ j ∷ []) ≡ Some k
job_of-old id jobs j k is = find-append (λ (x : Job). x.id == id) jobs (j ∷ []) ∙ ap (λ o. option_or o (job_of id (j ∷ []))) is

pub job_of-new : (jobs : List Job) (j : Job) → job_of j.id jobs ≡ None → job_of j.id (jobs ++ j ∷ []) ≡ Some j
job_of-new jobs j none = find-append (λ (x : Job). x.id == j.id) jobs (j ∷ []) ∙ ap (λ o. option_or o (job_of j.id (j ∷ []))) none ∙ ap (λ b. if b then Some j else None) (eq-eqb j.id j.id refl)

pub job_of-other : (id : ℕ) (jobs : List Job) (j : Job) → j.id ≢ id → job_of id (jobs ++ j ∷ []) ≡ job_of id jobs
job_of-other id jobs j ne = find-append (λ (x : Job). x.id == id) jobs (j ∷ []) ∙ ap (λ b. option_or (job_of id jobs) (if b then Some j else None)) (ne_eqb j.id id ne) ∙ or_none (job_of id jobs)
  where
    or_none : (o : Option Job) → option_or o None ≡ o
    or_none None = refl
    or_none (Some x) = refl

-- each job that waits is the job of its id
abbrev Known : State → Type 0
Known s = (j : Job) → Contains s.jobs j → job_of j.id s.issued ≡ Some j

in_others : (jobs : List Job) (j : Job) → Contains (rest_of jobs) j → Contains jobs j
in_others [] j has = has
in_others (x ∷ jobs) j has = in_rest j x jobs has

known_step : (s : State) (p : ℕ) (c : Call) → Known s → Allows s p c → Known (after s p c)
known_step s p (Issue n) known may j has = ⊎_elim
    (λ (old : Contains s.jobs j). job_of-old j.id s.issued n j (known j old))
    (λ (new : Contains (n ∷ []) j). subst (λ (x : Job). job_of x.id (s.issued ++ n ∷ []) ≡ Some x) (is_last j n new) (job_of-new s.issued n may.1))
    (in_either j s.jobs (n ∷ []) has)
known_step s p (Claim n) known may j has = known j (in_others s.jobs j has)
known_step s p (Post x) known may j has = known j has
known_step s p (Flush n) known may j has = known j has
known_step s p (TakeDone id ok) known may j has = known j has
known_step s p (End why) known may j has = known j has
known_step s p Stop known may j has = known j has

-- the job of an id stays
issued_step : (s : State) (p : ℕ) (c : Call) (id : ℕ) (j : Job) → job_of id s.issued ≡ Some j → job_of id (after s p c).issued ≡ Some j
issued_step s p (Issue n) id j is = job_of-old id s.issued n j is
issued_step s p (Claim n) id j is = is
issued_step s p (Post x) id j is = is
issued_step s p (Flush n) id j is = is
issued_step s p (TakeDone i ok) id j is = is
issued_step s p (End why) id j is = is
issued_step s p Stop id j is = is

pub issued_stays : (s : State) (es : List Entry) (id : ℕ) (j : Job) → job_of id s.issued ≡ Some j → job_of id (state_from s es).issued ≡ Some j
issued_stays s [] id j is = is
issued_stays s (e ∷ es) id j is = issued_stays (after s e.pass e.call) es id j (issued_step s e.pass e.call id j is)

claimed_from : (s : State) (es : List Entry) (p : ℕ) (j : Job) → Known s → LegalFrom s es → Contains es (entry p (Claim j)) → job_of j.id (state_from s es).issued ≡ Some j
claimed_from s [] p j known legal has = absurd (not_in_nil (entry p (Claim j)) has)
claimed_from s (e ∷ es) p j known legal has = ⊎_elim
    (λ (is : e ≡ entry p (Claim j)).
    let may : Allows s p (Claim j) = subst (λ (x : Entry). Allows s x.pass x.call) is legal.0 in
    let here : Contains s.jobs j = subst (λ l. Contains l j) (sym may.2) (0, omega arith, refl) in
    issued_stays s (e ∷ es) j.id j (known j here))
    (λ (later : Contains es (entry p (Claim j))). claimed_from (after s e.pass e.call) es p j (known_step s e.pass e.call known legal.0) legal.1 later)
    (where_in (entry p (Claim j)) e es has)

-- who claimed a job knows the job of its id
pub claimed_is : (es : List Entry) (p : ℕ) (j : Job) → Legal es → Contains es (entry p (Claim j)) → job_of j.id (state_of es).issued ≡ Some j
claimed_is es p j legal has = claimed_from empty es p j (λ k in_none. absurd (not_in_nil k in_none)) legal has
