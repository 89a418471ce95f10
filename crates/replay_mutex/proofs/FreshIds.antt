-- Jobs whose ids rise.
use Rattle.std.proofs.Common.{◌≡◌, ◌≢◌, ℕ, ◌+◌, ◌<◌, List, [], ◌∷◌, ◌++◌, cond, None, Some, refl, sym, ap, ◌∙◌, subst, arith, ne_eqb, append_assoc}
use Rattle.std.specs.Prelude.{All}
use Rattle.std.proofs.lemmas.List.Elements.{All-append}
use Rattle.plain_hub.specs.declared.job.Job.{Job}
use Rattle.plain_hub.specs.declared.entry.Call.TheVariants.{Issue}
use Rattle.plain_hub.specs.declared.entry.Entry.{Entry}
use Rattle.plain_hub.specs.Hub.{job_of, entry}
use Rattle.plain_hub.proofs.Contained.{all_head, all_tail, all_one}
use Rattle.replay_mutex.specs.Shown.{issued_by, issued_in}

pub fresh_id : (n : ℕ) (jobs : List Job) → All (λ j. j.id < n) jobs → job_of n jobs ≡ None
fresh_id n [] all = refl
fresh_id n (j ∷ jobs) all =
    let lt : j.id < n = all_head (λ (x : Job). x.id < n) j jobs all in
    let ne : j.id ≢ n = (λ e. omega arith) in
    ap (λ b. cond b (Some j) (job_of n jobs)) (ne_eqb j.id n ne) ∙ fresh_id n jobs (all_tail (λ (x : Job). x.id < n) j jobs all)

issued_in-push : (xs : List Entry) (p : ℕ) (j : Job) → issued_in (xs ++ entry p (Issue j) ∷ []) ≡ issued_in xs ++ j ∷ []
issued_in-push [] p j = refl
issued_in-push (x ∷ xs) p j = ap (λ l. issued_by x.call ++ l) (issued_in-push xs p j) ∙ sym (append_assoc (issued_by x.call) (issued_in xs) (j ∷ []))

pub one_id_more : (n m p : ℕ) (xs : List Entry) (j : Job) → All (λ (x : Job). x.id < n) (issued_in xs) → j.id ≡ n → m ≡ n + 1 → All (λ (x : Job). x.id < m) (issued_in (xs ++ entry p (Issue j) ∷ []))
one_id_more n m p xs j all is next =
    let wider : All (λ (x : Job). x.id < m) (issued_in xs) = (λ k d lt. let h = all k d lt in omega arith) in
    subst (λ l. All (λ (x : Job). x.id < m) l) (sym (issued_in-push xs p j)) (All-append (λ (x : Job). x.id < m) (issued_in xs) (j ∷ []) wider (all_one (λ (x : Job). x.id < m) j (omega arith)))
