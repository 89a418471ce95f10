-- Who claimed a job and has not posted its Done knows that nobody has.
use Rattle.std.proofs.Common.{◌≡◌, ◌≢◌, ℕ, ◌≤◌, List, [], ◌∷◌, ◌++◌, Bool, true, false, ◌==◌, refl, sym, ap, ◌∙◌, subst, arith, eq-eqb, ne_eqb, append_assoc}
use Rattle.std.proofs.lemmas.Bool.{eqb-true}
use Rattle.std.proofs.lemmas.List.{append-nil}
use Rattle.std.specs.Prelude.{if◌then◌else◌}
use mathlib.Core.Logic.{dite}
use native.Mathlib.Decide.{ℕ_discrete, dec_le}
use Rattle.plain_hub.specs.declared.base.Base.{Base}
use Rattle.plain_hub.specs.declared.item.Short.TheVariants.{Done, Console, Packet}
use Rattle.plain_hub.specs.declared.entry.Call.{Call}
use Rattle.plain_hub.specs.declared.entry.Call.TheVariants.{Issue, Claim, Post, Flush, TakeDone, End, Stop}
use Rattle.plain_hub.specs.declared.entry.Entry.{Entry}
use Rattle.plain_hub.specs.Hub.{Legal, entry}
use Rattle.plain_hub.specs.Proper.{one_if, is_claim, is_post, claims, posts, Meets, ProperFrom, Proper}
use Rattle.plain_hub.proofs.Counts.{claimed_once, claims-push, if_by, claims_by, posts_by, claims_by_le, claims_by-push, claimed_by, two_claims}

-- a Done is posted by who claimed its job, and once
pub posts_once : (b : Base) (es : List Entry) (p : ℕ) (c : Call) → Meets b es p c → (id : ℕ) → 1 ≤ is_post id c → (1 ≤ claims_by p id es) × (posts id es ≡ 0)
posts_once b es p (Issue j) meets id le = absurd (omega arith)
posts_once b es p (Claim j) meets id le = absurd (omega arith)
posts_once b es p (Post (Done i ok)) meets id le =
    let same : i ≡ id = when_one (i == id) refl le in
    let j = meets.0 in
    (subst (λ n. 1 ≤ claims_by p n es) (meets.1 ∙ same) (claimed_by p j es meets.2.0), subst (λ n. posts n es ≡ 0) (meets.1 ∙ same) meets.2.1)
  where
    when_one : (x : Bool) → (i == id) ≡ x → 1 ≤ one_if x → i ≡ id
    when_one true is le = eqb-true i id is
    when_one false is le = absurd (omega arith)
posts_once b es p (Post (Console x)) meets id le = absurd (omega arith)
posts_once b es p (Post (Packet x)) meets id le = absurd (omega arith)
posts_once b es p (Flush n) meets id le = absurd (omega arith)
posts_once b es p (TakeDone i ok) meets id le = absurd (omega arith)
posts_once b es p (End why) meets id le = absurd (omega arith)
posts_once b es p Stop meets id le = absurd (omega arith)

-- where no other pass claimed it, no other posted its Done
all_own : (b : Base) (p id : ℕ) (seen es : List Entry) → ProperFrom b seen es → ((q : ℕ) → q ≢ p → claims_by q id (seen ++ es) ≡ 0) → posts id es ≡ posts_by p id es
all_own b p id seen [] h others = refl
all_own b p id seen (e ∷ es) h others =
    let ih = all_own b p id (seen ++ e ∷ []) es h.1 (λ q ne. ap (claims_by q id) (append_assoc seen (e ∷ []) es) ∙ others q ne) in
    dite (ℕ_discrete e.pass p)
    (λ same. let a : if_by p e.pass (is_post id e.call) ≡ is_post id e.call = ap (λ b. if b then is_post id e.call else 0) (eq-eqb e.pass p same) in omega arith)
    (λ ne.
    let a : if_by p e.pass (is_post id e.call) ≡ 0 = ap (λ b. if b then is_post id e.call else 0) (ne_eqb e.pass p ne) in
    let z : is_post id e.call ≡ 0 =
    dite (dec_le 1 (is_post id e.call))
    (λ le. let c = (posts_once b seen e.pass e.call h.0 id le).0 in let d = claims_by-push e.pass id seen (e ∷ es) in let n = others e.pass ne in absurd (omega arith))
    (λ no_post. omega arith) in
    omega arith)

-- who claimed an id knows by its own calls whether its Done was posted
pub posted_own : (b : Base) (p id : ℕ) (es : List Entry) → Legal es → Proper b es → 1 ≤ claims_by p id es → posts id es ≡ posts_by p id es
posted_own b p id es legal proper mine = all_own b p id [] es proper (λ q ne. let one_only = claimed_once id es legal in let two = two_claims p q id es (λ e. ne (sym e)) in omega arith)

pub ProperFrom-push : (b : Base) (seen es : List Entry) (e : Entry) → ProperFrom b seen es → Meets b (seen ++ es) e.pass e.call → ProperFrom b seen (es ++ e ∷ [])
ProperFrom-push b seen [] e h right = (subst (λ l. Meets b l e.pass e.call) (append-nil seen) right, tt)
ProperFrom-push b seen (x ∷ es) e h right = (h.0, ProperFrom-push b (seen ++ x ∷ []) es e h.1 (subst (λ l. Meets b l e.pass e.call) (sym (append_assoc seen (x ∷ []) es)) right))

-- what was not claimed was not posted
unclaimed_from : (b : Base) (id : ℕ) (seen es : List Entry) → ProperFrom b seen es → claims id (seen ++ es) ≡ 0 → posts id es ≡ 0
unclaimed_from b id seen [] h none = refl
unclaimed_from b id seen (e ∷ es) h none =
    let ih = unclaimed_from b id (seen ++ e ∷ []) es h.1 (ap (claims id) (append_assoc seen (e ∷ []) es) ∙ none) in
    let z : is_post id e.call ≡ 0 =
    dite (dec_le 1 (is_post id e.call))
    (λ le. let c = (posts_once b seen e.pass e.call h.0 id le).0 in let d = claims-push id seen (e ∷ es) in let n = claims_by_le e.pass id seen in absurd (omega arith))
    (λ no_post. omega arith) in
    omega arith

-- whose claim is the last entry, of that id nothing was posted
pub fresh_claim : (b : Base) (id p : ℕ) (c : Call) (es : List Entry) → Legal (es ++ entry p c ∷ []) → Proper b es → is_claim id c ≡ 1 → posts id es ≡ 0
fresh_claim b id p c es legal proper is = let one_only = claimed_once id (es ++ entry p c ∷ []) legal in let two = claims-push id es (entry p c ∷ []) in unclaimed_from b id [] es proper (omega arith)
