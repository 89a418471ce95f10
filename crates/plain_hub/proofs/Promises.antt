-- What holds of the items that wait.
use Rattle.std.proofs.Common.{◌≡◌, ◌≢◌, ℕ, List, [], ◌∷◌, ◌++◌, false, true≢false, ◌==◌, None, Some, refl, sym, ap, subst, arith, eq-eqb}
use Rattle.std.specs.Prelude.{All, is_some}
use Rattle.std.specs.declared.option.Option.{Option}
use mathlib.Core.Logic.{dite}
use native.Mathlib.Decide.{dec_le}
use Rattle.plain_hub.specs.declared.base.Base.{Base}
use Rattle.plain_hub.specs.declared.job.Job.{Job}
use Rattle.plain_hub.specs.declared.item.Item.{Item}
use Rattle.plain_hub.specs.declared.item.Item.TheVariants as item
use Rattle.plain_hub.specs.declared.item.Short.TheVariants.{Done}
use Rattle.plain_hub.specs.declared.entry.Call.{Call}
use Rattle.plain_hub.specs.declared.entry.Call.TheVariants.{Post}
use Rattle.plain_hub.specs.declared.entry.Entry.{Entry}
use Rattle.plain_hub.specs.Hub.{State, empty, job_of, state_of, Legal, entry}
use Rattle.plain_hub.specs.Items.{short}
use Rattle.plain_hub.specs.Past.{Past}
use Rattle.plain_hub.specs.Proper.{one_if, is_post, posts, Answers, MayPost, Meets, Promised}
use Rattle.plain_hub.proofs.History.{state_from-push}
use Rattle.plain_hub.proofs.Issued.{issued_stays, claimed_is}
use Rattle.plain_hub.proofs.Counts.{posts-push}
use Rattle.plain_hub.proofs.Owners.{posts_once}

-- an item that is posted stays as promised
promise_stays : (b : Base) (es : List Entry) (p : ℕ) (c : Call) → Meets b es p c → (x : Item) → Promised b es x → Promised b (es ++ entry p c ∷ []) x
promise_stays b es p c meets (item.Done id read) is =
    let issued : job_of id (state_of (es ++ entry p c ∷ [])).issued ≡ Some is.0 = subst (λ (s : State). job_of id s.issued ≡ Some is.0) (sym (state_from-push empty es (entry p c))) (issued_stays (state_of es) (entry p c ∷ []) id is.0 is.1) in
    let none : is_post id c ≡ 0 =
    dite (dec_le 1 (is_post id c))
    (λ le. let posted = (posts_once b es p c meets id le).1 in let once = is.3 in absurd (omega arith))
    (λ no_post. omega arith) in
    let more = posts-push id es (entry p c ∷ []) in
    let once = is.3 in
    (is.0, issued, is.2, omega arith)
promise_stays b es p c meets (item.Console x) is = is
promise_stays b es p c meets (item.Packet x) is = is

pub promises_stay : (b : Base) (es : List Entry) (p : ℕ) (c : Call) → Meets b es p c → (xs : List Item) → All (Promised b es) xs → All (Promised b (es ++ entry p c ∷ [])) xs
promises_stay b es p c meets xs all = λ k d lt. promise_stays b es p c meets _ (all k d lt)

-- what was posted meets its condition, and is as promised
answer_ok : (b : Base) (j : Job) (read : Option (List ℕ)) → Answers b j read → is_some read ≡ false → j.len ≢ 0
answer_ok b j None answers failed = answers
answer_ok b j (Some xs) answers failed = absurd (true≢false failed)

pub may_meets : (h : Past) (p : ℕ) (x : Item) → MayPost h p x → Meets h.base h.entries p (Post (short x))
may_meets h p (item.Done id read) may = (may.0, may.1, may.2, answer_ok h.base may.0 read may.3)
may_meets h p (item.Console xs) may = may
may_meets h p (item.Packet xs) may = may

pub posted_promise : (h : Past) (p : ℕ) (x : Item) → Legal h.entries → MayPost h p x → Promised h.base (h.entries ++ entry p (Post (short x)) ∷ []) x
posted_promise h p (item.Done id read) legal may =
    let j = may.0 in
    let es = h.entries in
    let c : Call = Post (Done id (is_some read)) in
    let was : job_of id (state_of es).issued ≡ Some j = subst (λ n. job_of n (state_of es).issued ≡ Some j) may.1 (claimed_is es p j legal may.2.0) in
    let issued : job_of id (state_of (es ++ entry p c ∷ [])).issued ≡ Some j = subst (λ (s : State). job_of id s.issued ≡ Some j) (sym (state_from-push empty es (entry p c))) was in
    let none : posts id es ≡ 0 = subst (λ n. posts n es ≡ 0) may.1 may.2.1 in
    let one : one_if (id == id) ≡ 1 = ap one_if (eq-eqb id id refl) in
    let more = posts-push id es (entry p c ∷ []) in
    (j, issued, may.3, omega arith)
posted_promise h p (item.Console xs) legal may = may
posted_promise h p (item.Packet xs) legal may = may
