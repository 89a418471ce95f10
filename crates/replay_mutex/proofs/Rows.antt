-- Passes in a row.
use Rattle.std.specs.Prelude.{All}
use Rattle.std.proofs.Common.{◌≡◌, ℕ, suc, zero, ◌+◌, ◌<◌, List, [], ◌∷◌, ◌++◌, length, get_or, sym, ap, ◌∙◌, arith}
use Rattle.std.proofs.lemmas.List.{get_or_append_left, get_or_at, length-append}
use mathlib.Core.Logic.{dite}
use native.Mathlib.Decide.{ℕ_discrete}
use Rattle.atomic_table.specs.Seated.{TableId}
use Rattle.plain_hub.specs.declared.base.Base.{Base}
use Rattle.replay_mutex.specs.declared.pass.Pass.{Pass}
use Rattle.replay_mutex.specs.Views.{newcomer}
use Rattle.replay_mutex.specs.Shown.{knows, table_of}
use Rattle.replay_mutex.specs.Row.{AreNew}

-- new passes beside the pass 0, each behind the place of its number
abbrev pub AreOthers : TableId → Base → List Pass → Type 0
AreOthers z b ps = (k : ℕ) (p : Pass) → k < length ps → (table_of (get_or ps k p) ≡ z) × (knows (get_or ps k p) ≡ newcomer b (suc k) 0)

pub one_more_other : (z : TableId) (b : Base) (ps : List Pass) (p : Pass) (n : ℕ) → AreOthers z b ps → n ≡ length ps + 1 → table_of p ≡ z → knows p ≡ newcomer b n 0 → AreOthers z b (ps ++ p ∷ [])
one_more_other z b ps p n new count own is k d lt = dite (ℕ_discrete k (length ps))
    (λ last.
    let here : get_or (ps ++ p ∷ []) k d ≡ p = get_or_at ps p [] d k (sym last) in
    let number : n ≡ suc k = omega arith in
    (ap table_of here ∙ own, ap knows here ∙ is ∙ ap (λ m. newcomer b m 0) number))
    (λ earlier.
    let size = length-append ps (p ∷ []) in
    let less : k < length ps = omega arith in
    let here : get_or (ps ++ p ∷ []) k d ≡ get_or ps k d = get_or_append_left ps (p ∷ []) d k less in
    let old = new k d less in
    (ap table_of here ∙ old.0, ap knows here ∙ old.1))

-- behind the pass 0 they are all
pub all_new : (z : TableId) (b : Base) (count : ℕ) (first : Pass) (ps : List Pass) → table_of first ≡ z → knows first ≡ newcomer b 0 count → AreOthers z b ps → AreNew z b count (first ∷ ps)
all_new z b count first ps own is others zero d lt = (own, is)
all_new z b count first ps own is others (suc k) d lt = others k d (omega arith)

-- all are passes of that hub
pub all_of_new : (z : TableId) (b : Base) (count : ℕ) (ps : List Pass) → AreNew z b count ps → All (λ p. table_of p ≡ z) ps
all_of_new z b count ps new k d lt = (new k d lt).0
