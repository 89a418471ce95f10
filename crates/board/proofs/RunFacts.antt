-- Turns while Run is due, one more or none.
use Rattle.std.proofs.Common.{◌≡◌, ℕ, zero, suc, ◌<◌, ◌≤◌, ◌+◌, ◌-◌, ◌⊎◌, inl, inr, Bool, true, false, refl, ap, ◌∙◌, arith, sub-one, add-one}
use Rattle.board.specs.declared.due.Due.{Due}
use Rattle.board.specs.declared.due.Due.TheVariants as due_is
use Rattle.board.specs.State.{State}
use Rattle.board.specs.Turn.{turn}
use Rattle.board.specs.Due.{due}
use Rattle.board.specs.Runs.{is_run, after, ran}

pub after-more : (n : ℕ) (g : State) → 0 < n → due g ≡ due_is.Run → after n g ≡ after (n - 1) (turn g)
unfolding after
after-more zero g h e = absurd (omega arith)
after-more (suc n) g h e = rw e (rw sub-one refl)

pub ran-more : (n : ℕ) (g : State) → 0 < n → due g ≡ due_is.Run → ran n g ≡ ran (n - 1) (turn g) + 1
unfolding ran
ran-more zero g h e = absurd (omega arith)
ran-more (suc n) g h e = rw e (rw (sub-one, add-one) refl)

pub after-none : (n : ℕ) (g : State) → is_run (due g) ≡ false → after n g ≡ g
unfolding after
after-none zero g e = refl
after-none (suc n) g e = rw e refl

pub ran-none : (n : ℕ) (g : State) → is_run (due g) ≡ false → ran n g ≡ 0
unfolding ran
ran-none zero g e = refl
ran-none (suc n) g e = rw e refl

pub after-zero : (g : State) → after 0 g ≡ g
unfolding after
after-zero g = refl

pub ran-zero : (g : State) → ran 0 g ≡ 0
unfolding ran
ran-zero g = refl

pub not_run : (d : Due) → (d ≡ due_is.Run → ⊥) → is_run d ≡ false
not_run due_is.Run h = absurd (h refl)
not_run due_is.Exception h = refl
not_run (due_is.End r c) h = refl
not_run due_is.Idle h = refl
not_run due_is.Slice h = refl
not_run due_is.Interrupt h = refl
not_run due_is.Clock h = refl
not_run due_is.Wait h = refl
not_run due_is.Nothing h = refl

either : (b : Bool) → (b ≡ true) ⊎ (b ≡ false)
either true = inl refl
either false = inr refl

-- turns, and then more of them
pub after-add : (m k : ℕ) (g : State) → ran m g ≡ m → after (m + k) g ≡ after k (after m g)
unfolding after ran
after-add zero k g h = let z : 0 + k ≡ k = omega arith in ap (λ n. after n g) z
after-add (suc m) k g h =
    let s : suc m + k ≡ suc (m + k) = omega arith in
    elim (either (is_run (due g))) [
      | inl e ↦ (let r = rw e at h in rw s (rw e (after-add m k (turn g) (omega arith))))
      | inr e ↦ (let r = rw e at h in absurd (omega arith))
    ]

pub ran-add : (m k : ℕ) (g : State) → ran m g ≡ m → ran (m + k) g ≡ m + ran k (after m g)
unfolding after ran
ran-add zero k g h = let z : 0 + k ≡ k = omega arith in ap (λ n. ran n g) z ∙ omega arith
ran-add (suc m) k g h =
    let s : suc m + k ≡ suc (m + k) = omega arith in
    elim (either (is_run (due g))) [
      | inl e ↦ (let r = rw e at h in rw s (rw e (let i = ran-add m k (turn g) (omega arith) in omega arith)))
      | inr e ↦ (let r = rw e at h in absurd (omega arith))
    ]

-- one turn more
pub made_more : (m : ℕ) (g : State) → ran m g ≡ m → due (after m g) ≡ due_is.Run → (after (m + 1) g ≡ turn (after m g)) × (ran (m + 1) g ≡ m + 1)
made_more m g h e = (
  after-add m 1 g h ∙ after-more 1 (after m g) (omega arith) e ∙ after-zero (turn (after m g)),
  ran-add m 1 g h ∙ ap (λ z. m + z) (ran-more 1 (after m g) (omega arith) e ∙ ap (λ z. z + 1) (ran-zero (turn (after m g)))),
)

-- no turn is due, so that more can't be made
pub made_all : (m k : ℕ) (g : State) → m ≤ k → ran m g ≡ m → is_run (due (after m g)) ≡ false → (after k g ≡ after m g) × (ran k g ≡ m)
made_all m k g w h e =
    let s : k ≡ m + (k - m) = omega arith in (
      ap (λ z. after z g) s ∙ after-add m (k - m) g h ∙ after-none (k - m) (after m g) e,
      ap (λ z. ran z g) s ∙ ran-add m (k - m) g h ∙ (let z = ran-none (k - m) (after m g) e in omega arith),
    )

pub ruleset run_facts = (after-zero, ran-zero, made_more, made_all)
