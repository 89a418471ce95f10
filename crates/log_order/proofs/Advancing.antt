-- As many turns as run are one INSTRUCTION.
use Rattle.std.proofs.Common.{◌≡◌, ℕ, zero, suc, ◌-◌, ◌^◌, true, refl, sym, ap, ◌∙◌, inl, inr, arith}
use Rattle.std.specs.Prelude.{Some, Ok}
use Rattle.std.proofs.lemmas.Bool.{cases_Bool}
use Rattle.event_log.specs.declared.event.Event.TheVariants as event
use Rattle.board.specs.State.{State}
use Rattle.board.specs.Due.{due}
use Rattle.board.specs.Turn.{turn}
use Rattle.board.specs.Runs.{is_run, after, ran, step}
use Rattle.board.specs.Bounds.{Counts}
use Rattle.board.proofs.Counting.{over}
use Rattle.board.proofs.DueFacts.{is_run_run}
use Rattle.board.proofs.RunFacts.{ran-more}
use Rattle.log_order.specs.Feeding.{Progress, accepted, Advances}
use Rattle.log_order.proofs.Feeding.{going, all-ran}

-- as many turns as ran run again
ran-again : (n : ℕ) (g : State) → (ran (ran n g) g ≡ ran n g) × (after (ran n g) g ≡ after n g)
unfolding ran after
ran-again zero g = (refl, refl)
ran-again (suc n) g =
    elim (cases_Bool (is_run (due g))) [
      | inl on ↦ let p = ran-again n (turn g) in rw on (rw on (ap suc p.0, p.1))
      | inr off ↦ rw off (refl, refl)
    ]

-- with room for more turns than a slice has, another thing is due after those that run
pub instruction : (count : ℕ) (g h : State) → Counts g.control g.devices.time
    → count ≡ ran (2 ^ 32 - 1) g
    → h ≡ after (2 ^ 32 - 1) g → step g (event.Instruction count) ≡ Some h
instruction count g h counts made state =
    let p = ran-again (2 ^ 32 - 1) g in
    let again : ran count g ≡ count = ap (λ z. ran z g) made ∙ p.0 ∙ sym made in
    let last : h ≡ after count g = state ∙ sym (ap (λ z. after z g) made ∙ p.1) in
    all-ran count count g h last (sym again) refl (ap (λ z. is_run (due z)) state ∙ over g counts)

-- where a turn is due, one runs at least
pub advances-some : (p q : Progress) (count index : ℕ) (g h : State)
    → Counts g.control g.devices.time
    → is_run (due g) ≡ true → p ≡ going g index → h ≡ after (2 ^ 32 - 1) g
    → count ≡ ran (2 ^ 32 - 1) g
    → q ≡ accepted (going g index) h → Advances p (Ok count) q
advances-some p q zero index g h counts on old state made new =
    absurd (omega (arith, made, ran-more (2 ^ 32 - 1) g (omega arith) (is_run_run (due g) on)))
advances-some p q (suc n) index g h counts on old state made new =
    rw old (rw new (instruction (suc n) g h counts made state, refl))
