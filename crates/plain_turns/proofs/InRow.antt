-- No plain turn, and one more.
use Rattle.std.proofs.Common.{◌≡◌, ◌+◌, ℕ, suc, List, refl, subst, arith}
use Rattle.rv_exec.specs.declared.hart.Hart.{Hart}
use Rattle.plain_turns.specs.Turns.{PlainTurn, PlainTurns}

pub no_turns : (h : Hart) (ram : List ℕ) → PlainTurns h ram 0 h ram
unfolding PlainTurns
no_turns h ram = (refl, refl)

pub one_more_turn : (h h1 h2 : Hart) (ram ram1 ram2 : List ℕ) (n : ℕ) → PlainTurns h ram n h1 ram1 → PlainTurn h1 ram1 h2 ram2 → PlainTurns h ram (n + 1) h2 ram2
unfolding PlainTurns
one_more_turn h h1 h2 ram ram1 ram2 n before last =
    let e : suc n ≡ n + 1 = omega arith in subst (λ k. PlainTurns h ram k h2 ram2) e (h1, ram1, before, last)

pub ruleset turns = (no_turns, one_more_turn)
