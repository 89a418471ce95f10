-- Registers in a text, one more.
use Rattle.std.proofs.Common.{◌≡◌, ℕ, suc, ◌<◌, ◌≤◌, ◌+◌, ◌-◌, refl, sym, ap, ◌∙◌, arith, List, [], ◌++◌, append_assoc, append-nil}
use Rattle.board.specs.Show.{register_text, registers_text}

-- the registers before n are in the text, and the others are left
abbrev pub Shown : List ℕ → ℕ → List ℕ → Type 0
Shown x n text = text ++ registers_text x n (32 - n) ≡ registers_text x 0 32

pub shown-start : (x : List ℕ) → Shown x 0 []
shown-start x = refl

pub shown-more : (x text one : List ℕ) (n : ℕ) → n < 32 → one ≡ register_text x n → Shown x n text
    → Shown x (n + 1) (text ++ one)
unfolding registers_text
shown-more x text one n less same s =
    let left : 32 - n ≡ suc (32 - (n + 1)) = omega (arith, less) in
    let rest = registers_text x (n + 1) (32 - (n + 1)) in
    let next : registers_text x n (32 - n) ≡ register_text x n ++ rest = ap (registers_text x n) left in
    append_assoc text one rest ∙ ap (λ z. text ++ (z ++ rest)) same ∙ ap (λ z. text ++ z) (sym next) ∙ s

pub shown-end : (x text : List ℕ) (n : ℕ) → 32 ≤ n → Shown x n text → text ≡ registers_text x 0 32
unfolding registers_text
shown-end x text n over s =
    let none : 32 - n ≡ 0 = omega (arith, over) in
    sym (append-nil text) ∙ ap (λ z. text ++ registers_text x n z) (sym none) ∙ s

pub ruleset shows = (shown-start, shown-more, shown-end)
