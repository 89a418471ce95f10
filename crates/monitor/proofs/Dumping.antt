-- Bytes of RAM as text, one more.
use Rattle.std.proofs.Common.{◌≡◌, ℕ, suc, ◌<◌, ◌≤◌, ◌+◌, ◌-◌, ◌^◌, ◌%◌, refl, sym, ap, ◌∙◌, arith, List, [], ◌++◌, append_assoc, append-nil}
use Rattle.std.specs.Prelude.{Some, None}
use Rattle.std.specs.declared.option.Option.{Option}
use Rattle.board.specs.Answers.{peeked}
use Rattle.monitor.specs.Dumps.{before, byte_text, then_bytes, bytes_text}

-- so many bytes were written, and the others are left
abbrev pub Dumped : List ℕ → ℕ → ℕ → ℕ → List ℕ → Type 0
Dumped ram at len i text = before text (bytes_text ram (at + i) (len - i)) ≡ bytes_text ram at len

before-none : (o : Option (List ℕ)) → before [] o ≡ o
before-none None = refl
before-none (Some xs) = refl

before-both : (xs ys : List ℕ) (o : Option (List ℕ)) → before xs (before ys o) ≡ before (xs ++ ys) o
before-both xs ys None = refl
before-both xs ys (Some zs) = ap Some (sym (append_assoc xs ys zs))

pub dumped-start : (ram : List ℕ) (at len : ℕ) → Dumped ram at len 0 []
dumped-start ram at len =
    let here : at + 0 ≡ at = omega arith in
    let all : len - 0 ≡ len = omega arith in
    rw here (rw all (before-none (bytes_text ram at len)))

next_byte : (ram : List ℕ) (at len i : ℕ) → i < len
    → bytes_text ram (at + i) (len - i) ≡ then_bytes (peeked ram ((at + i) % 2 ^ 32)) (bytes_text ram (at + (i + 1)) (len - (i + 1)))
next_byte ram at len i less =
    let one : len - i ≡ suc (len - (i + 1)) = omega (arith, less) in
    let next : at + i + 1 ≡ at + (i + 1) = omega arith in
    rw one (rw next refl)

pub dumped-more : (ram : List ℕ) (at len i b : ℕ) (text one : List ℕ) → i < len → peeked ram ((at + i) % 2 ^ 32) ≡ Some b → one ≡ byte_text b
    → Dumped ram at len i text → Dumped ram at len (i + 1) (text ++ one)
dumped-more ram at len i b text one less is same d =
    let rest = bytes_text ram (at + (i + 1)) (len - (i + 1)) in
    let step : bytes_text ram (at + i) (len - i) ≡ before (byte_text b) rest =
    next_byte ram at len i less ∙ ap (λ z. then_bytes z rest) is in
    sym (before-both text one rest) ∙ ap (λ z. before text (before z rest)) same ∙ ap (before text) (sym step) ∙ d

pub dumped-none : (ram : List ℕ) (at len i : ℕ) (text : List ℕ) → i < len → peeked ram ((at + i) % 2 ^ 32) ≡ None
    → Dumped ram at len i text → None ≡ bytes_text ram at len
dumped-none ram at len i text less is d =
    let rest = bytes_text ram (at + (i + 1)) (len - (i + 1)) in
    ap (before text) (sym (next_byte ram at len i less ∙ ap (λ z. then_bytes z rest) is)) ∙ d

pub dumped-end : (ram : List ℕ) (at len i : ℕ) (text : List ℕ) → len ≤ i → Dumped ram at len i text → Some text ≡ bytes_text ram at len
dumped-end ram at len i text over d =
    let none : len - i ≡ 0 = omega (arith, over) in
    ap Some (sym (append-nil text)) ∙ ap (λ z. before text (bytes_text ram (at + i) z)) (sym none) ∙ d

pub ruleset dumps = (dumped-start, dumped-more, dumped-none, dumped-end)
