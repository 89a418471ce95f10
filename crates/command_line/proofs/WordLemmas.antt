-- How the reading of words goes on after an option and its value.
use Rattle.std.proofs.Common.{◌≡◌, ℕ, ◌+◌, ◌-◌, ◌≤◌, List, [], ◌∷◌, Option, Some, None, ap, ◌∙◌, length, take, drop, get_or, arith}
use Rattle.std.proofs.lemmas.List.{take_rest}
use Rattle.command_line.specs.Words.{Given, Key, Bad, reading, follow, pair_step, value_step, last_word, key_of, with_option}

-- a list of at least two, by its first two
pub two_and_rest : {A : Type 0} (xs : List A) (x y : A) → 2 ≤ length xs → x ≡ get_or xs 0 x → y ≡ get_or xs 1 y → xs ≡ x ∷ y ∷ take (length xs - 2) (drop 2 xs)
two_and_rest [] x y h p q = absurd (omega arith)
two_and_rest (a ∷ []) x y h p q = absurd (omega arith)
two_and_rest (a ∷ b ∷ r) x y h p q = grind (arith, take_rest (a ∷ b ∷ r) 2)

-- a list of at least one, by its first
pub one_and_rest : {A : Type 0} (xs : List A) (x : A) → 1 ≤ length xs → x ≡ get_or xs 0 x → xs ≡ x ∷ take (length xs - 1) (drop 1 xs)
one_and_rest [] x h p = absurd (omega (arith, h))
one_and_rest (a ∷ r) x h p = grind (arith, take_rest (a ∷ r) 1)

-- an option and a value, by what they give
pub reading_value : (g : Given) (k : ℕ) (word value : List ℕ) (rest : List (List ℕ)) (key : Key) (o : Option Given)
    → key_of g word ≡ Some key → with_option g key value ≡ o → reading g k (word ∷ value ∷ rest) ≡ follow (value_step k o) (λ h. reading h (k + 2) rest)
reading_value g k word value rest key o p q =
    ap (λ x. follow (pair_step g k x value) (λ h. reading h (k + 2) rest)) p ∙ ap (λ x. follow (value_step k x) (λ h. reading h (k + 2) rest)) q

pub reading-pair : (g : Given) (k : ℕ) (words : List (List ℕ)) (word value : List ℕ) (rest : List (List ℕ)) (key : Key) (more : Given)
    → words ≡ word ∷ value ∷ rest → key_of g word ≡ Some key → with_option g key value ≡ Some more → reading g k words ≡ reading more (k + 2) rest
reading-pair g k words word value rest key more e p q = ap (reading g k) e ∙ reading_value g k word value rest key (Some more) p q

-- a word that is no key
pub reading_keyless : (g : Given) (k : ℕ) (word : List ℕ) (rest : List (List ℕ)) → key_of g word ≡ None → reading g k (word ∷ rest) ≡ Bad k
reading_keyless g k word [] e = ap (last_word k) e
reading_keyless g k word (value ∷ rest) e = ap (λ o. follow (pair_step g k o value) (λ h. reading h (k + 2) rest)) e
