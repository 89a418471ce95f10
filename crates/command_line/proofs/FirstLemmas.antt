-- What words are read as, by the first of them and the command that it names.
use Rattle.std.proofs.Common.{◌≡◌, ℕ, ◌-◌, ◌≤◌, List, ◌∷◌, Some, None, length, map, get_or, take, drop, sym, ap, ◌∙◌}
use Rattle.std.specs.Prelude.{option_map}
use Rattle.command_line.specs.Words.{given_none, Reading, Bad, reading, command_of, command_reading, reading_of, quiet_reading}
use Rattle.command_line.specs.Grammar.{IsHelp, IsVersion}
use Rattle.command_line.proofs.WordLemmas.{one_and_rest}
use Rattle.command_line.proofs.CommandLemmas.{reads_command, reads_other}
use Rattle.command_line.proofs.LawLemmas.{other_first}

-- the words behind the first, of those that the code has
abbrev words_behind : {A : Type 0} → (A → List ℕ) → List A → List (List ℕ)
words_behind f xs = map f (take (length xs - 1) (drop 1 xs))

first_and_rest : {A : Type 0} (f : A → List ℕ) (xs : List A) (x : A) (w : List ℕ) → 1 ≤ length xs → x ≡ get_or xs 0 x → w ≡ f x → map f xs ≡ w ∷ words_behind f xs
first_and_rest f xs x w h p q = ap (map f) (one_and_rest xs x h p) ∙ ap (λ v. v ∷ words_behind f xs) (sym q)

pub command_line : {A : Type 0} (f : A → List ℕ) (xs : List A) (x : A) (w : List ℕ) (m : Reading) → 1 ≤ length xs → x ≡ get_or xs 0 x → w ≡ f x → (IsHelp w → ⊥) → (IsVersion w → ⊥)
    → Some m ≡ option_map (λ c. command_reading c (words_behind f xs)) (command_of w) → m ≡ reading_of (map f xs)
command_line f xs x w m h p q b c e =
    sym (ap reading_of (first_and_rest f xs x w h p q) ∙ other_first w (words_behind f xs) b c ∙ reads_command (command_of w) (words_behind f xs) m (reading given_none 0 (w ∷ words_behind f xs)) e)

pub options_line : {A : Type 0} (f : A → List ℕ) (xs : List A) (x : A) (w : List ℕ) → 1 ≤ length xs → x ≡ get_or xs 0 x → w ≡ f x → (IsHelp w → ⊥) → (IsVersion w → ⊥)
    → None ≡ option_map (λ c. command_reading c (words_behind f xs)) (command_of w) → reading given_none 0 (map f xs) ≡ reading_of (map f xs)
options_line f xs x w h p q b c e =
    let line = first_and_rest f xs x w h p q in
    ap (reading given_none 0) line
    ∙ sym (ap reading_of line ∙ other_first w (words_behind f xs) b c ∙ reads_other (command_of w) (words_behind f xs) (reading given_none 0 (w ∷ words_behind f xs)) e)

pub quiet_line : {A : Type 0} (f : A → List ℕ) (xs : List A) (x : A) (w : List ℕ) (m : Reading) → 1 ≤ length xs → x ≡ get_or xs 0 x → w ≡ f x
    → Some m ≡ option_map (λ c. command_reading c (words_behind f xs)) (command_of w) → m ≡ quiet_reading (map f xs)
quiet_line f xs x w m h p q e = sym (ap quiet_reading (first_and_rest f xs x w h p q) ∙ reads_command (command_of w) (words_behind f xs) m (Bad 0) e)

pub quiet_other : {A : Type 0} (f : A → List ℕ) (xs : List A) (x : A) (w : List ℕ) → 1 ≤ length xs → x ≡ get_or xs 0 x → w ≡ f x
    → None ≡ option_map (λ c. command_reading c (words_behind f xs)) (command_of w) → Bad 0 ≡ quiet_reading (map f xs)
quiet_other f xs x w h p q e = sym (ap quiet_reading (first_and_rest f xs x w h p q) ∙ reads_other (command_of w) (words_behind f xs) (Bad 0) e)
