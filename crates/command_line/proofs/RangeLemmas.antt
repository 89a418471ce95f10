-- What words ask for lies in the ranges of the numbers, and a word that is called bad is there.
use Rattle.std.proofs.Common.{◌≡◌, ℕ, ◌≤◌, ◌^◌, List, [], ◌∷◌, Option, Some, None, length, map, refl, sym, subst, arith, ◌⊎◌, inl, inr}
use Rattle.std.proofs.lemmas.List.{length-map}
use Rattle.std.specs.Prelude.{IfSome, unwrap_or}
use Rattle.command_line.specs.Number.{number_in}
use Rattle.command_line.specs.Icount.{Icount, RecordInto, ReplayFrom, name_of, icount_of}
use Rattle.command_line.specs.Words.{Given, given_none, Key, IcountKey, BiosKey, RamKey, BudgetKey, SliceKey, with_value, Reading, Records, Replays, Demonstrates, Bad, request, command_or, reading_of, quiet_reading, IsBadLine, NamesWord, IsLineInRange}
use Rattle.command_line.specs.Grammar.{Choice, Adds, Asks, IsLine, shift_of}
use Rattle.command_line.proofs.NumberLemmas.{number-range}
use Rattle.command_line.proofs.StepLemmas.{mapped}
use Rattle.command_line.proofs.IcountLemmas.{icount_sound}
use Rattle.command_line.proofs.CommandLemmas.{Means, names_word, command_case, command_word_means}
use Rattle.command_line.proofs.LawLemmas.{line_means_so, good_line, line_sound, missing}

record InRange (g : Given) : Type 0 where
  pub icount : IfSome g.icount (λ i. IfSome (shift_of i) (λ n. n ≤ 10))
  pub ram_mib : IfSome g.ram_mib (λ n. (1 ≤ n) × (n ≤ 64))
  pub budget : IfSome g.budget (λ n. (1 ≤ n) × (n ≤ 2 ^ 40))
  pub slice : IfSome g.slice (λ n. (1 ≤ n) × (n ≤ 65536))

value_range : (g h : Given) (key : Key) (value : List ℕ) → InRange g → with_value g key value ≡ Some h → InRange h
value_range g h IcountKey value r e =
    let m = mapped (λ (x : Icount). record g { icount = Some x }) (icount_of value) h e in
    let asked = icount_sound value m.0 m.1 in
    subst InRange m.2 (record { icount = asked.shift; ram_mib = r.ram_mib; budget = r.budget; slice = r.slice })
value_range g h BiosKey value r e =
    let m = mapped (λ (x : List ℕ). record g { bios = Some x }) (name_of value) h e in
    subst InRange m.2 (record { icount = r.icount; ram_mib = r.ram_mib; budget = r.budget; slice = r.slice })
value_range g h RamKey value r e =
    let m = mapped (λ (x : ℕ). record g { ram_mib = Some x }) (number_in 1 64 value) h e in
    subst InRange m.2 (record { icount = r.icount; ram_mib = number-range 1 64 value m.0 m.1; budget = r.budget; slice = r.slice })
value_range g h BudgetKey value r e =
    let m = mapped (λ (x : ℕ). record g { budget = Some x }) (number_in 1 (2 ^ 40) value) h e in
    subst InRange m.2 (record { icount = r.icount; ram_mib = r.ram_mib; budget = number-range 1 (2 ^ 40) value m.0 m.1; slice = r.slice })
value_range g h SliceKey value r e =
    let m = mapped (λ (x : ℕ). record g { slice = Some x }) (number_in 1 65536 value) h e in
    subst InRange m.2 (record { icount = r.icount; ram_mib = r.ram_mib; budget = r.budget; slice = number-range 1 65536 value m.0 m.1 })

choices_range : (os : List Choice) (g h : Given) → InRange g → Adds g os h → InRange h
choices_range [] g h r a = subst InRange a r
choices_range (o ∷ os) g h r a = choices_range os a.0 h (value_range g a.0 o.key o.value r a.2) a.3

or_default : (o : Option ℕ) (n least most : ℕ) → least ≤ n → n ≤ most → IfSome o (λ m. (least ≤ m) × (m ≤ most)) → (least ≤ unwrap_or o n) × (unwrap_or o n ≤ most)
or_default None n least most a b r = (a, b)
or_default (Some m) n least most a b r = r

ended_range : (g : Given) (i : Option Icount) (b : Option (List ℕ)) → InRange g → IfSome i (λ x. IfSome (shift_of x) (λ n. n ≤ 10)) → IsLineInRange (request g i b)
ended_range g (Some (RecordInto n l)) (Some b) r shift = record {
  shift = shift;
  ram_mib = or_default g.ram_mib 16 1 64 (omega arith) (omega arith) r.ram_mib;
  slice = or_default g.slice 10000 1 65536 (omega arith) (omega arith) r.slice;
  budget = or_default g.budget 1000000000 1 (2 ^ 40) (omega arith) (omega arith) r.budget;
}
ended_range g (Some (ReplayFrom n l)) (Some b) r shift = record { shift = shift; ram_mib = r.ram_mib }
ended_range g (Some (RecordInto n l)) None r shift = tt
ended_range g (Some (ReplayFrom n l)) None r shift = tt
ended_range g None b r shift = tt

asks_range : (words : List (List ℕ)) (m : Reading) → Asks given_none words m → IsLineInRange m
asks_range words m h =
    let last = choices_range h.choices given_none h.last (record { icount = tt; ram_mib = tt; budget = tt; slice = tt }) h.adds in
    subst IsLineInRange h.asks (ended_range h.last h.last.icount h.last.bios last last.icount)

good_range : (words : List (List ℕ)) (m : Reading) → IsBadLine m ⊎ IsLine words m → IsLineInRange m
good_range words (Records r) (inl b) = absurd b
good_range words (Records r) (inr h) = asks_range words (Records r) h
good_range words (Replays r) (inl b) = absurd b
good_range words (Replays r) (inr h) = asks_range words (Replays r) h
good_range words (Demonstrates n) (inl b) = absurd b
good_range words (Demonstrates n) (inr h) = (h.1, h.2)
good_range words other h = tt

-- what a line is read as is in range
pub line_range : (words : List (List ℕ)) (m : Reading) → m ≡ reading_of words → IsLineInRange m
line_range words m e = subst IsLineInRange (sym e) (good_range words (reading_of words) (line_sound words))

-- Words that are called bad.

means_names : {A : Type 0} (f : A → List ℕ) (x : A) (xs : List A) (reads : List (List ℕ) → Reading) (r m : Reading) → Means (f x) reads (map f xs) r → m ≡ r → NamesWord m (length (x ∷ xs))
means_names f x xs reads r m h e =
    subst (λ n. NamesWord m n) (length-map (x ∷ xs) f) (subst (λ q. NamesWord q (length (map f (x ∷ xs)))) (sym e) (names_word (f x) reads (map f xs) r h))

-- a word of a line that is called bad is one of its words
pub line_names : {A : Type 0} (f : A → List ℕ) (xs : List A) (m : Reading) → m ≡ reading_of (map f xs) → NamesWord m (length xs)
line_names f [] m e = subst (λ q. NamesWord q 0) (sym e) tt
line_names f (x ∷ xs) m e = means_names f x xs (λ vs. reading_of (f x ∷ vs)) (reading_of (f x ∷ map f xs)) m (line_means_so (f x) (map f xs)) e

-- The words of a quiet command.

quiet_means : (w : List ℕ) (ws : List (List ℕ)) → Means w (λ vs. quiet_reading (w ∷ vs)) ws (quiet_reading (w ∷ ws))
quiet_means w ws =
    command_case w (λ o. Means w (λ vs. command_or o vs (Bad 0)) ws (command_or o ws (Bad 0))) (λ c p. command_word_means w c p ws)
    (record { within = omega arith; before = missing [] refl; stays = λ rest. refl })

pub quiet_range : (words : List (List ℕ)) (m : Reading) → m ≡ quiet_reading words → IsLineInRange m
quiet_range [] m e = subst IsLineInRange (sym e) tt
quiet_range (w ∷ ws) m e =
    subst IsLineInRange (sym e) (good_range (w ∷ ws) (quiet_reading (w ∷ ws)) (good_line w (λ vs. quiet_reading (w ∷ vs)) ws (quiet_reading (w ∷ ws)) (quiet_means w ws)))

pub quiet_names : {A : Type 0} (f : A → List ℕ) (xs : List A) (m : Reading) → m ≡ quiet_reading (map f xs) → NamesWord m (length xs)
quiet_names f [] m e = subst (λ q. NamesWord q 0) (sym e) tt
quiet_names f (x ∷ xs) m e = means_names f x xs (λ vs. quiet_reading (f x ∷ vs)) (quiet_reading (f x ∷ map f xs)) m (quiet_means (f x) (map f xs)) e
