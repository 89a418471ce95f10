-- Which words an allowed line goes on with.
use Rattle.std.proofs.Common.{◌≡◌, ℕ, ◌+◌, Bool, true, false, List, [], ◌∷◌, ◌++◌, Option, Some, None, refl, sym, ap, subst, codes, ◌⊎◌, inl, inr, ◌&&◌, if◌then◌else◌}
use Rattle.std.specs.Prelude.{⊤}
use Rattle.std.specs.Str.{bytes_eq}
use Rattle.std.proofs.lemmas.Bool.{and_parts}
use Rattle.std.proofs.lemmas.Slice.Eq.{bytes_eq-Decides}
use Rattle.command_line.specs.Icount.{Icount, RecordInto, ReplayFrom}
use Rattle.command_line.specs.Words.{Given, Key, IcountKey, BiosKey, RamKey, BudgetKey, SliceKey, is_open, with_value, with_option, key_of, Reading, Records, Replays, Bad, Early, Step, reading, follow, pair_step, value_step, last_word, at_end}
use Rattle.command_line.specs.Grammar.{Choice, key_word, line_words}
use Rattle.command_line.proofs.StepLemmas.{Together, together_some, without_replay, option_together, Steps}

-- Keys.

abbrev pub Named : Given → List ℕ → Key → Type 0
Named g w key = (w ≡ key_word key) × (is_open g key ≡ true)

named : (g : Given) (w : List ℕ) (key : Key) → (bytes_eq w (key_word key) && is_open g key) ≡ true → Named g w key
named g w key e = let k = and_parts _ _ e in ((bytes_eq-Decides w (key_word key)).0 k.0, k.1)

choose : (b : Bool) (key k : Key) (o : Option Key) (P : Key → Type 0) → (b ≡ true → P key) → (o ≡ Some k → P k) → (if b then Some key else o) ≡ Some k → P k
choose true key k o P hit miss e = let same : key ≡ k = cc in subst P same (hit refl)
choose false key k o P hit miss e = miss e

no_more : (P : Key → Type 0) (k : Key) → ◌≡◌ {A = Option Key} None (Some k) → P k
no_more P k e = absurd (cc)

key_some : (g : Given) (w : List ℕ) (key : Key) → key_of g w ≡ Some key → Named g w key
key_some g w k e =
    choose _ IcountKey k _ (Named g w) (named g w IcountKey)
    (choose _ BiosKey k _ (Named g w) (named g w BiosKey)
    (choose _ RamKey k _ (Named g w) (named g w RamKey)
    (choose _ BudgetKey k _ (Named g w) (named g w BudgetKey)
    (choose _ SliceKey k _ (Named g w) (named g w SliceKey) (no_more (Named g w) k))))) e

pub key_of-word : (g : Given) (key : Key) → is_open g key ≡ true → key_of g (key_word key) ≡ Some key
key_of-word g IcountKey o = rw o refl
key_of-word g BiosKey o = rw o refl
key_of-word g RamKey o = rw o refl
key_of-word g BudgetKey o = rw o refl
key_of-word g SliceKey o = rw o refl

-- Lines that go on.

-- the words are a recording's or a replay's
abbrev pub IsRequest : Reading → Type 0
IsRequest (Records r) = ⊤
IsRequest (Replays r) = ⊤
IsRequest other = ⊥

-- after the options g an allowed line goes on with these words
pub record Continues (g : Given) (words : List (List ℕ)) : Type 0 where
  pub rest : List (List ℕ)
  pub choices : List Choice
  pub last : Given
  pub meaning : Reading
  pub spelled : line_words choices ≡ words ++ rest
  pub steps : Steps g choices last
  pub asks : at_end last ≡ meaning
  pub request : IsRequest meaning

-- a value of `-icount` that goes with every option
any_icount : List ℕ
any_icount = codes "shift=0,rr=record,rrfile=x"

icount_choice : Choice
icount_choice = record { key = IcountKey; value = any_icount }

bios_choice : Choice
bios_choice = record { key = BiosKey; value = 120 ∷ [] }

-- from options that go together a line can be ended
continues_from : (g : Given) (i : Option Icount) (b : Option (List ℕ)) → Together (record g { icount = i; bios = b }) → Continues (record g { icount = i; bios = b }) []
unfolding any_icount icount_choice bios_choice
continues_from g (Some (RecordInto n l)) (Some b) t = record { rest = []; choices = []; last = _; meaning = _; spelled = refl; steps = refl; asks = refl; request = tt }
continues_from g (Some (ReplayFrom n l)) (Some b) t = record { rest = []; choices = []; last = _; meaning = _; spelled = refl; steps = refl; asks = refl; request = tt }
continues_from g None (Some b) t = record { rest = _; choices = icount_choice ∷ []; last = _; meaning = _; spelled = refl; steps = (_, refl, refl, refl); asks = refl; request = tt }
continues_from g (Some (RecordInto n l)) None t = record { rest = _; choices = bios_choice ∷ []; last = _; meaning = _; spelled = refl; steps = (_, refl, refl, refl); asks = refl; request = tt }
continues_from g (Some (ReplayFrom n l)) None t = record {
  rest = _;
  choices = bios_choice ∷ [];
  last = record g { icount = Some (ReplayFrom n l); bios = Some (120 ∷ []) };
  meaning = _;
  spelled = refl;
  steps = (_, refl, together_some (record g { icount = Some (ReplayFrom n l); bios = Some (120 ∷ []) }) t, refl);
  asks = refl;
  request = tt;
}
continues_from g None None t = record { rest = _; choices = icount_choice ∷ bios_choice ∷ []; last = _; meaning = _; spelled = refl; steps = (_, refl, refl, (_, refl, refl, refl)); asks = refl; request = tt }

pub continues-nil : (g : Given) → Together g → Continues g []
continues-nil g t = continues_from g g.icount g.bios t

pub continues-pair : (g m : Given) (key : Key) (value : List ℕ) (words : List (List ℕ)) → is_open g key ≡ true → with_option g key value ≡ Some m → Continues m words
    → Continues g (key_word key ∷ value ∷ words)
continues-pair g m key value words o e h = record {
  rest = h.rest;
  choices = record { key = key; value = value } ∷ h.choices;
  last = h.last;
  meaning = h.meaning;
  spelled = ap (λ l. key_word key ∷ value ∷ l) h.spelled;
  steps = (m, o, e, h.steps);
  asks = h.asks;
  request = h.request;
}

-- an option that may come has a good value
value_for : (g : Given) (key : Key) → is_open g key ≡ true → Together g → (value : List ℕ) × (m : Given) × (with_option g key value ≡ Some m) × Together m
unfolding any_icount
value_for g IcountKey o t = (any_icount, _, refl, refl)
value_for g BiosKey o t = (120 ∷ [], record g { bios = Some (120 ∷ []) }, together_some (record g { bios = Some (120 ∷ []) }) t, t)
value_for g RamKey o t = (49 ∷ [], record g { ram_mib = Some 1 }, together_some (record g { ram_mib = Some 1 }) t, t)
value_for g BudgetKey o t =
    let m : Given = record g { budget = Some 1 } in
    let alone : Together m = without_replay m (and_parts _ _ o).1 in (49 ∷ [], m, together_some m alone, alone)
value_for g SliceKey o t =
    let m : Given = record g { slice = Some 1 } in
    let alone : Together m = without_replay m (and_parts _ _ o).1 in (49 ∷ [], m, together_some m alone, alone)

pub continues-key : (g : Given) (key : Key) → is_open g key ≡ true → Together g → Continues g (key_word key ∷ [])
continues-key g key o t =
    let v = value_for g key o t in
    let h = continues-pair g v.1 key v.0 [] o v.2 (continues-nil v.1 v.3) in
    record { rest = v.0 ∷ h.rest; choices = h.choices; last = h.last; meaning = h.meaning; spelled = h.spelled; steps = h.steps; asks = h.asks; request = h.request }

-- What words are read as.

pub key_case : (o : Option Key) → (o ≡ None) ⊎ ((key : Key) × (o ≡ Some key))
key_case None = inl refl
key_case (Some key) = inr (key, refl)

pub given_case : (o : Option Given) → (o ≡ None) ⊎ ((g : Given) × (o ≡ Some g))
given_case None = inl refl
given_case (Some g) = inr (g, refl)

-- what a recursion over two words at a time shows of what they are read as
pub read_cases : (P : Given → ℕ → List (List ℕ) → Reading → Type 0)
    → ((g : Given) (k : ℕ) → Together g → P g k [] (at_end g))
    → ((g : Given) (k : ℕ) (w : List ℕ) (words : List (List ℕ)) → Together g → key_of g w ≡ None → P g k (w ∷ words) (Bad k))
    → ((g : Given) (k : ℕ) (w : List ℕ) (key : Key) → Together g → Named g w key → P g k (w ∷ []) Early)
    → ((g : Given) (k : ℕ) (w v : List ℕ) (words : List (List ℕ)) (key : Key) → Together g → Named g w key → with_option g key v ≡ None → P g k (w ∷ v ∷ words) (Bad (k + 1)))
    → ((g m : Given) (k : ℕ) (w v : List ℕ) (words : List (List ℕ)) (key : Key) (r : Reading) → Named g w key → with_option g key v ≡ Some m → P m (k + 2) words r → P g k (w ∷ v ∷ words) r)
    → (words : List (List ℕ)) (g : Given) (k : ℕ) → Together g → P g k words (reading g k words)
read_cases P ended unnamed early unfit more [] g k t = ended g k t
read_cases P ended unnamed early unfit more (w ∷ []) g k t =
    elim (key_case (key_of g w)) [
      | inl p ↦ subst (λ o. P g k (w ∷ []) (last_word k o)) (sym p) (unnamed g k w [] t p)
      | inr q ↦ subst (λ o. P g k (w ∷ []) (last_word k o)) (sym q.1) (early g k w q.0 t (key_some g w q.0 q.1))
    ]
read_cases P ended unnamed early unfit more (w ∷ v ∷ words) g k t =
    let F : Step → Reading = λ s. follow s (λ h. reading h (k + 2) words) in
    elim (key_case (key_of g w)) [
      | inl p ↦ subst (λ o. P g k (w ∷ v ∷ words) (F (pair_step g k o v))) (sym p) (unnamed g k w (v ∷ words) t p)
      | inr q ↦ subst (λ o. P g k (w ∷ v ∷ words) (F (pair_step g k o v))) (sym q.1)
          (elim (given_case (with_option g q.0 v)) [
            | inl r ↦ subst (λ o. P g k (w ∷ v ∷ words) (F (value_step k o))) (sym r) (unfit g k w v words q.0 t (key_some g w q.0 q.1) r)
            | inr r ↦ subst (λ o. P g k (w ∷ v ∷ words) (F (value_step k o))) (sym r.1)
                (more g r.0 k w v words q.0 _ (key_some g w q.0 q.1) r.1 (read_cases P ended unnamed early unfit more words r.0 (k + 2) (option_together (with_value g q.0 v) r.0 r.1).1))
          ])
    ]
