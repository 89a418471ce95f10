-- Options that go together, and the steps by which they are read.
use Rattle.std.proofs.Common.{◌≡◌, ℕ, Bool, true, false, not, List, [], ◌∷◌, Option, Some, None, refl, sym, ap, ◌∙◌, subst, ◌&&◌, if◌then◌else◌}
use Rattle.std.specs.Prelude.{◌||◌, is_none, option_map, option_and_then}
use Rattle.std.proofs.lemmas.Bool.{and_parts, and_from, or_left}
use Rattle.command_line.specs.Number.{number_in}
use Rattle.command_line.specs.Icount.{Icount, name_of}
use Rattle.command_line.specs.Words.{Given, Key, IcountKey, BiosKey, RamKey, BudgetKey, SliceKey, is_open, with_value, with_option, together, go_together, is_replay}
use Rattle.command_line.specs.Grammar.{Choice, is_new, Adds}

-- what an option that was mapped came from
pub mapped : {A B : Type 0} (f : A → B) (o : Option A) (y : B) → option_map f o ≡ Some y → (x : A) × (o ≡ Some x) × (f x ≡ y)
mapped f None y e = absurd (cc)
mapped f (Some x) y e = (x, refl, cc)

-- what an option that was chained came from
pub chained : {A B : Type 0} (f : A → Option B) (o : Option A) (y : B) → option_and_then f o ≡ Some y → (x : A) × (o ≡ Some x) × (f x ≡ Some y)
chained f None y e = absurd (cc)
chained f (Some x) y e = (x, refl, e)

-- Options that go together.

abbrev pub Together : Given → Type 0
Together g = go_together g ≡ true

-- a recording goes with every option
pub without_replay : (g : Given) → not (is_replay g.icount) ≡ true → Together g
without_replay g e = or_left _ _ e

first_way : (a b : Bool) → (a || (false && b)) ≡ true → a ≡ true
first_way true b e = refl
first_way false b e = absurd (cc)

one_way : (a b : Bool) → (a || (b && false)) ≡ true → a ≡ true
one_way true b e = refl
one_way false true e = absurd (cc)
one_way false false e = absurd (cc)

no_icount : (o : Option Icount) → is_none o ≡ true → not (is_replay o) ≡ true
no_icount None e = refl
no_icount (Some i) e = absurd (cc)

pub together_some : (g : Given) → Together g → together g ≡ Some g
together_some g t = ap (λ b. if b then Some g else None) t

chosen : (b : Bool) (g m : Given) → (if b then Some g else None) ≡ Some m → (b ≡ true) × (g ≡ m)
chosen true g m e = (refl, cc)
chosen false g m e = absurd (cc)

-- options that were kept go together
pub option_together : (o : Option Given) (m : Given) → option_and_then together o ≡ Some m → (o ≡ Some m) × Together m
option_together None m e = absurd (cc)
option_together (Some g) m e = let h = chosen (go_together g) g m e in (ap Some h.1, subst Together h.1 h.0)

-- an option that goes with those before it may come there
open_new : (g m : Given) (key : Key) (v : List ℕ) → is_new g key ≡ true → with_value g key v ≡ Some m → Together m → is_open g key ≡ true
open_new g m IcountKey v n e t = n
open_new g m BiosKey v n e t = n
open_new g m RamKey v n e t = n
open_new g m BudgetKey v n e t =
    let x = mapped (λ (x : ℕ). record g { budget = Some x }) (number_in 1 1099511627776 v) m e in
    and_from _ _ n (first_way _ (is_none g.slice) (subst Together (sym x.2) t))
open_new g m SliceKey v n e t =
    let x = mapped (λ (x : ℕ). record g { slice = Some x }) (number_in 1 65536 v) m e in
    and_from _ _ n (one_way _ (is_none g.budget) (subst Together (sym x.2) t))

new_open : (g : Given) (key : Key) → is_open g key ≡ true → is_new g key ≡ true
new_open g IcountKey o = o
new_open g BiosKey o = o
new_open g RamKey o = o
new_open g BudgetKey o = (and_parts _ _ o).0
new_open g SliceKey o = (and_parts _ _ o).0

-- options that go together did so before the last of them came
before_together : (g m : Given) (key : Key) (v : List ℕ) → is_new g key ≡ true → with_value g key v ≡ Some m → Together m → Together g
before_together g m IcountKey v n e t = without_replay g (no_icount g.icount n)
before_together g m BiosKey v n e t = let x = mapped (λ (x : List ℕ). record g { bios = Some x }) (name_of v) m e in subst Together (sym x.2) t
before_together g m RamKey v n e t = let x = mapped (λ (x : ℕ). record g { ram_mib = Some x }) (number_in 1 64 v) m e in subst Together (sym x.2) t
before_together g m BudgetKey v n e t = without_replay g (and_parts _ _ (open_new g m BudgetKey v n e t)).1
before_together g m SliceKey v n e t = without_replay g (and_parts _ _ (open_new g m SliceKey v n e t)).1

-- Steps.

-- these options are read one after the other, from g to h
abbrev pub Steps : Given → List Choice → Given → Type 0
Steps g [] h = g ≡ h
Steps g (o ∷ os) h = (m : Given) × (is_open g o.key ≡ true) × (with_option g o.key o.value ≡ Some m) × Steps m os h

pub steps_from_adds : (os : List Choice) (g h : Given) → Adds g os h → Together h → Steps g os h × Together g
steps_from_adds [] g h a t = (a, subst Together (sym a) t)
steps_from_adds (o ∷ os) g h a t =
    let more = steps_from_adds os a.0 h a.3 t in (
      (a.0, open_new g a.0 o.key o.value a.1 a.2 more.1, ap (option_and_then together) a.2 ∙ together_some a.0 more.1, more.0),
      before_together g a.0 o.key o.value a.1 a.2 more.1,
    )

pub adds_from_steps : (os : List Choice) (g h : Given) → Steps g os h → Together g → Adds g os h × Together h
adds_from_steps [] g h s t = (s, subst Together s t)
adds_from_steps (o ∷ os) g h s t =
    let here = option_together (with_value g o.key o.value) s.0 s.2 in
    let more = adds_from_steps os s.0 h s.3 here.1 in ((s.0, new_open g o.key s.1, here.0, more.0), more.1)
