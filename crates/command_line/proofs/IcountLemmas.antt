-- What a value of `-icount` is read as.
use Rattle.std.proofs.Common.{◌≡◌, ◌≢◌, ℕ, zero, suc, ◌<◌, ◌≤◌, Bool, true, false, not, List, [], ◌∷◌, ◌++◌, Option, Some, None, length, get_or, refl, sym, ap, ◌∙◌, subst, arith, codes, ◌&&◌, if◌then◌else◌, All}
use Rattle.std.specs.Prelude.{IfSome, IsPermutation, is_none, option_map, option_and_then, nat_lt}
use Rattle.std.specs.Fmt.{decimal}
use Rattle.std.specs.Char.{is_ascii_digit}
use Rattle.std.specs.List.{slice_split, onto_first, join_with_byte, position_or_len, before_first, after_first, list_all, swap}
use Rattle.std.specs.Str.{bytes_eq}
use Rattle.std.proofs.lemmas.Bool.{and_parts, lt-ltb, ltb-true, eqb-true, eqb-false, ne_eqb, cond_both}
use Rattle.std.proofs.lemmas.List.{append-nil}
use Rattle.std.proofs.lemmas.List.Elements.{All-nil, All-cons, All-head, All-tail, All-append, All-drop, All-weaker}
use Rattle.std.proofs.lemmas.List.Edits.{length-swap}
use Rattle.std.proofs.lemmas.List.Sorted.{IsPermutation-refl, IsPermutation-sym, IsPermutation-trans, IsPermutation-append_right, IsPermutation-middle, IsPermutation-to_front, IsPermutation-keeps, All-permutation, length_permutation}
use Rattle.std.proofs.lemmas.List.Splits.{slice_split_none, slice_split_at, join_with_byte-slice_split}
use Rattle.std.proofs.lemmas.List.Sums.{split_at_first, passes_at_first}
use Rattle.std.proofs.lemmas.Slice.Eq.{bytes_eq-Decides}
use Rattle.command_line.specs.Number.{number_in}
use Rattle.command_line.specs.Icount.{Icount, RecordInto, ReplayFrom, Mode, RecordMode, ReplayMode, Settings, no_settings, name_of, mode_of, with_setting, with_part, with_parts, is_comma, is_equals, whole, whole_of, icount_of}
use Rattle.command_line.specs.Grammar.{IsIcount, setting_texts, shift_texts, shift_of, log_of, mode_text}
use Rattle.command_line.proofs.NumberLemmas.{number-range, number-sound, number-complete, digits-decimal}
use Rattle.command_line.proofs.StepLemmas.{mapped, chained}

-- Settings and their texts.

data Setting : Type 0 where
  ShiftIs : ℕ → Setting
  ModeIs : Mode → Setting
  LogIs : List ℕ → Setting

abbrev mode_word : Mode → List ℕ
mode_word RecordMode = codes "rr=record"
mode_word ReplayMode = codes "rr=replay"

abbrev text : Setting → List ℕ
text (ShiftIs n) = codes "shift=" ++ decimal n
text (ModeIs m) = mode_word m
text (LogIs l) = codes "rrfile=" ++ l

abbrev IsGood : Setting → Type 0
IsGood (ShiftIs n) = n ≤ 10
IsGood (ModeIs m) = Unit {0}
IsGood (LogIs l) = 0 < length l

abbrev is_unset : Settings → Setting → Bool
is_unset s (ShiftIs n) = is_none s.shift
is_unset s (ModeIs m) = is_none s.mode
is_unset s (LogIs l) = is_none s.log

abbrev put : Settings → Setting → Settings
put s (ShiftIs n) = record s { shift = Some n }
put s (ModeIs m) = record s { mode = Some m }
put s (LogIs l) = record s { log = Some l }

-- a good setting that isn't there yet is read from its text
shift_read : (s : Settings) (n : ℕ) (b : Bool) → b ≡ true → n ≤ 10 → is_none s.shift ≡ true
    → (if b then with_setting s (codes "shift") (decimal n) else None) ≡ Some (put s (ShiftIs n))
shift_read s n b e h u =
    ap (λ c. if c then with_setting s (codes "shift") (decimal n) else None) e
    ∙ ap (λ c. if c then option_map (λ m. record s { shift = Some m }) (number_in 0 10 (decimal n)) else with_setting (record s { shift = Some 0 }) (codes "shift") (decimal n)) u
    ∙ ap (option_map (λ m. record s { shift = Some m })) (number-complete 0 10 n (omega arith) (omega arith) h)

some_name : (l : List ℕ) → 0 < length l → name_of l ≡ Some l
some_name [] h = absurd (omega arith)
some_name (c ∷ cs) h = refl

log_read : (s : Settings) (l : List ℕ) (b : Bool) → b ≡ true → 0 < length l → is_none s.log ≡ true
    → (if b then with_setting s (codes "rrfile") l else None) ≡ Some (put s (LogIs l))
log_read s l b e h u =
    ap (λ c. if c then with_setting s (codes "rrfile") l else None) e
    ∙ ap (λ c. if c then option_map (λ name. record s { log = Some name }) (name_of l) else None) u
    ∙ ap (option_map (λ name. record s { log = Some name })) (some_name l h)

text_read : (s : Settings) (x : Setting) → IsGood x → is_unset s x ≡ true → with_part s (text x) ≡ Some (put s x)
text_read s (ShiftIs n) h u = shift_read s n _ (lt-ltb 5 (length (text (ShiftIs n))) (omega arith)) h u
text_read s (ModeIs RecordMode) h u = ap (λ c. if c then Some (record s { mode = Some RecordMode }) else None) u
text_read s (ModeIs ReplayMode) h u = ap (λ c. if c then Some (record s { mode = Some ReplayMode }) else None) u
text_read s (LogIs l) h u = log_read s l _ (lt-ltb 6 (length (text (LogIs l))) (omega arith)) h u

-- a part that is read is the text of a good setting
record Reads (s : Settings) (part : List ℕ) (t : Settings) : Type 0 where
  pub setting : Setting
  pub spelled : part ≡ text setting
  pub good : IsGood setting
  pub unset : is_unset s setting ≡ true
  pub gives : t ≡ put s setting

branch_case : {A : Type 0} (b : Bool) (x y : Option A) (t : A) (P : Type 0) → (if b then x else y) ≡ Some t → (b ≡ true → x ≡ Some t → P) → (y ≡ Some t → P) → P
branch_case true x y t P e hit miss = hit refl e
branch_case false x y t P e hit miss = miss e

never : (t : Settings) → ◌≡◌ {A = Option Settings} None (Some t) → ⊥
never t e = cc

same_text : (w x : List ℕ) → bytes_eq w x ≡ true → w ≡ x
same_text w x e = (bytes_eq-Decides w x).0 e

name_read : (l name : List ℕ) → name_of l ≡ Some name → (l ≡ name) × (0 < length name)
name_read [] name e = absurd (cc)
name_read (c ∷ cs) name e = let same : c ∷ cs ≡ name = cc in (same, subst (λ x. 0 < length x) same (omega arith))

mode_read : (word : List ℕ) (m : Mode) → mode_of word ≡ Some m → codes "rr=" ++ word ≡ mode_word m
mode_read word m e =
    branch_case (bytes_eq word (codes "record")) (Some RecordMode) _ m _ e
    (λ b q. let same : RecordMode ≡ m = cc in ap (λ w. codes "rr=" ++ w) (same_text _ _ b) ∙ ap mode_word same)
    (λ f. branch_case (bytes_eq word (codes "replay")) (Some ReplayMode) None m _ f
    (λ b q. let same : ReplayMode ≡ m = cc in ap (λ w. codes "rr=" ++ w) (same_text _ _ b) ∙ ap mode_word same)
    (λ g. absurd (cc)))

-- the three keys
shift_setting : (s t : Settings) (key value : List ℕ) → (bytes_eq key (codes "shift") && is_none s.shift) ≡ true → option_map (λ n. record s { shift = Some n }) (number_in 0 10 value) ≡ Some t
    → Reads s (key ++ 61 ∷ value) t
shift_setting s t key value b q =
    let k = and_parts (bytes_eq key (codes "shift")) (is_none s.shift) b in
    let x = mapped (λ (n : ℕ). record s { shift = Some n }) (number_in 0 10 value) t q in
    let range = number-range 0 10 value x.0 x.1 in
    let digits = number-sound 0 10 value x.0 (omega (arith, range.1)) x.1 in
    record {
      setting = ShiftIs x.0;
      spelled = ap (λ w. w ++ 61 ∷ value) (same_text key (codes "shift") k.0) ∙ ap (λ v. codes "shift=" ++ v) digits.2;
      good = range.1;
      unset = k.1;
      gives = sym x.2;
    }

mode_setting : (s t : Settings) (key value : List ℕ) → (bytes_eq key (codes "rr") && is_none s.mode) ≡ true → option_map (λ m. record s { mode = Some m }) (mode_of value) ≡ Some t
    → Reads s (key ++ 61 ∷ value) t
mode_setting s t key value b q =
    let k = and_parts (bytes_eq key (codes "rr")) (is_none s.mode) b in
    let x = mapped (λ (m : Mode). record s { mode = Some m }) (mode_of value) t q in
    record {
      setting = ModeIs x.0;
      spelled = ap (λ w. w ++ 61 ∷ value) (same_text key (codes "rr") k.0) ∙ mode_read value x.0 x.1;
      good = tt;
      unset = k.1;
      gives = sym x.2;
    }

log_setting : (s t : Settings) (key value : List ℕ) → (bytes_eq key (codes "rrfile") && is_none s.log) ≡ true → option_map (λ l. record s { log = Some l }) (name_of value) ≡ Some t
    → Reads s (key ++ 61 ∷ value) t
log_setting s t key value b q =
    let k = and_parts (bytes_eq key (codes "rrfile")) (is_none s.log) b in
    let x = mapped (λ (l : List ℕ). record s { log = Some l }) (name_of value) t q in
    let name = name_read value x.0 x.1 in
    record {
      setting = LogIs x.0;
      spelled = ap (λ w. w ++ 61 ∷ value) (same_text key (codes "rrfile") k.0) ∙ ap (λ v. codes "rrfile=" ++ v) name.0;
      good = name.1;
      unset = k.1;
      gives = sym x.2;
    }

abbrev log_or_none : Settings → List ℕ → List ℕ → Option Settings
log_or_none s key value = if bytes_eq key (codes "rrfile") && is_none s.log then option_map (λ l. record s { log = Some l }) (name_of value) else None

abbrev mode_or_more : Settings → List ℕ → List ℕ → Option Settings
mode_or_more s key value = if bytes_eq key (codes "rr") && is_none s.mode then option_map (λ m. record s { mode = Some m }) (mode_of value) else log_or_none s key value

setting_read : (s t : Settings) (key value : List ℕ) → with_setting s key value ≡ Some t → Reads s (key ++ 61 ∷ value) t
setting_read s t key value e =
    branch_case (bytes_eq key (codes "shift") && is_none s.shift) (option_map (λ n. record s { shift = Some n }) (number_in 0 10 value)) (mode_or_more s key value) t _ e
    (shift_setting s t key value)
    (λ f. branch_case (bytes_eq key (codes "rr") && is_none s.mode) (option_map (λ m. record s { mode = Some m }) (mode_of value)) (log_or_none s key value) t _ f
    (mode_setting s t key value)
    (λ g. branch_case (bytes_eq key (codes "rrfile") && is_none s.log) (option_map (λ l. record s { log = Some l }) (name_of value)) None t _ g
    (log_setting s t key value)
    (λ h. absurd (never t h))))

part_read : (s t : Settings) (part : List ℕ) → with_part s part ≡ Some t → Reads s part t
part_read s t part e =
    branch_case (nat_lt (position_or_len is_equals part) (length part)) (with_setting s (before_first is_equals part) (after_first is_equals part)) None t _ e (λ b q.
    let cut : position_or_len is_equals part < length part = ltb-true _ _ b in
    let equals : get_or part (position_or_len is_equals part) 0 ≡ 61 = eqb-true _ _ (passes_at_first is_equals part 0 cut) in
    let parts = split_at_first is_equals part 0 cut in
    let whole_part : part ≡ before_first is_equals part ++ 61 ∷ after_first is_equals part = parts ∙ ap (λ c. before_first is_equals part ++ c ∷ after_first is_equals part) equals in
    subst (λ p. Reads s p t) (sym whole_part) (setting_read s t (before_first is_equals part) (after_first is_equals part) q))
    (λ f. absurd (never t f))

-- A value that is read is the settings that ask for it.

abbrev ReadsAll : Settings → List (List ℕ) → Settings → Type 0
ReadsAll s [] t = s ≡ t
ReadsAll s (part ∷ rest) t = (m : Settings) × Reads s part m × ReadsAll m rest t

parts_read : (s t : Settings) (parts : List (List ℕ)) → with_parts s parts ≡ Some t → ReadsAll s parts t
parts_read s t [] e = cc
parts_read s t (part ∷ rest) e =
    let first = chained (λ (m : Settings). with_parts m rest) (with_part s part) t e in
    (first.0, part_read s first.0 part first.1, parts_read first.0 t rest first.2)

abbrev mode_texts : Option Mode → List (List ℕ)
mode_texts (Some m) = mode_word m ∷ []
mode_texts None = []

abbrev log_texts : Option (List ℕ) → List (List ℕ)
log_texts (Some l) = (codes "rrfile=" ++ l) ∷ []
log_texts None = []

-- the texts of the settings that were given
abbrev texts_of : Option Mode → Option (List ℕ) → Option ℕ → List (List ℕ)
texts_of m l n = mode_texts m ++ (log_texts l ++ shift_texts n)

abbrev texts : Settings → List (List ℕ)
texts s = texts_of s.mode s.log s.shift

mode_more : (x : Mode) (m : Option Mode) (l : Option (List ℕ)) (n : Option ℕ) → is_none m ≡ true → IsPermutation (texts_of (Some x) l n) (mode_word x ∷ texts_of m l n)
mode_more x None l n u = IsPermutation-refl _
mode_more x (Some y) l n u = absurd (cc)

log_more : (x : List ℕ) (m : Option Mode) (l : Option (List ℕ)) (n : Option ℕ) → is_none l ≡ true → IsPermutation (texts_of m (Some x) n) ((codes "rrfile=" ++ x) ∷ texts_of m l n)
log_more x m None n u = IsPermutation-middle (mode_texts m) (codes "rrfile=" ++ x) (shift_texts n)
log_more x m (Some y) n u = absurd (cc)

shift_more : (x : ℕ) (m : Option Mode) (l : Option (List ℕ)) (n : Option ℕ) → is_none n ≡ true → IsPermutation (texts_of m l (Some x)) ((codes "shift=" ++ decimal x) ∷ texts_of m l n)
shift_more x None None None u = IsPermutation-refl _
shift_more x None (Some l) None u = IsPermutation-to_front ((codes "rrfile=" ++ l) ∷ []) (codes "shift=" ++ decimal x)
shift_more x (Some m) None None u = IsPermutation-to_front (mode_word m ∷ []) (codes "shift=" ++ decimal x)
shift_more x (Some m) (Some l) None u = IsPermutation-to_front (mode_word m ∷ (codes "rrfile=" ++ l) ∷ []) (codes "shift=" ++ decimal x)
shift_more x m l (Some y) u = absurd (cc)

put_more : (s : Settings) (x : Setting) → is_unset s x ≡ true → IsPermutation (texts (put s x)) (text x ∷ texts s)
put_more s (ShiftIs n) u = shift_more n s.mode s.log s.shift u
put_more s (ModeIs m) u = mode_more m s.mode s.log s.shift u
put_more s (LogIs l) u = log_more l s.mode s.log s.shift u

all_permuted : (s t : Settings) (parts : List (List ℕ)) → ReadsAll s parts t → IsPermutation (texts t) (parts ++ texts s)
all_permuted s t [] e = subst (λ x. IsPermutation (texts x) (texts s)) e (IsPermutation-refl _)
all_permuted s t (part ∷ rest) r =
    let m = r.0 in
    let x = r.1.setting in
    let here : IsPermutation (texts m) (text x ∷ texts s) = subst (λ y. IsPermutation (texts y) (text x ∷ texts s)) (sym r.1.gives) (put_more s x r.1.unset) in
    let inside = IsPermutation-append_right rest (texts m) (text x ∷ texts s) here in
    let front = IsPermutation-middle rest (text x) (texts s) in
    let both = IsPermutation-trans _ _ _ (all_permuted m t rest r.2) (IsPermutation-trans _ _ _ inside front) in
    subst (λ p. IsPermutation (texts t) (p ∷ (rest ++ texts s))) (sym r.1.spelled) both

record AllGood (s : Settings) : Type 0 where
  pub shift : IfSome s.shift (λ n. n ≤ 10)
  pub log : IfSome s.log (λ l. 0 < length l)

put_good : (s : Settings) (x : Setting) → IsGood x → AllGood s → AllGood (put s x)
put_good s (ShiftIs n) h g = record { shift = h; log = g.log }
put_good s (ModeIs m) h g = record { shift = g.shift; log = g.log }
put_good s (LogIs l) h g = record { shift = g.shift; log = h }

all_good : (s t : Settings) (parts : List (List ℕ)) → ReadsAll s parts t → AllGood s → AllGood t
all_good s t [] e g = subst AllGood e g
all_good s t (part ∷ rest) r g = all_good r.0 t rest r.2 (subst AllGood (sym r.1.gives) (put_good s r.1.setting r.1.good g))

-- what is asked for has the settings
record Matches (n : Option ℕ) (m : Option Mode) (l : Option (List ℕ)) (asked : Icount) : Type 0 where
  pub texts : texts_of m l n ≡ setting_texts asked
  pub shift : n ≡ shift_of asked
  pub log : l ≡ Some (log_of asked)

whole_matches : (n : Option ℕ) (m : Option Mode) (l : Option (List ℕ)) (asked : Icount) → whole_of n m l ≡ Some asked → Matches n m l asked
whole_matches (Some n) (Some RecordMode) (Some l) asked e =
    let same : RecordInto n l ≡ asked = cc in subst (Matches (Some n) (Some RecordMode) (Some l)) same (record { texts = refl; shift = refl; log = refl })
whole_matches (Some n) (Some ReplayMode) (Some l) asked e =
    let same : ReplayFrom (Some n) l ≡ asked = cc in subst (Matches (Some n) (Some ReplayMode) (Some l)) same (record { texts = refl; shift = refl; log = refl })
whole_matches None (Some ReplayMode) (Some l) asked e =
    let same : ReplayFrom None l ≡ asked = cc in subst (Matches None (Some ReplayMode) (Some l)) same (record { texts = refl; shift = refl; log = refl })
whole_matches None (Some RecordMode) (Some l) asked e = absurd (cc)
whole_matches (Some n) None l asked e = absurd (cc)
whole_matches None None l asked e = absurd (cc)
whole_matches (Some n) (Some RecordMode) None asked e = absurd (cc)
whole_matches (Some n) (Some ReplayMode) None asked e = absurd (cc)
whole_matches None (Some RecordMode) None asked e = absurd (cc)
whole_matches None (Some ReplayMode) None asked e = absurd (cc)

abbrev NoComma : List ℕ → Type 0
NoComma bs = All (λ c. c ≢ 44) bs

onto_no_comma : (b : ℕ) (parts : List (List ℕ)) → b ≢ 44 → All NoComma parts → All NoComma (onto_first b parts)
onto_no_comma b [] n a = All-cons NoComma (b ∷ []) [] (All-cons (λ c. c ≢ 44) b [] n (All-nil _)) (All-nil _)
onto_no_comma b (part ∷ parts) n a =
    All-cons NoComma (b ∷ part) parts (All-cons (λ c. c ≢ 44) b part n (All-head NoComma part parts a)) (All-tail NoComma part parts a)

split_no_comma : (bs : List ℕ) → All NoComma (slice_split is_comma bs)
split_no_comma [] = All-cons NoComma [] [] (All-nil _) (All-nil _)
split_no_comma (b ∷ bs) =
    cond_both (is_comma b) ([] ∷ slice_split is_comma bs) (onto_first b (slice_split is_comma bs)) (All NoComma)
    (λ e. All-cons NoComma [] (slice_split is_comma bs) (All-nil _) (split_no_comma bs))
    (λ e. onto_no_comma b (slice_split is_comma bs) (eqb-false b 44 e) (split_no_comma bs))

log_no_comma : (m l : List ℕ) (rest : List (List ℕ)) → All NoComma (m ∷ (codes "rrfile=" ++ l) ∷ rest) → NoComma l
log_no_comma m l rest a =
    All-drop (λ c. c ≢ 44) 7 (codes "rrfile=" ++ l) (All-head NoComma (codes "rrfile=" ++ l) rest (All-tail NoComma m ((codes "rrfile=" ++ l) ∷ rest) a))

pub icount_sound : (value : List ℕ) (asked : Icount) → icount_of value ≡ Some asked → IsIcount value asked
icount_sound value asked e =
    let parts = slice_split is_comma value in
    let read = chained whole (with_parts no_settings parts) asked e in
    let t = read.0 in
    let all = parts_read no_settings t parts read.1 in
    let given = whole_matches t.shift t.mode t.log asked read.2 in
    let good = all_good no_settings t parts all (record { shift = tt; log = tt }) in
    let permuted : IsPermutation (setting_texts asked) parts =
    subst (λ x. IsPermutation x parts) given.texts (subst (IsPermutation (texts t)) (append-nil parts) (all_permuted no_settings t parts all)) in
    let free = All-permutation NoComma parts (setting_texts asked) (IsPermutation-sym _ _ permuted) (split_no_comma value) in
    record {
      parts = parts;
      permuted = permuted;
      joined = join_with_byte-slice_split 44 value;
      shift = subst (λ n. IfSome n (λ k. k ≤ 10)) given.shift good.shift;
      named = subst (λ l. IfSome l (λ x. 0 < length x)) given.log good.log;
      no_comma = log_no_comma (mode_text asked) (log_of asked) (shift_texts (shift_of asked)) free;
    }

-- Settings in some order are read as what they ask for.

with_next : (s : Settings) (x : Setting) (rest : List (List ℕ)) → IsGood x → is_unset s x ≡ true → with_parts s (text x ∷ rest) ≡ with_parts (put s x) rest
with_next s x rest h u = ap (option_and_then (λ t. with_parts t rest)) (text_read s x h u)

abbrev mode_asked : Icount → Mode
mode_asked (RecordInto n l) = RecordMode
mode_asked (ReplayFrom n l) = ReplayMode

abbrev settings_asked : Icount → Settings
settings_asked asked = record { shift = shift_of asked; mode = Some (mode_asked asked); log = Some (log_of asked) }

whole_asked : (asked : Icount) → whole (settings_asked asked) ≡ Some asked
whole_asked (RecordInto n l) = refl
whole_asked (ReplayFrom (Some n) l) = refl
whole_asked (ReplayFrom None l) = refl

abbrev with_mode : Mode → Settings
with_mode m = record { shift = None; mode = Some m; log = None }

abbrev with_log : Mode → List ℕ → Settings
with_log m l = record { shift = None; mode = Some m; log = Some l }

in_order : (asked : Icount) → IfSome (shift_of asked) (λ n. n ≤ 10) → 0 < length (log_of asked) → with_parts no_settings (setting_texts asked) ≡ Some (settings_asked asked)
in_order (RecordInto n l) h g =
    with_next no_settings (ModeIs RecordMode) (text (LogIs l) ∷ text (ShiftIs n) ∷ []) tt refl
    ∙ with_next (with_mode RecordMode) (LogIs l) (text (ShiftIs n) ∷ []) g refl
    ∙ with_next (with_log RecordMode l) (ShiftIs n) [] h refl
in_order (ReplayFrom (Some n) l) h g =
    with_next no_settings (ModeIs ReplayMode) (text (LogIs l) ∷ text (ShiftIs n) ∷ []) tt refl
    ∙ with_next (with_mode ReplayMode) (LogIs l) (text (ShiftIs n) ∷ []) g refl
    ∙ with_next (with_log ReplayMode l) (ShiftIs n) [] h refl
in_order (ReplayFrom None l) h g =
    with_next no_settings (ModeIs ReplayMode) (text (LogIs l) ∷ []) tt refl ∙ with_next (with_mode ReplayMode) (LogIs l) [] g refl

record Commute (s : Settings) (x y : Setting) : Type 0 where
  pub first : is_unset s y ≡ true
  pub second : is_unset (put s y) x ≡ true
  pub same : put (put s x) y ≡ put (put s y) x

commute : (s : Settings) (x y : Setting) → is_unset s x ≡ true → is_unset (put s x) y ≡ true → Commute s x y
commute s (ShiftIs n) (ShiftIs k) u v = absurd (cc)
commute s (ShiftIs n) (ModeIs k) u v = record { first = v; second = u; same = refl }
commute s (ShiftIs n) (LogIs k) u v = record { first = v; second = u; same = refl }
commute s (ModeIs n) (ShiftIs k) u v = record { first = v; second = u; same = refl }
commute s (ModeIs n) (ModeIs k) u v = absurd (cc)
commute s (ModeIs n) (LogIs k) u v = record { first = v; second = u; same = refl }
commute s (LogIs n) (ShiftIs k) u v = record { first = v; second = u; same = refl }
commute s (LogIs n) (ModeIs k) u v = record { first = v; second = u; same = refl }
commute s (LogIs n) (LogIs k) u v = absurd (cc)

-- two neighbours may be exchanged
exchange : (s t : Settings) (x y : List ℕ) (rest : List (List ℕ)) → with_parts s (x ∷ y ∷ rest) ≡ Some t → with_parts s (y ∷ x ∷ rest) ≡ Some t
exchange s t x y rest e =
    let one = chained (λ (m : Settings). with_parts m (y ∷ rest)) (with_part s x) t e in
    let two = chained (λ (m : Settings). with_parts m rest) (with_part one.0 y) t one.2 in
    let p = part_read s one.0 x one.1 in
    let q = part_read one.0 two.0 y two.1 in
    let order = commute s p.setting q.setting p.unset (subst (λ m. is_unset m q.setting ≡ true) p.gives q.unset) in
    let last : put (put s q.setting) p.setting ≡ two.0 = sym order.same ∙ ap (λ m. put m q.setting) (sym p.gives) ∙ sym q.gives in
    ap (λ w. with_parts s (w ∷ x ∷ rest)) q.spelled ∙ ap (λ w. with_parts s (text q.setting ∷ w ∷ rest)) p.spelled
    ∙ with_next s q.setting (text p.setting ∷ rest) q.good order.first
    ∙ with_next (put s q.setting) p.setting rest p.good order.second
    ∙ ap (λ m. with_parts m rest) last ∙ two.2

exchange_later : (s t : Settings) (w x y : List ℕ) (rest : List (List ℕ)) → with_parts s (w ∷ x ∷ y ∷ rest) ≡ Some t → with_parts s (w ∷ y ∷ x ∷ rest) ≡ Some t
exchange_later s t w x y rest e =
    let one = chained (λ (m : Settings). with_parts m (x ∷ y ∷ rest)) (with_part s w) t e in
    ap (option_and_then (λ m. with_parts m (y ∷ x ∷ rest))) one.1 ∙ exchange one.0 t x y rest one.2

exchange_ends : (s t : Settings) (x y z : List ℕ) → with_parts s (x ∷ y ∷ z ∷ []) ≡ Some t → with_parts s (z ∷ y ∷ x ∷ []) ≡ Some t
exchange_ends s t x y z e = exchange s t y z (x ∷ []) (exchange_later s t y x z [] (exchange s t x y (z ∷ []) e))

swap_reads : (s t : Settings) (parts : List (List ℕ)) (i j : ℕ) → i < length parts → j < length parts → length parts ≤ 3 → with_parts s parts ≡ Some t → with_parts s (swap parts i j) ≡ Some t
swap_reads s t [] i j a b c e = absurd (omega arith)
swap_reads s t (x ∷ []) zero zero a b c e = e
swap_reads s t (x ∷ []) zero (suc j) a b c e = absurd (omega arith)
swap_reads s t (x ∷ []) (suc i) j a b c e = absurd (omega arith)
swap_reads s t (x ∷ y ∷ []) zero zero a b c e = e
swap_reads s t (x ∷ y ∷ []) zero (suc zero) a b c e = exchange s t x y [] e
swap_reads s t (x ∷ y ∷ []) zero (suc (suc j)) a b c e = absurd (omega arith)
swap_reads s t (x ∷ y ∷ []) (suc zero) zero a b c e = exchange s t x y [] e
swap_reads s t (x ∷ y ∷ []) (suc zero) (suc zero) a b c e = e
swap_reads s t (x ∷ y ∷ []) (suc zero) (suc (suc j)) a b c e = absurd (omega arith)
swap_reads s t (x ∷ y ∷ []) (suc (suc i)) j a b c e = absurd (omega arith)
swap_reads s t (x ∷ y ∷ z ∷ []) zero zero a b c e = e
swap_reads s t (x ∷ y ∷ z ∷ []) zero (suc zero) a b c e = exchange s t x y (z ∷ []) e
swap_reads s t (x ∷ y ∷ z ∷ []) zero (suc (suc zero)) a b c e = exchange_ends s t x y z e
swap_reads s t (x ∷ y ∷ z ∷ []) zero (suc (suc (suc j))) a b c e = absurd (omega arith)
swap_reads s t (x ∷ y ∷ z ∷ []) (suc zero) zero a b c e = exchange s t x y (z ∷ []) e
swap_reads s t (x ∷ y ∷ z ∷ []) (suc zero) (suc zero) a b c e = e
swap_reads s t (x ∷ y ∷ z ∷ []) (suc zero) (suc (suc zero)) a b c e = exchange_later s t x y z [] e
swap_reads s t (x ∷ y ∷ z ∷ []) (suc zero) (suc (suc (suc j))) a b c e = absurd (omega arith)
swap_reads s t (x ∷ y ∷ z ∷ []) (suc (suc zero)) zero a b c e = exchange_ends s t x y z e
swap_reads s t (x ∷ y ∷ z ∷ []) (suc (suc zero)) (suc zero) a b c e = exchange_later s t x y z [] e
swap_reads s t (x ∷ y ∷ z ∷ []) (suc (suc zero)) (suc (suc zero)) a b c e = e
swap_reads s t (x ∷ y ∷ z ∷ []) (suc (suc zero)) (suc (suc (suc j))) a b c e = absurd (omega arith)
swap_reads s t (x ∷ y ∷ z ∷ []) (suc (suc (suc i))) j a b c e = absurd (omega arith)
swap_reads s t (x ∷ y ∷ z ∷ w ∷ rest) i j a b c e = absurd (omega arith)

abbrev ShortAndRead : Settings → List (List ℕ) → Type 0
ShortAndRead t parts = (length parts ≤ 3) × (with_parts no_settings parts ≡ Some t)

texts_short : (asked : Icount) → length (setting_texts asked) ≤ 3
texts_short (RecordInto n l) = omega arith
texts_short (ReplayFrom (Some n) l) = omega arith
texts_short (ReplayFrom None l) = omega arith

any_order : (asked : Icount) (parts : List (List ℕ)) → IsPermutation (setting_texts asked) parts → IfSome (shift_of asked) (λ n. n ≤ 10) → 0 < length (log_of asked)
    → with_parts no_settings parts ≡ Some (settings_asked asked)
any_order asked parts p h g =
    (IsPermutation-keeps (setting_texts asked) (ShortAndRead (settings_asked asked)) (texts_short asked, in_order asked h g)
    (λ l i j a b r. (subst (λ n. n ≤ 3) (sym (length-swap l i j)) r.0, swap_reads no_settings (settings_asked asked) l i j a b r.0 r.1)) parts p).1

-- a text of characters that pass a test has no comma, if a comma doesn't pass
passing_no_comma : (test : ℕ → Bool) → test 44 ≡ false → (bs : List ℕ) → list_all test bs ≡ true → NoComma bs
passing_no_comma test f [] e = All-nil _
passing_no_comma test f (b ∷ bs) e =
    let k = and_parts _ _ e in
    All-cons (λ c. c ≢ 44) b bs (λ p. let h : true ≡ false = sym k.0 ∙ ap test p ∙ f in cc) (passing_no_comma test f bs k.1)

mode_no_comma : (asked : Icount) → NoComma (mode_text asked)
mode_no_comma (RecordInto n l) = passing_no_comma (λ c. not (is_comma c)) refl (codes "rr=record") refl
mode_no_comma (ReplayFrom n l) = passing_no_comma (λ c. not (is_comma c)) refl (codes "rr=replay") refl

shift_no_comma : (n : Option ℕ) → IfSome n (λ k. k ≤ 10) → All NoComma (shift_texts n)
shift_no_comma None h = All-nil _
shift_no_comma (Some n) h =
    let key = passing_no_comma (λ c. not (is_comma c)) refl (codes "shift=") refl in
    let digits = passing_no_comma is_ascii_digit refl (decimal n) (digits-decimal n (omega arith)) in
    All-cons NoComma (codes "shift=" ++ decimal n) [] (All-append (λ c. c ≢ 44) (codes "shift=") (decimal n) key digits) (All-nil _)

texts_no_comma : (asked : Icount) → IfSome (shift_of asked) (λ n. n ≤ 10) → NoComma (log_of asked) → All NoComma (setting_texts asked)
texts_no_comma asked h free =
    let key = passing_no_comma (λ c. not (is_comma c)) refl (codes "rrfile=") refl in
    let log = All-append (λ c. c ≢ 44) (codes "rrfile=") (log_of asked) key free in
    All-cons NoComma (mode_text asked) ((codes "rrfile=" ++ log_of asked) ∷ shift_texts (shift_of asked)) (mode_no_comma asked)
    (All-cons NoComma (codes "rrfile=" ++ log_of asked) (shift_texts (shift_of asked)) log (shift_no_comma (shift_of asked) h))

no_cuts : (bs : List ℕ) → NoComma bs → All (λ c. is_comma c ≡ false) bs
no_cuts bs a = All-weaker (λ c. c ≢ 44) (λ c. is_comma c ≡ false) (λ c n. ne_eqb c 44 n) bs a

split_join : (part : List ℕ) (rest : List (List ℕ)) → All NoComma (part ∷ rest) → slice_split is_comma (join_with_byte 44 (part ∷ rest)) ≡ part ∷ rest
split_join part [] a = slice_split_none is_comma part (no_cuts part (All-head NoComma part [] a))
split_join part (next ∷ rest) a =
    slice_split_at is_comma part 44 (join_with_byte 44 (next ∷ rest)) (no_cuts part (All-head NoComma part (next ∷ rest) a)) refl
    ∙ ap (λ l. part ∷ l) (split_join next rest (All-tail NoComma part (next ∷ rest) a))

joined_parts : (parts : List (List ℕ)) → 0 < length parts → All NoComma parts → slice_split is_comma (join_with_byte 44 parts) ≡ parts
joined_parts [] h a = absurd (omega arith)
joined_parts (part ∷ rest) h a = split_join part rest a

pub icount_complete : (value : List ℕ) (asked : Icount) → IsIcount value asked → icount_of value ≡ Some asked
icount_complete value asked h =
    let free = All-permutation NoComma (setting_texts asked) h.parts h.permuted (texts_no_comma asked h.shift h.no_comma) in
    let some : 0 < length h.parts = omega (arith, length_permutation (setting_texts asked) h.parts h.permuted) in
    let cut : slice_split is_comma value ≡ h.parts = ap (slice_split is_comma) (sym h.joined) ∙ joined_parts h.parts some free in
    ap (λ l. option_and_then whole (with_parts no_settings l)) cut
    ∙ ap (option_and_then whole) (any_order asked h.parts h.permuted h.shift h.named)
    ∙ whole_asked asked
