-- The laws on lines of words.
use Rattle.std.proofs.Common.{◌≡◌, ℕ, ◌+◌, suc, ◌<◌, Bool, true, false, List, [], ◌∷◌, ◌++◌, Option, Some, None, length, take, refl, sym, ap, ◌∙◌, subst, arith, codes, ◌⊎◌, inl, inr, ◌||◌, if◌then◌else◌}
use Rattle.command_line.specs.Icount.{Icount, RecordInto, ReplayFrom}
use Rattle.command_line.specs.Words.{Given, given_none, Key, IcountKey, BiosKey, RamKey, BudgetKey, SliceKey, with_option, key_of, Reading, Records, Replays, Debugs, Checks, Lists, Demonstrates, Help, Version, Bad, Early, reading, at_end, request, alone, run_reading, Command, command_of, command_reading, command_or, is_help, is_version, reading_of, IsBadLine}
use Rattle.command_line.specs.Grammar.{Choice, key_word, line_words, Asks, IsHelp, IsVersion, IsLine, GoesOn, IsFirstBad}
use Rattle.command_line.proofs.StepLemmas.{Together, Steps, steps_from_adds, adds_from_steps}
use Rattle.command_line.proofs.WordLemmas.{reading_value, reading_keyless}
use Rattle.command_line.proofs.GrammarLemmas.{Named, IsRequest, key_of-word, Continues, continues-nil, continues-pair, continues-key, read_cases}
use Rattle.command_line.proofs.CommandLemmas.{Fails, Means, branch, is_word, command_word, command_case, run_reads, listed_reads, letters_read, command_word_means}

-- The first word.

one_of : (a b : Bool) (A B : Type 0) → (a ≡ true → A) → (b ≡ true → B) → a || b ≡ true → A ⊎ B
one_of true b A B p q e = inl (p refl)
one_of false true A B p q e = inr (q refl)
one_of false false A B p q e = absurd cc

asks_help : (w : List ℕ) → is_help w ≡ true → IsHelp w
asks_help w e =
    one_of _ _ _ _ (is_word w (codes "--help")) (one_of _ _ _ _ (is_word w (codes "-help")) (is_word w (codes "-h"))) e

asks_version : (w : List ℕ) → is_version w ≡ true → IsVersion w
asks_version w e = one_of _ _ _ _ (is_word w (codes "--version")) (is_word w (codes "-version")) e

either : {A B : Type 0} (b : Bool) (f g : A → B) (P : (A → B) → Type 0) → (b ≡ true → P f) → (b ≡ false → P g) → P (λ x. if b then f x else g x)
either true f g P hit miss = hit refl
either false f g P hit miss = miss refl

-- what the words behind the first are read as follows from it
first_word : (w : List ℕ) (P : (List (List ℕ) → Reading) → Type 0) → (IsHelp w → P (alone Help)) → (IsVersion w → P (alone Version))
    → ((c : Command) → w ≡ command_word c → P (command_reading c)) → P (λ ws. reading given_none 0 (w ∷ ws))
    → P (λ ws. reading_of (w ∷ ws))
first_word w P help version command plain =
    either (is_help w) (alone Help) (λ ws. if is_version w then alone Version ws else command_or (command_of w) ws (reading given_none 0 (w ∷ ws))) P (λ e. help (asks_help w e))
    (λ d. either (is_version w) (alone Version) (λ ws. command_or (command_of w) ws (reading given_none 0 (w ∷ ws))) P (λ e. version (asks_version w e))
    (λ e. command_case w (λ o. P (λ ws. command_or o ws (reading given_none 0 (w ∷ ws)))) command plain))

pub no_help : (w : List ℕ) → (w ≡ codes "--help" → ⊥) → (w ≡ codes "-help" → ⊥) → (w ≡ codes "-h" → ⊥) → IsHelp w → ⊥
no_help w a b c (inl p) = a p
no_help w a b c (inr (inl p)) = b p
no_help w a b c (inr (inr p)) = c p

pub no_version : (w : List ℕ) → (w ≡ codes "--version" → ⊥) → (w ≡ codes "-version" → ⊥) → IsVersion w → ⊥
no_version w a b (inl p) = a p
no_version w a b (inr p) = b p

-- where the first word asks for neither, it is a command's or the words are options
pub other_first : (w : List ℕ) (ws : List (List ℕ)) → (IsHelp w → ⊥) → (IsVersion w → ⊥) → reading_of (w ∷ ws) ≡ command_or (command_of w) ws (reading given_none 0 (w ∷ ws))
other_first w ws b c =
    let P : Reading → Type 0 = λ r. r ≡ command_or (command_of w) ws (reading given_none 0 (w ∷ ws)) in
    branch (is_help w) (alone Help ws) (if is_version w then alone Version ws else command_or (command_of w) ws (reading given_none 0 (w ∷ ws))) P (λ e. absurd (b (asks_help w e)))
    (λ d. branch (is_version w) (alone Version ws) (command_or (command_of w) ws (reading given_none 0 (w ∷ ws))) P (λ e. absurd (c (asks_version w e))) (λ e. refl))

-- Lines of options.

-- the words are options that are read as this, from g on
record Asked (g : Given) (words : List (List ℕ)) (meaning : Reading) : Type 0 where
  pub choices : List Choice
  pub last : Given
  pub spelled : line_words choices ≡ words
  pub steps : Steps g choices last
  pub asks : at_end last ≡ meaning

asked_from_asks : (words : List (List ℕ)) (m : Reading) → Asks given_none words m → Asked given_none words m
asked_from_asks words m h = record { choices = h.choices; last = h.last; spelled = h.spelled; steps = (steps_from_adds h.choices given_none h.last h.adds h.fits).0; asks = h.asks }

asks_from_asked : (words : List (List ℕ)) (m : Reading) → Asked given_none words m → Asks given_none words m
asks_from_asked words m h =
    let adds = adds_from_steps h.choices given_none h.last h.steps refl in
    record { choices = h.choices; last = h.last; spelled = h.spelled; adds = adds.0; fits = adds.1; asks = h.asks }

-- word number n is bad, the first of these words being number k, whatever comes after it
record FailsFrom (g : Given) (k : ℕ) (words : List (List ℕ)) (n : ℕ) : Type 0 where
  pub place : ℕ
  pub number : n ≡ k + place
  pub within : place < length words
  pub before : Continues g (take place words)
  pub stays : (rest : List (List ℕ)) → reading g k (take (suc place) words ++ rest) ≡ Bad n

-- what a reading of options says of the words
abbrev ReadsAs : Given → ℕ → List (List ℕ) → Reading → Type 0
ReadsAs g k words (Records r) = Asked g words (Records r)
ReadsAs g k words (Replays r) = Asked g words (Replays r)
ReadsAs g k words (Bad n) = FailsFrom g k words n
ReadsAs g k words Early = Continues g words
ReadsAs g k words other = ⊥

ended_reads : (g : Given) (k : ℕ) (i : Option Icount) (b : Option (List ℕ)) → Together (record g { icount = i; bios = b }) → ReadsAs (record g { icount = i; bios = b }) k [] (request g i b)
ended_reads g k (Some (RecordInto n l)) (Some b) t = record { choices = []; last = _; spelled = refl; steps = refl; asks = refl }
ended_reads g k (Some (ReplayFrom n l)) (Some b) t = record { choices = []; last = _; spelled = refl; steps = refl; asks = refl }
ended_reads g k (Some (RecordInto n l)) None t = continues-nil _ t
ended_reads g k (Some (ReplayFrom n l)) None t = continues-nil _ t
ended_reads g k None (Some b) t = continues-nil _ t
ended_reads g k None None t = continues-nil _ t

keyless_reads : (g : Given) (k : ℕ) (w : List ℕ) (words : List (List ℕ)) → Together g → key_of g w ≡ None → FailsFrom g k (w ∷ words) k
keyless_reads g k w words t e = record {
  place = 0;
  number = omega arith;
  within = omega arith;
  before = continues-nil g t;
  stays = λ rest. reading_keyless g k w rest e;
}

key_reads : (g : Given) (w : List ℕ) (key : Key) → Together g → Named g w key → Continues g (w ∷ [])
key_reads g w key t n = subst (λ x. Continues g (x ∷ [])) (sym n.0) (continues-key g key n.1 t)

names_key : (g : Given) (w : List ℕ) (key : Key) → Named g w key → key_of g w ≡ Some key
names_key g w key n = ap (key_of g) n.0 ∙ key_of-word g key n.1

unfit_reads : (g : Given) (k : ℕ) (w v : List ℕ) (words : List (List ℕ)) (key : Key) → Together g → Named g w key → with_option g key v ≡ None → FailsFrom g k (w ∷ v ∷ words) (k + 1)
unfit_reads g k w v words key t n e = record {
  place = 1;
  number = refl;
  within = omega arith;
  before = key_reads g w key t n;
  stays = λ rest. reading_value g k w v rest key None (names_key g w key n) e;
}

asked-pair : (g m : Given) (w v : List ℕ) (words : List (List ℕ)) (key : Key) (r : Reading) → Named g w key → with_option g key v ≡ Some m → Asked m words r → Asked g (w ∷ v ∷ words) r
asked-pair g m w v words key r n e h = record {
  choices = record { key = key; value = v } ∷ h.choices;
  last = h.last;
  spelled = ap (λ l. key_word key ∷ v ∷ l) h.spelled ∙ ap (λ x. x ∷ v ∷ words) (sym n.0);
  steps = (m, n.1, e, h.steps);
  asks = h.asks;
}

continues_behind : (g m : Given) (w v : List ℕ) (words : List (List ℕ)) (key : Key) → Named g w key → with_option g key v ≡ Some m → Continues m words → Continues g (w ∷ v ∷ words)
continues_behind g m w v words key n e h = subst (λ x. Continues g (x ∷ v ∷ words)) (sym n.0) (continues-pair g m key v words n.1 e h)

fails_behind : (g m : Given) (k : ℕ) (w v : List ℕ) (words : List (List ℕ)) (key : Key) (j : ℕ) → Named g w key → with_option g key v ≡ Some m → FailsFrom m (k + 2) words j → FailsFrom g k (w ∷ v ∷ words) j
fails_behind g m k w v words key j n e h = record {
  place = suc (suc h.place);
  number = omega (arith, h.number);
  within = omega (arith, h.within);
  before = continues_behind g m w v (take h.place words) key n e h.before;
  stays = λ rest. reading_value g k w v (take (suc h.place) words ++ rest) key (Some m) (names_key g w key n) e ∙ h.stays rest;
}

more_reads : (g m : Given) (k : ℕ) (w v : List ℕ) (words : List (List ℕ)) (key : Key) (r : Reading) → Named g w key → with_option g key v ≡ Some m → ReadsAs m (k + 2) words r → ReadsAs g k (w ∷ v ∷ words) r
more_reads g m k w v words key (Records r) n e h = asked-pair g m w v words key (Records r) n e h
more_reads g m k w v words key (Replays r) n e h = asked-pair g m w v words key (Replays r) n e h
more_reads g m k w v words key (Bad j) n e h = fails_behind g m k w v words key j n e h
more_reads g m k w v words key Early n e h = continues_behind g m w v words key n e h
more_reads g m k w v words key other n e h = h

options_read_as : (words : List (List ℕ)) → ReadsAs given_none 0 words (reading given_none 0 words)
options_read_as words =
    read_cases ReadsAs (λ g k t. ended_reads g k g.icount g.bios t) keyless_reads (λ g k w key t n. key_reads g w key t n) unfit_reads more_reads words given_none 0 refl

request_line : (words : List (List ℕ)) (m : Reading) → IsRequest m → Asked given_none words m → IsLine words m
request_line words (Records r) q h = asks_from_asked words (Records r) h
request_line words (Replays r) q h = asks_from_asked words (Replays r) h
request_line words other q h = absurd q

goes_on : (words : List (List ℕ)) → Continues given_none words → GoesOn words
goes_on words h = record {
  rest = h.rest;
  meaning = h.meaning;
  line = request_line (words ++ h.rest) h.meaning h.request (record { choices = h.choices; last = h.last; spelled = h.spelled; steps = h.steps; asks = h.asks });
}

-- What words are said to be.

help_means : (w : List ℕ) → IsHelp w → (ws : List (List ℕ)) → Means w (alone Help) ws (alone Help ws)
help_means w p [] = (w, refl, p)
help_means w p (v ∷ ws) = record { within = omega arith; before = record { rest = []; meaning = Help; line = (w, refl, p) }; stays = λ rest. refl }

version_means : (w : List ℕ) → IsVersion w → (ws : List (List ℕ)) → Means w (alone Version) ws (alone Version ws)
version_means w p [] = (w, refl, p)
version_means w p (v ∷ ws) = record { within = omega arith; before = record { rest = []; meaning = Version; line = (w, refl, p) }; stays = λ rest. refl }

fails_plain : (w : List ℕ) (ws : List (List ℕ)) (n : ℕ) → FailsFrom given_none 0 (w ∷ ws) n → Fails w (λ vs. reading given_none 0 (w ∷ vs)) ws n
fails_plain w ws n h =
    let same : h.place ≡ n = omega (arith, h.number) in
    subst (Fails w (λ vs. reading given_none 0 (w ∷ vs)) ws) same (record {
      within = h.within;
      before = goes_on (take h.place (w ∷ ws)) h.before;
      stays = λ rest. h.stays rest ∙ ap Bad (sym same);
    })

plain_means : (w : List ℕ) (ws : List (List ℕ)) (m : Reading) → ReadsAs given_none 0 (w ∷ ws) m → Means w (λ vs. reading given_none 0 (w ∷ vs)) ws m
plain_means w ws (Records r) h = asks_from_asked (w ∷ ws) (Records r) h
plain_means w ws (Replays r) h = asks_from_asked (w ∷ ws) (Replays r) h
plain_means w ws (Bad n) h = fails_plain w ws n h
plain_means w ws Early h = goes_on (w ∷ ws) h
plain_means w ws other h = absurd h

pub line_means_so : (w : List ℕ) (ws : List (List ℕ)) → Means w (λ vs. reading_of (w ∷ vs)) ws (reading_of (w ∷ ws))
line_means_so w ws =
    first_word w (λ reads. Means w reads ws (reads ws)) (λ p. help_means w p ws) (λ p. version_means w p ws) (λ c p. command_word_means w c p ws)
    (plain_means w ws (reading given_none 0 (w ∷ ws)) (options_read_as (w ∷ ws)))

-- The laws.

pub good_line : (w : List ℕ) (reads : List (List ℕ) → Reading) (ws : List (List ℕ)) (m : Reading) → Means w reads ws m → IsBadLine m ⊎ IsLine (w ∷ ws) m
good_line w reads ws (Bad k) h = inl tt
good_line w reads ws Early h = inl tt
good_line w reads ws m h = inr h

pub line_sound : (words : List (List ℕ)) → IsBadLine (reading_of words) ⊎ IsLine words (reading_of words)
line_sound [] = inl tt
line_sound (w ∷ ws) = good_line w (λ vs. reading_of (w ∷ vs)) ws (reading_of (w ∷ ws)) (line_means_so w ws)

-- the words of good options are read as what they ask for
line_reads : (os : List Choice) (g h : Given) (k : ℕ) → Steps g os h → reading g k (line_words os) ≡ at_end h
line_reads [] g h k a = ap at_end a
line_reads (o ∷ os) g h k a = reading_value g k (key_word o.key) o.value (line_words os) o.key (Some a.0) (key_of-word g o.key a.1) a.2 ∙ line_reads os a.0 h (k + 2) a.3

key_first : (key : Key) (ws : List (List ℕ)) → reading_of (key_word key ∷ ws) ≡ reading given_none 0 (key_word key ∷ ws)
key_first IcountKey ws = refl
key_first BiosKey ws = refl
key_first RamKey ws = refl
key_first BudgetKey ws = refl
key_first SliceKey ws = refl

options_read : (os : List Choice) (h : Given) (m : Reading) → Steps given_none os h → at_end h ≡ m → IsRequest m → reading_of (line_words os) ≡ m
options_read [] h m a e r = absurd (subst IsRequest (sym (ap at_end a ∙ e)) r)
options_read (o ∷ os) h m a e r = key_first o.key (o.value ∷ line_words os) ∙ line_reads (o ∷ os) given_none h 0 a ∙ e

asked_reads : (words : List (List ℕ)) (m : Reading) → IsRequest m → Asked given_none words m → reading_of words ≡ m
asked_reads words m r h = ap reading_of (sym h.spelled) ∙ options_read h.choices h.last m h.steps h.asks r

help_reads : (w : List ℕ) → IsHelp w → reading_of (w ∷ []) ≡ Help
help_reads w (inl p) = ap (λ x. reading_of (x ∷ [])) p
help_reads w (inr (inl p)) = ap (λ x. reading_of (x ∷ [])) p
help_reads w (inr (inr p)) = ap (λ x. reading_of (x ∷ [])) p

version_reads : (w : List ℕ) → IsVersion w → reading_of (w ∷ []) ≡ Version
version_reads w (inl p) = ap (λ x. reading_of (x ∷ [])) p
version_reads w (inr p) = ap (λ x. reading_of (x ∷ [])) p

pub line_complete : (words : List (List ℕ)) (m : Reading) → IsLine words m → reading_of words ≡ m
line_complete words (Records r) h = asked_reads words (Records r) tt (asked_from_asks words (Records r) h)
line_complete words (Replays r) h = asked_reads words (Replays r) tt (asked_from_asks words (Replays r) h)
line_complete words (Debugs r) h = ap reading_of h.0 ∙ ap (run_reading Debugs) (run_reads r h.1 h.2)
line_complete words (Checks r) h = ap reading_of h.0 ∙ ap (run_reading Checks) (run_reads r h.1 h.2)
line_complete words (Lists log) h = ap reading_of h.0 ∙ listed_reads log h.1
line_complete words (Demonstrates n) h = ap reading_of h.0 ∙ letters_read n h.1 h.2
line_complete words Help h = ap reading_of h.1 ∙ help_reads h.0 h.2
line_complete words Version h = ap reading_of h.1 ∙ version_reads h.0 h.2
line_complete words (Bad k) h = absurd h
line_complete words Early h = absurd h

-- no line goes on with words that stay bad
pub first_bad : (words : List (List ℕ)) (k : ℕ) → reading_of words ≡ Bad k → IsFirstBad words k
first_bad [] k e = absurd (cc)
first_bad (w ∷ ws) k e =
    let fails : Fails w (λ vs. reading_of (w ∷ vs)) ws k = subst (Means w (λ vs. reading_of (w ∷ vs)) ws) e (line_means_so w ws) in record {
      within = fails.within;
      before = fails.before;
      bad = λ q. subst (IsLine (w ∷ take k ws ++ q.rest)) (sym (line_complete (w ∷ take k ws ++ q.rest) q.meaning q.line) ∙ fails.stays q.rest) q.line;
    }

pub missing : (words : List (List ℕ)) → reading_of words ≡ Early → GoesOn words
missing [] e = record { rest = codes "--help" ∷ []; meaning = Help; line = (codes "--help", refl, inl refl) }
missing (w ∷ ws) e = subst (Means w (λ vs. reading_of (w ∷ vs)) ws) e (line_means_so w ws)
