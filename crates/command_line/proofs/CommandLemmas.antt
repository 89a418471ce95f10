-- What the words of a line are said to be, and the words of the quiet commands.
use Rattle.std.proofs.Common.{◌≡◌, ℕ, ◌<◌, ◌≤◌, Bool, true, false, List, [], ◌∷◌, ◌++◌, Option, Some, None, length, take, refl, sym, ap, ◌∙◌, subst, arith, codes, if◌then◌else◌}
use Rattle.std.specs.Prelude.{Ok, Err, option_map}
use Rattle.std.specs.Str.{bytes_eq}
use Rattle.std.specs.Fmt.{decimal}
use Rattle.std.proofs.lemmas.Slice.Eq.{bytes_eq-Decides}
use Rattle.command_line.specs.Number.{number_in}
use Rattle.command_line.specs.Icount.{name_of}
use Rattle.command_line.specs.Words.{Run, Reading, Debugs, Checks, Lists, Demonstrates, Bad, Early, demo_letters, demo_reading, listed_log, events_reading, run_bios, after_bios, run_log, run_words, run_reading, Command, DebugCommand, CheckCommand, EventsCommand, DemoCommand, command_of, command_reading, command_or, NamesWord}
use Rattle.command_line.specs.Grammar.{IsRunLine, IsLine, GoesOn}
use Rattle.command_line.proofs.NumberLemmas.{number-range, number-sound, number-complete}

-- What words are said to be.

-- word number k is bad behind the first word w, whatever comes after it
pub record Fails (w : List ℕ) (reads : List (List ℕ) → Reading) (ws : List (List ℕ)) (k : ℕ) : Type 0 where
  pub within : k < length (w ∷ ws)
  pub before : GoesOn (take k (w ∷ ws))
  pub stays : (rest : List (List ℕ)) → reads (take k ws ++ rest) ≡ Bad k

-- what a reading of the words behind the first word w says of them
abbrev pub Means : List ℕ → (List (List ℕ) → Reading) → List (List ℕ) → Reading → Type 0
Means w reads ws (Bad k) = Fails w reads ws k
Means w reads ws Early = GoesOn (w ∷ ws)
Means w reads ws m = IsLine (w ∷ ws) m

line_means : (w : List ℕ) (reads : List (List ℕ) → Reading) (ws : List (List ℕ)) (m : Reading) → IsLine (w ∷ ws) m → Means w reads ws m
line_means w reads ws (Bad k) h = absurd h
line_means w reads ws Early h = absurd h
line_means w reads ws m h = h

-- a word that is called bad is there
pub names_word : (w : List ℕ) (reads : List (List ℕ) → Reading) (ws : List (List ℕ)) (m : Reading) → Means w reads ws m → NamesWord m (length (w ∷ ws))
names_word w reads ws (Bad k) h = h.within
names_word w reads ws m h = tt

-- Words that are compared.

pub branch : {A : Type 0} (b : Bool) (x y : A) (P : A → Type 0) → (b ≡ true → P x) → (b ≡ false → P y) → P (if b then x else y)
branch true x y P hit miss = hit refl
branch false x y P hit miss = miss refl

pub is_word : (w x : List ℕ) → bytes_eq w x ≡ true → w ≡ x
is_word w x e = (bytes_eq-Decides w x).0 e

-- The word of a command.

abbrev pub command_word : Command → List ℕ
command_word DebugCommand = codes "debug"
command_word CheckCommand = codes "check"
command_word EventsCommand = codes "events"
command_word DemoCommand = codes "demo"

-- the command that a word names, or none
pub command_case : (w : List ℕ) (P : Option Command → Type 0) → ((c : Command) → w ≡ command_word c → P (Some c)) → P None → P (command_of w)
command_case w P named none =
    branch (bytes_eq w (codes "debug")) _ _ P (λ e. named DebugCommand (is_word w (codes "debug") e))
    (λ d. branch (bytes_eq w (codes "check")) _ _ P (λ e. named CheckCommand (is_word w (codes "check") e))
    (λ f. branch (bytes_eq w (codes "events")) _ _ P (λ e. named EventsCommand (is_word w (codes "events") e))
    (λ g. branch (bytes_eq w (codes "demo")) _ _ P (λ e. named DemoCommand (is_word w (codes "demo") e)) (λ h. none))))

-- where a word names a command, its words are read
pub reads_command : (o : Option Command) (ws : List (List ℕ)) (m other : Reading) → Some m ≡ option_map (λ c. command_reading c ws) o → command_or o ws other ≡ m
reads_command None ws m other e = absurd (cc)
reads_command (Some c) ws m other e = cc

-- where a word names none, the other reading stands
pub reads_other : (o : Option Command) (ws : List (List ℕ)) (other : Reading) → None ≡ option_map (λ c. command_reading c ws) o → command_or o ws other ≡ other
reads_other None ws other e = refl
reads_other (Some c) ws other e = absurd (cc)

-- The words of a run.

named : (name : List ℕ) → 0 < length name → name_of name ≡ Some name
named [] p = absurd (omega (arith, p))
named (c ∷ cs) p = refl

pub run_reads : (r : Run) → 0 < length r.log → 0 < length r.bios → run_words (r.log ∷ codes "-bios" ∷ r.bios ∷ []) ≡ Ok r
run_reads r p q = ap (λ o. run_log o (codes "-bios" ∷ r.bios ∷ [])) (named r.log p) ∙ ap (λ o. run_bios r.log o []) (named r.bios q)

-- what is asked of a run, with the word before it
record AsksRun (asks : Run → Reading) (word : List ℕ) : Type 0 where
  pub line : (words : List (List ℕ)) (r : Run) → IsRunLine words word r → IsLine words (asks r)

-- what the words behind the word before a run are read as
abbrev run_reads_as : (Run → Reading) → List (List ℕ) → Reading
run_reads_as asks ws = run_reading asks (run_words ws)

run_goes : (asks : Run → Reading) (word : List ℕ) → AsksRun asks word → (c d : ℕ) (cs ds : List ℕ) (words rest : List (List ℕ))
    → words ++ rest ≡ word ∷ (c ∷ cs) ∷ codes "-bios" ∷ (d ∷ ds) ∷ [] → GoesOn words
run_goes asks word a c d cs ds words rest e = record {
  rest = rest;
  meaning = asks (record { log = c ∷ cs; bios = d ∷ ds });
  line = a.line (words ++ rest) (record { log = c ∷ cs; bios = d ∷ ds }) (e, omega arith, omega arith);
}

-- the words behind a log's name and `-bios`
bios_means : (asks : Run → Reading) (word : List ℕ) → AsksRun asks word → (c : ℕ) (cs : List ℕ) (ws : List (List ℕ))
    → Means word (run_reads_as asks) ((c ∷ cs) ∷ codes "-bios" ∷ ws) (run_reading asks (after_bios (c ∷ cs) ws))
bios_means asks word a c cs [] = run_goes asks word a c 120 cs [] (word ∷ (c ∷ cs) ∷ codes "-bios" ∷ []) ((120 ∷ []) ∷ []) refl
bios_means asks word a c cs ([] ∷ ws) = record {
  within = omega arith;
  before = run_goes asks word a c 120 cs [] (word ∷ (c ∷ cs) ∷ codes "-bios" ∷ []) ((120 ∷ []) ∷ []) refl;
  stays = λ rest. refl;
}
bios_means asks word a c cs ((d ∷ ds) ∷ []) =
    line_means word (run_reads_as asks) ((c ∷ cs) ∷ codes "-bios" ∷ (d ∷ ds) ∷ []) (asks (record { log = c ∷ cs; bios = d ∷ ds }))
    (a.line _ (record { log = c ∷ cs; bios = d ∷ ds }) (refl, omega arith, omega arith))
bios_means asks word a c cs ((d ∷ ds) ∷ v ∷ ws) = record {
  within = omega arith;
  before = run_goes asks word a c d cs ds (word ∷ (c ∷ cs) ∷ codes "-bios" ∷ (d ∷ ds) ∷ []) [] refl;
  stays = λ rest. refl;
}

run_means : (asks : Run → Reading) (word : List ℕ) → AsksRun asks word → (ws : List (List ℕ)) → Means word (run_reads_as asks) ws (run_reads_as asks ws)
run_means asks word a [] = run_goes asks word a 120 120 [] [] (word ∷ []) ((120 ∷ []) ∷ codes "-bios" ∷ (120 ∷ []) ∷ []) refl
run_means asks word a ([] ∷ ws) = record {
  within = omega arith;
  before = run_goes asks word a 120 120 [] [] (word ∷ []) ((120 ∷ []) ∷ codes "-bios" ∷ (120 ∷ []) ∷ []) refl;
  stays = λ rest. refl;
}
run_means asks word a ((c ∷ cs) ∷ []) = run_goes asks word a c 120 cs [] (word ∷ (c ∷ cs) ∷ []) (codes "-bios" ∷ (120 ∷ []) ∷ []) refl
run_means asks word a ((c ∷ cs) ∷ v ∷ ws) =
    branch (bytes_eq v (codes "-bios")) (after_bios (c ∷ cs) ws) (Err (Bad 2)) (λ r. Means word (run_reads_as asks) ((c ∷ cs) ∷ v ∷ ws) (run_reading asks r))
    (λ e. subst (λ x. Means word (run_reads_as asks) ((c ∷ cs) ∷ x ∷ ws) (run_reading asks (after_bios (c ∷ cs) ws))) (sym (is_word v (codes "-bios") e)) (bios_means asks word a c cs ws))
    (λ e. record {
      within = omega arith;
      before = run_goes asks word a c 120 cs [] (word ∷ (c ∷ cs) ∷ []) (codes "-bios" ∷ (120 ∷ []) ∷ []) refl;
      stays = λ rest. ap (λ b. run_reading asks (if b then after_bios (c ∷ cs) rest else Err (Bad 2))) e;
    })

-- The words of `events`.

pub listed_reads : (log : List ℕ) → 0 < length log → events_reading (log ∷ []) ≡ Lists log
listed_reads log p = ap (λ o. listed_log o []) (named log p)

events_goes : GoesOn (codes "events" ∷ [])
events_goes = record { rest = (120 ∷ []) ∷ []; meaning = Lists (120 ∷ []); line = (refl, omega arith) }

events_means : (ws : List (List ℕ)) → Means (codes "events") events_reading ws (events_reading ws)
events_means [] = events_goes
events_means ([] ∷ ws) = record { within = omega arith; before = events_goes; stays = λ rest. refl }
events_means ((c ∷ cs) ∷ []) = (refl, omega arith)
events_means ((c ∷ cs) ∷ v ∷ ws) = record {
  within = omega arith;
  before = record { rest = []; meaning = Lists (c ∷ cs); line = (refl, omega arith) };
  stays = λ rest. refl;
}

-- The words of `demo`.

pub letters_read : (n : ℕ) → 1 ≤ n → n ≤ 2000 → demo_reading (decimal n ∷ []) ≡ Demonstrates n
letters_read n p q = ap (λ o. demo_letters o []) (number-complete 1 2000 n (omega (arith, q)) p q)

demo_goes : GoesOn (codes "demo" ∷ [])
demo_goes = record { rest = decimal 1 ∷ []; meaning = Demonstrates 1; line = (refl, omega arith, omega arith) }

demo_line : (v : List ℕ) (n : ℕ) → number_in 1 2000 v ≡ Some n → IsLine (codes "demo" ∷ v ∷ []) (Demonstrates n)
demo_line v n e =
    let s = number-sound 1 2000 v n (omega (arith, number-range 1 2000 v n e)) e in (ap (λ x. codes "demo" ∷ x ∷ []) s.2, s.0, s.1)

letters_mean : (v : List ℕ) (ws : List (List ℕ)) (o : Option ℕ) → number_in 1 2000 v ≡ o → Means (codes "demo") demo_reading (v ∷ ws) (demo_letters o ws)
letters_mean v ws None e = record { within = omega arith; before = demo_goes; stays = λ rest. ap (λ o. demo_letters o rest) e }
letters_mean v [] (Some n) e = demo_line v n e
letters_mean v (u ∷ ws) (Some n) e = record {
  within = omega arith;
  before = record { rest = []; meaning = Demonstrates n; line = demo_line v n e };
  stays = λ rest. ap (λ o. demo_letters o (u ∷ rest)) e;
}

demo_means : (ws : List (List ℕ)) → Means (codes "demo") demo_reading ws (demo_reading ws)
demo_means [] = demo_goes
demo_means (v ∷ ws) = letters_mean v ws (number_in 1 2000 v) refl

-- The words of a command.

command_means : (c : Command) (ws : List (List ℕ)) → Means (command_word c) (command_reading c) ws (command_reading c ws)
command_means DebugCommand ws = run_means Debugs (codes "debug") (record { line = λ words r h. h }) ws
command_means CheckCommand ws = run_means Checks (codes "check") (record { line = λ words r h. h }) ws
command_means EventsCommand ws = events_means ws
command_means DemoCommand ws = demo_means ws

pub command_word_means : (w : List ℕ) (c : Command) → w ≡ command_word c → (ws : List (List ℕ)) → Means w (command_reading c) ws (command_reading c ws)
command_word_means w c p ws = subst (λ x. Means x (command_reading c) ws (command_reading c ws)) (sym p) (command_means c ws)
