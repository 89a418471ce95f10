-- Waymarks, as the accepted part grows and once it has ended.
use Rattle.std.proofs.Common.{◌≡◌, ℕ, ◌≤◌, ◌+◌, ◌-◌, refl, sym, ap, ◌∙◌, subst, inl, inr, arith, List, [], ◌∷◌, ◌++◌, length, drop, append_assoc, length-append}
use Rattle.std.specs.Prelude.{Some, Ok}
use Rattle.std.specs.List.{AllByRecursion}
use Rattle.event_log.specs.declared.event.Event.{Event}
use Rattle.event_log.specs.Spelling.{text, texts, IsEvent}
use Rattle.event_log.proofs.FrontLemmas.{texts_more}
use Rattle.board.specs.State.{State}
use Rattle.board.specs.Runs.{run, step, turns_of, state_at}
use Rattle.log_order.proofs.Following.{some_is}
use Rattle.log_order.specs.Feeding.{Progress}
use Rattle.log_order.specs.Judging.{Follows}
use Rattle.reverse_seek.specs.Script.{events_to, first_place}
use Rattle.reverse_seek.specs.Mark.{Stands, rest_of, Begun}
use Rattle.reverse_seek.specs.Waymarks.{LiesBefore, AllLie, Passes, mark_at}
use Rattle.reverse_seek.specs.declared.mark.Mark.{Mark}
use Rattle.reverse_seek.specs.declared.script.Part.{Part}
use Rattle.reverse_seek.proofs.Parting.{Parted}
use Rattle.reverse_seek.proofs.Turns.{run_first}
use Rattle.reverse_seek.proofs.Opening.{events_are, script_with}
use Rattle.reverse_seek.proofs.Standing.{state_past, step_count, rest_zero, begun_zero}

-- ---- a run over two lists of events

-- it is one over the first and then one over the second
run_both : (before behind : List Event) (g h : State) → run g before ≡ Some h → run g (before ++ behind) ≡ run h behind
unfolding run
run_both [] behind g h is = ap (λ z. run z behind) (some_is g h is)
run_both (e ∷ before) behind g h is =
    let p = run_first (step g e) (λ z. run z before) h is in
    rw p.1 (run_both before behind p.0 h p.2)

-- the count doesn't fall
run_rises : (es : List Event) (g h : State) → run g es ≡ Some h → g.devices.time.count ≤ h.devices.time.count
unfolding run
run_rises [] g h is = omega (arith, ap (λ (z : State). z.devices.time.count) (some_is g h is))
run_rises (e ∷ es) g h is =
    let p = run_first (step g e) (λ z. run z es) h is in
    omega (arith, step_count g p.0 e p.1, run_rises es p.0 h p.2)

-- the state at a count past the first list is that of the second
state_both : (before behind : List Event) (g h : State) (n : ℕ) → run g before ≡ Some h → h.devices.time.count ≤ g.devices.time.count + n
    → state_at g (before ++ behind) n ≡ state_at h behind (g.devices.time.count + n - h.devices.time.count)
unfolding run
state_both [] behind g h n is within =
    let same = some_is g h is in
    let left : n ≡ g.devices.time.count + n - h.devices.time.count =
    omega (arith, ap (λ (z : State). z.devices.time.count) same) in
    ap (λ z. state_at z behind n) same ∙ ap (state_at h behind) left
state_both (e ∷ before) behind g h n is within =
    let p = run_first (step g e) (λ z. run z before) h is in
    let count = step_count g p.0 e p.1 in
    let rises = run_rises before p.0 h p.2 in
    let le : turns_of e ≤ n = omega (arith, count, rises, within) in
    let left : p.0.devices.time.count + (n - turns_of e) - h.devices.time.count ≡ g.devices.time.count + n - h.devices.time.count =
    omega (arith, count, le) in
    state_past n g p.0 e (before ++ behind) p.1 le
    ∙ state_both before behind p.0 h (n - turns_of e) p.2 (omega (arith, count, le, within))
    ∙ ap (state_at h behind) left

texts_both : (es ds : List Event) → texts (es ++ ds) ≡ texts es ++ texts ds
texts_both [] ds = refl
texts_both (e ∷ es) ds = ap (λ z. text e ++ z) (texts_both es ds) ∙ sym (append_assoc (text e) (texts es) (texts ds))

all_both : (es ds : List Event) → AllByRecursion IsEvent es → AllByRecursion IsEvent ds → AllByRecursion IsEvent (es ++ ds)
all_both [] ds all more = more
all_both (e ∷ es) ds all more = (all.0, all_both es ds all.1 more)

-- ---- one mark

-- a mark that is kept where the run stands
lies_here : (log : List ℕ) (g : State) (end last : ℕ) (p : Progress) → Parted log g end last p
    → LiesBefore log g end (mark_at p.machine end)
lies_here log g end last p f = record {
  before = f.followed.events;
  behind = [];
  to = f.followed.accepted;
  text = refl;
  each = tt;
  place = f.followed.offset;
  ends = omega arith;
  done = refl;
}

-- one event more was accepted
lies_more : (log : List ℕ) (g : State) (end next : ℕ) (p q : Progress) → Follows log end p (Ok next) q
    → (mark : Mark) → LiesBefore log g end mark → LiesBefore log g next mark
lies_more log g end next p q (e, h, (is, split, n), stepped, new) mark l = record {
  before = l.before;
  behind = l.behind ++ e ∷ [];
  to = l.to;
  text = l.text ∙ ap (λ z. texts l.behind ++ z) split ∙ sym (append_assoc (texts l.behind) (text e) (drop next log))
      ∙ ap (λ z. z ++ drop next log) (sym (texts_more l.behind e));
  each = all_both l.behind (e ∷ []) l.each (is, tt);
  place = l.place;
  ends = omega (arith, ap length (texts_more l.behind e), length-append (texts l.behind) (text e), n, l.ends);
  done = l.done;
}

-- it stands in a script of the events before it and behind it
stands_between : (log : List ℕ) (g : State) (part : Part) (mark : Mark) (l : LiesBefore log g part.end mark) → g.devices.time.count ≡ 0
    → Stands (script_with log g part (l.before ++ l.behind)) mark
stands_between log g part mark l begins =
    let rest : rest_of mark.done l.behind ≡ l.behind =
    ap (λ z. rest_of z l.behind) l.done ∙ rest_zero l.behind in (
      l.behind,
      record {
        text = l.text;
        place = l.ends;
        each = l.each;
        begun = subst (λ z. Begun z l.behind) (sym l.done) (begun_zero l.behind l.each);
        ends = ap (run mark.machine) rest ∙ sym (run_both l.before l.behind g mark.machine l.to.runs);
        ahead = λ n within.
            let left : g.devices.time.count + n - mark.machine.devices.time.count ≡ n - mark.machine.devices.time.count =
            omega (arith, begins) in
            state_both l.before l.behind g mark.machine n l.to.runs (omega (arith, within))
            ∙ ap (state_at mark.machine l.behind) left
            ∙ ap (λ z. state_at mark.machine z (n - mark.machine.devices.time.count)) (sym rest);
      },
    )

-- it stands in the script that is read
lies_stands : (log : List ℕ) (g : State) (part : Part) → g.devices.time.count ≡ 0
    → (mark : Mark) → LiesBefore log g part.end mark → Stands (script_with log g part (events_to part.end log)) mark
lies_stands log g part begins mark l =
    let both = texts_both l.before l.behind in
    let split : drop first_place log ≡ texts (l.before ++ l.behind) ++ drop part.end log =
    l.to.parts ∙ ap (λ z. texts l.before ++ z) l.text
    ∙ sym (append_assoc (texts l.before) (texts l.behind) (drop part.end log))
    ∙ ap (λ z. z ++ drop part.end log) (sym both) in
    let size : part.end ≡ first_place + length (texts (l.before ++ l.behind)) =
    omega (arith, l.place, l.ends, ap length both, length-append (texts l.before) (texts l.behind)) in
    let same : events_to part.end log ≡ l.before ++ l.behind =
    events_are log part.end (l.before ++ l.behind) (drop part.end log) (all_both l.before l.behind l.to.are l.each) size split in
    subst (λ z. Stands (script_with log g part z) mark) (sym same) (stands_between log g part mark l begins)

-- ---- all marks

all_mapped : (P Q : Mark → Type 0) (marks : List Mark) → ((m : Mark) → P m → Q m) → AllByRecursion P marks → AllByRecursion Q marks
all_mapped P Q [] map all = tt
all_mapped P Q (m ∷ marks) map all = (map m all.0, all_mapped P Q marks map all.1)

all_one_more : (P : Mark → Type 0) (marks : List Mark) (m : Mark) → AllByRecursion P marks → P m → AllByRecursion P (marks ++ m ∷ [])
all_one_more P [] m all is = (is, tt)
all_one_more P (d ∷ marks) m all is = (all.0, all_one_more P marks m all.1 is)

-- the run came by an event
pub all-passed : (log : List ℕ) (g m : State) (end last : ℕ) (p : Progress) (old new : List Mark) → Parted log g end last p
    → m ≡ p.machine → AllLie log g end old → Passes m end old new → AllLie log g end new
all-passed log g m end last p old new f same all (inl none) = subst (λ z. AllLie log g end z) (sym none) all
all-passed log g m end last p old new f same all (inr one) =
    subst (λ z. AllLie log g end z) (sym one)
    (all_one_more (LiesBefore log g end) old (mark_at m end) all
    (subst (λ z. LiesBefore log g end (mark_at z end)) (sym same) (lies_here log g end last p f)))

pub all-more : (log : List ℕ) (g : State) (end next : ℕ) (p q : Progress) (marks : List Mark) → Follows log end p (Ok next) q
    → AllLie log g end marks → AllLie log g next marks
all-more log g end next p q marks f all =
    all_mapped (LiesBefore log g end) (LiesBefore log g next) marks (lies_more log g end next p q f) all

-- all stand in the script that is read
pub all-stand : (bytes log : List ℕ) (m start : State) (part : Part) (marks : List Mark) → bytes ≡ log → start ≡ m → m.devices.time.count ≡ 0
    → AllLie bytes m part.end marks → AllByRecursion (Stands (script_with log start part (events_to part.end log))) marks
all-stand bytes log m start part marks same shared begins all =
    subst (λ z. AllByRecursion (Stands (script_with log z part (events_to part.end log))) marks) (sym shared)
    (subst (λ z. AllByRecursion (Stands (script_with z m part (events_to part.end z))) marks) same
    (all_mapped (LiesBefore bytes m part.end) (Stands (script_with bytes m part (events_to part.end bytes))) marks
    (lies_stands bytes m part begins) all))
