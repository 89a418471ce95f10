-- Turns that are counted together.
use Rattle.std.proofs.Common.{◌≡◌, ◌<◌, ◌≤◌, ◌+◌, ℕ, zero, suc, true, false, List, refl, sym, ap, subst, ◌∙◌, arith}
use Rattle.std.proofs.lemmas.Bool.{ne_eqb}
use Rattle.std.specs.Prelude.{◌==◌, is_some, Option, None}
use Rattle.rv_csr.specs.declared.mode.Mode.{Mode}
use Rattle.rv_csr.specs.declared.mode.Mode.TheVariants.{U, M}
use Rattle.rv_csr.specs.Control.{Control as Csrs}
use Rattle.rv_csr.specs.Table.{ticked, ticked_times}
use Rattle.rv_csr.specs.declared.inputs.Inputs.{Inputs}
use Rattle.rv_csr.specs.Traps as interrupts
use Rattle.rv_exec.specs.declared.done.Done.TheVariants.{Retired}
use Rattle.rv_exec.specs.declared.hart.Hart.{Hart}
use Rattle.rv_exec.specs.Rows.{Outcome, Reaches}
use Rattle.board.specs.declared.control.Control.{Control}
use Rattle.board.specs.declared.control.Window.TheVariants.{Shut}
use Rattle.system_bus.specs.declared.devices.Devices.{Devices}
use Rattle.board.specs.declared.due.Due.TheVariants as due_is
use Rattle.system_bus.specs.Access.{inputs}
use Rattle.system_bus.specs.Lines.{levels, uart_source}
use Rattle.uart16550.specs.Line.{level}
use Rattle.system_bus.specs.Time.{Time, later}
use Rattle.board.specs.State.{State}
use Rattle.board.specs.Close.{close, close_window}
use Rattle.board.specs.Turn.{attempt, more, turned, turn, turn_closed}
use Rattle.board.specs.Due.{due, due_by, due_closed, interrupt_of, needs_clock}
use Rattle.board.specs.Runs.{after, ran}
use Rattle.plain_turns.specs.Turns.{plain_attempt, PlainTurns}
use Rattle.board.specs.Sprint.{HasRoom, IsFree, levels_after, counted_up, uncounted, MakesUncounted}
use Rattle.board.proofs.DueFacts.{run_is_run}
use Rattle.system_bus.specs.Time.{later_by}
use Rattle.system_bus.proofs.Levels.{level_twice}
use Rattle.board.proofs.Plain.{inside, within, attempt-within}
use Rattle.board.proofs.RunFacts.{made_more, after-zero, ran-zero}

-- ---- one turn of a plain row

-- no mark is set, no count is reached, and no interrupt is heard
pub record IsUnmarked (g : State) : Type 0 where
  pub ended : g.control.ended ≡ None
  pub trapped : g.control.trapped ≡ false
  pub idle : g.control.idle ≡ false
  pub window : g.control.window ≡ Shut
  pub code : g.devices.finisher ≡ None
  pub quiet : interrupt_of g ≡ None
  pub count : (g.devices.time.count == g.control.budget) ≡ false
  pub since : (g.control.since == g.control.slice) ≡ false

shut : (g : State) → g.control.window ≡ Shut → close g ≡ g
unfolding close
shut g e = ap (λ z. close_window z g) e

free-by : (c : Control) (n : ℕ) (code i : Option ℕ) → c.ended ≡ None → c.trapped ≡ false → c.idle ≡ false → c.window ≡ Shut → code ≡ None → i ≡ None
    → (n == c.budget) ≡ false → (c.since == c.slice) ≡ false → due_by c n code false (is_some i) false ≡ due_is.Run
free-by c n code i a b d w e k count since = rw (a, b, e, count, w, d, since, k) refl

plain-due : (g : State) → IsUnmarked g → (attempt g.hart g.devices).done ≡ Retired false → due g ≡ due_is.Run
unfolding due due_closed needs_clock
plain-due g f e =
    rw (shut g f.window) (rw e
    (free-by g.control g.devices.time.count g.devices.finisher (interrupt_of g) f.ended f.trapped f.idle f.window f.code
    f.quiet f.count f.since))

-- what a turn that retires leaves
abbrev retired : State → Hart → Devices → State
retired g h d = record { hart = record h { csrs = ticked h.csrs true }; devices = more d; control = turned g.control }

plain-turn : (g : State) (o : Outcome Devices) → g.control.window ≡ Shut → attempt g.hart g.devices ≡ o → o.done ≡ Retired false → turn g ≡ retired g o.hart o.bus
unfolding turn turn_closed
plain-turn g o w a e = rw (shut g w) (rw a (rw e refl))

-- ---- what many turns leave of what a turn asks

due-ticked : (c : Csrs) (m : Mode) (i : Inputs) → interrupts.due (ticked c true) m i ≡ interrupts.due c m i
due-ticked c U i = refl
due-ticked c M i = refl

due-times : (n : ℕ) (c : Csrs) (m : Mode) (i : Inputs) → interrupts.due (ticked_times n c) m i ≡ interrupts.due c m i
unfolding ticked_times
due-times zero c m i = refl
due-times (suc n) c m i = due-ticked (ticked_times n c) m i ∙ due-times n c m i

ram-after : (n : ℕ) (d : Devices) → (levels_after n d).ram ≡ d.ram
unfolding levels
ram-after zero d = refl
ram-after (suc n) d = refl

finisher-after : (n : ℕ) (d : Devices) → (levels_after n d).finisher ≡ d.finisher
unfolding levels
finisher-after zero d = refl
finisher-after (suc n) d = refl

time-after : (n : ℕ) (d : Devices) → (levels_after n d).time ≡ d.time
unfolding levels
time-after zero d = refl
time-after (suc n) d = refl

-- setting the levels once more, a turn later and with another RAM
once-more : (n : ℕ) (d : Devices) (ram : List ℕ) → more (record (levels_after n d) { ram = ram }) ≡ levels (record d { ram = ram; time = later d.time })
unfolding levels
once-more zero d ram = refl
once-more (suc n) d ram = ap (λ z. record d { ram = ram; time = later d.time; plic = z }) (level_twice d.plic uart_source (level d.uart))

later-more : (n : ℕ) (t : Time) → later (later_by n t) ≡ later_by (suc n) t
later-more n t = ap (λ z. record t { count = z }) (omega arith)

since-more : (n : ℕ) (c : Control) → turned (record c { since = c.since + n }) ≡ record c { since = c.since + suc n }
since-more n c = ap (λ z. record c { since = z }) (omega arith)

-- ---- a plain turn more

module _ (g : State) (room : ℕ) (f : HasRoom g room) where
  free-times : (n : ℕ) (h : Hart) (ram : List ℕ) → n < room → h.mode ≡ g.hart.mode → IsUnmarked (counted_up n g h ram)
  free-times n h ram w m = record {
    ended = f.ended;
    trapped = f.trapped;
    idle = f.idle;
    window = f.window;
    code = finisher-after n (record g.devices { ram = ram; time = later_by n g.devices.time }) ∙ f.code;
    quiet =
        due-times n g.hart.csrs h.mode (inputs (levels_after n (record g.devices { ram = ram; time = later_by n g.devices.time })))
        ∙ ap (λ z. interrupts.due g.hart.csrs z (inputs (levels_after n (record g.devices { ram = ram; time = later_by n g.devices.time })))) m ∙ f.quiet n w ram;
    count = ap (λ z. z.count == g.control.budget) (time-after n (record g.devices { ram = ram; time = later_by n g.devices.time })) ∙ ne_eqb (g.devices.time.count + n) g.control.budget (let k = f.count in omega arith);
    since = ne_eqb (g.control.since + n) g.control.slice (let k = f.since in omega arith);
  }

  pub plain-more : (n : ℕ) (h h' : Hart) (ram ram' : List ℕ) → n < room → h.mode ≡ g.hart.mode → counted_up n g h ram ≡ after n g → ran n g ≡ n
      → Reaches (plain_attempt h ram) (Retired false) h' ram' → (counted_up (n + 1) g h' ram' ≡ after (n + 1) g) × (ran (n + 1) g ≡ n + 1)
  unfolding ticked_times
  plain-more n h h' ram ram' w m state count r =
      let s : suc n ≡ n + 1 = omega arith in
      let cs : Csrs = ticked_times n g.hart.csrs in
      let e : Devices = record g.devices { ram = ram; time = later_by n g.devices.time } in
      let o : Outcome (List ℕ) = plain_attempt h ram in
      let same : (levels_after n e).ram ≡ ram = ram-after n e in
      let a : attempt (inside cs (levels_after n e) h) (levels_after n e) ≡ within cs (levels_after n e) o =
      attempt-within cs (levels_after n e) h (ap (λ z. (plain_attempt h z).done) same ∙ r.0) ∙ ap (λ z. within cs (levels_after n e) (plain_attempt h z)) same in
      let is_due : due (counted_up n g h ram) ≡ due_is.Run = plain-due (counted_up n g h ram) (free-times n h ram w m) (ap (λ z. z.done) a ∙ r.0) in
      let made = made_more n g count (ap due (sym state) ∙ is_due) in
      let t : turn (counted_up n g h ram) ≡ counted_up (suc n) g h' ram' =
      plain-turn (counted_up n g h ram) (within cs (levels_after n e) o) f.window a r.0
      ∙ ap (λ z. record { hart = record o.hart { csrs = ticked cs true }; devices = z; control = turned (record g.control { since = g.control.since + n }) })
      (once-more n e o.bus ∙ ap (λ z. levels (record g.devices { ram = o.bus; time = z })) (later-more n g.devices.time))
      ∙ ap (λ z. record { hart = record o.hart { csrs = ticked cs true }; devices = levels (record g.devices { ram = o.bus; time = later_by (suc n) g.devices.time }); control = z }) (since-more n g.control)
      ∙ ap (λ z. counted_up (suc n) g z o.bus) r.1 ∙ ap (λ z. counted_up (suc n) g h' z) r.2 in
      (sym (made.0 ∙ ap turn (sym state) ∙ t ∙ ap (λ z. counted_up z g h' ram') s), made.1)

-- ---- plain turns in a row

none-later : (t : Time) → later_by 0 t ≡ t
none-later t = ap (λ z. record t { count = z }) (omega arith)

none-since : (c : Control) → record c { since = c.since + 0 } ≡ c
none-since c = ap (λ z. record c { since = z }) (omega arith)

none-counted : (g : State) (h : Hart) (ram : List ℕ) → counted_up 0 g h ram ≡ uncounted g h ram
unfolding ticked_times
none-counted g h ram =
    ap (λ z. record { hart = record h { csrs = g.hart.csrs }; devices = record g.devices { ram = ram; time = z }; control = record g.control { since = g.control.since + 0 } }) (none-later g.devices.time)
    ∙ ap (λ z. record { hart = record h { csrs = g.hart.csrs }; devices = record g.devices { ram = ram }; control = z }) (none-since g.control)

-- the counted state, how many turns were made, and the mode
abbrev pub Comes : State → ℕ → Hart → List ℕ → Type 0
Comes g n h ram = (counted_up n g h ram ≡ after n g) × (ran n g ≡ n) × (h.mode ≡ g.hart.mode)

none-come : (g : State) (h : Hart) (ram : List ℕ) → h ≡ g.hart → ram ≡ g.devices.ram → Comes g 0 h ram
none-come g h ram e e' = (none-counted g h ram ∙ ap (λ z. uncounted g z ram) e ∙ ap (λ z. uncounted g g.hart z) e' ∙ sym (after-zero g), ran-zero g, ap (λ z. z.mode) e)

-- where there is room for them, plain turns are turns of the machine
pub plain-turns : (g : State) (room : ℕ) → HasRoom g room → (n : ℕ) (h : Hart) (ram : List ℕ) → n ≤ room → PlainTurns g.hart g.devices.ram n h ram → Comes g n h ram
unfolding PlainTurns
plain-turns g room f zero h ram w t = none-come g h ram t.0 t.1
plain-turns g room f (suc n) h ram w t =
    let last = t.3 in
    let before : Comes g n t.0 t.1 = plain-turns g room f n t.0 t.1 (omega arith) t.2 in
    let more = plain-more g room f n t.0 h t.1 ram (omega arith) before.2 before.0 before.1 last.reached in
    let s : n + 1 ≡ suc n = omega arith in
    (subst (λ k. counted_up k g h ram ≡ after k g) s more.0, subst (λ k. ran k g ≡ k) s more.1, last.mode ∙ before.2)

-- turns that were made uncounted and then counted are turns of the machine
pub counted_turns : (g g' : State) (room made : ℕ) → (0 < room → HasRoom g room) → MakesUncounted g room made g' → Comes g made g'.hart g'.devices.ram
unfolding PlainTurns
counted_turns g g' room zero f m = let t = m.turns in none-come g g'.hart g'.devices.ram t.0 t.1
counted_turns g g' room (suc n) f m = plain-turns g room (f (let w = m.within in omega arith)) (suc n) g'.hart g'.devices.ram m.within m.turns

-- counting goes by what the uncounted turns left as it was
pub counted_later : (g g' : State) (room made : ℕ) → MakesUncounted g room made g' → counted_up made g' g'.hart g'.devices.ram ≡ counted_up made g g'.hart g'.devices.ram
counted_later g g' room made m = ap (λ z. counted_up made z g'.hart g'.devices.ram) m.rest

-- where none was made there is nothing to count
pub none_made : (g g' : State) (room made : ℕ) → made ≡ 0 → MakesUncounted g room made g' → g' ≡ counted_up made g g'.hart g'.devices.ram
none_made g g' room made e m =
    m.rest ∙ sym (none-counted g g'.hart g'.devices.ram) ∙ ap (λ z. counted_up z g g'.hart g'.devices.ram) (sym e)

-- ---- what comes after them

-- levels that are the devices' lines stay, where RAM and the clock alone change
pub levels_kept : (n : ℕ) (d : Devices) (ram : List ℕ) (t : Time) → levels d ≡ d
    → levels_after n (record d { ram = ram; time = t }) ≡ record d { ram = ram; time = t }
unfolding levels
levels_kept zero d ram t e = refl
levels_kept (suc n) d ram t e = ap (λ z. record d { ram = ram; time = t; plic = z.plic }) e

pub levels_uncounted : (g g' : State) (room made : ℕ) → levels g.devices ≡ g.devices → MakesUncounted g room made g' → levels g'.devices ≡ g'.devices
levels_uncounted g g' room made e m =
    ap (λ z. levels z.devices) m.rest ∙ levels_kept 1 g.devices g'.devices.ram g.devices.time e ∙ ap (λ z. z.devices) (sym m.rest)

-- where fewer were made than there is room for, another is due, unless it needs the clock
pub free_then : (g g' : State) (room made : ℕ) → HasRoom g room → made < room → (h : Hart) (ram : List ℕ) → h.mode ≡ g.hart.mode → g' ≡ counted_up made g h ram → IsFree g'
free_then g g' room made f w h ram m e =
    let u : IsUnmarked (counted_up made g h ram) = free-times g room f made h ram w m in
    let s : State = counted_up made g h ram in
    subst IsFree (sym e)
    (record {
      window = f.window;
      clear = run_is_run _ (free-by s.control s.devices.time.count s.devices.finisher (interrupt_of s) u.ended u.trapped u.idle u.window u.code u.quiet u.count u.since);
    })

pub ruleset counts_up = (levels_kept)
