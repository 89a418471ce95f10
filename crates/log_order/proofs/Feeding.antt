-- What feeding an event comes to.
use Rattle.std.proofs.Common.{◌≡◌, ◌≢◌, ℕ, ◌+◌, Bool, true, false, cond, ◌++◌, append-nil, refl, sym, ap, ◌∙◌, arith}
use Rattle.std.specs.Prelude.{◌==◌, ◌&&◌, Some, None, Result, Ok, Err, IsSome, length, take}
use Rattle.std.specs.declared.alloc.AllocError.{AllocError}
use Rattle.std.proofs.Math.Seq.{take-length}
use Rattle.std.proofs.lemmas.List.{take_at}
use Rattle.std.proofs.lemmas.Bool.{ne_eqb, eq-eqb}
use Rattle.event_log.specs.declared.event.Event.{Event}
use Rattle.event_log.specs.declared.event.Event.TheVariants as event
use Rattle.board.specs.State.{State}
use Rattle.board.specs.Accept.{accept, takes_memory, Answers}
use Rattle.board.specs.Answers.{RunsTo}
use Rattle.board.specs.Due.{due}
use Rattle.board.specs.Laws.{IsLaterBy}
use Rattle.board.specs.Runs.{is_run, after, ran, step, turns_of, due_at}
use Rattle.board.specs.Taken.{out_alone, with_taken, without_out}
use Rattle.board.specs.declared.accepting.AcceptError.TheVariants as refusal
use Rattle.board.specs.declared.due.Due.{Due}
use Rattle.board.proofs.ClockLaws.{step-counts}
use Rattle.board.proofs.Counting.{after-counts}
use Rattle.board.proofs.TakenLaws.{after-with}
use Rattle.log_order.specs.Order.{stands}
use Rattle.board.specs.Effect.{IsNoTurn}
use Rattle.log_order.specs.Feeding.{Progress, accepted, refused, found_as, Halts, CountsTurns, Feeds}
use Rattle.log_order.specs.declared.refusal.Found.{Found}
use Rattle.log_order.specs.declared.runner.FeedError.TheVariants as error

-- ---- events without turns

-- what an event without turns comes to
record Without (g : State) (e : Event) : Type 0 where
  steps : step g e ≡ accept g e
  due_is : due_at g e ≡ due g
  state : stands g e ≡ g
  turns : turns_of e ≡ 0
  halts : (h : State) → takes_memory e ≡ true → IsSome (step g e) → h ≡ g → Halts g e h

without : (g : State) (e : Event) → IsNoTurn e → Without g e
unfolding step due_at
without g (event.Instruction n) free = absurd free
without g e free =
    record { steps = refl; due_is = refl; state = refl; turns = refl; halts = λ h m s q. (m, s, q) }

-- an event counts its turns
counts : (g h : State) (e : Event) → step g e ≡ Some h → IsLaterBy (turns_of e) g h
counts g h e s = rw s at (step-counts e g)

counts-none : (g h : State) (e : Event) → IsNoTurn e → step g e ≡ Some h
    → h.devices.time.count ≡ g.devices.time.count
counts-none g h e free s = omega (arith, counts g h e s, (without g e free).turns)

-- ---- turns

-- so many turns count as many
ran-counts : (limit made : ℕ) (g h : State) (steps steps' : ℕ)
    → h ≡ after limit g → made ≡ ran limit g → steps' ≡ steps + made
    → steps' + g.devices.time.count ≡ steps + h.devices.time.count
ran-counts limit made g h steps steps' state made_is steps_is =
    let count : h.devices.time.count ≡ g.devices.time.count + ran limit g =
    ap (λ (z : State). z.devices.time.count) state ∙ (after-counts limit g).count in
    omega (arith, count)

-- an INSTRUCTION is accepted where all of its turns run, and another thing is due then
pub all-ran : (n made : ℕ) (g h : State) → h ≡ after n g → made ≡ ran n g → made ≡ n
    → is_run (due h) ≡ false → step g (event.Instruction n) ≡ Some h
unfolding step
all-ran n made g h state made_is all other =
    let first : ran n g ≡ n = sym made_is ∙ all in
    let then : is_run (due (after n g)) ≡ false = ap (λ z. is_run (due z)) (sym state) ∙ other in
    rw (eq-eqb (ran n g) n first) (rw then (ap Some (sym state)))

-- it is refused where fewer run
pub fewer-ran : (n made : ℕ) (g : State) → made ≡ ran n g → made ≢ n
    → step g (event.Instruction n) ≡ None
unfolding step
fewer-ran n made g made_is fewer =
    rw (ne_eqb (ran n g) n (λ e. fewer (made_is ∙ e))) refl

-- and where a turn is still due
pub more-due : (n : ℕ) (g h : State) → h ≡ after n g → is_run (due h) ≡ true
    → step g (event.Instruction n) ≡ None
unfolding step
more-due n g h state more =
    let then : is_run (due (after n g)) ≡ true = ap (λ z. is_run (due z)) (sym state) ∙ more in
    rw then (none-both (ran n g == n))
  where
    none-both : (b : Bool) → cond (b && false) (Some (after n g)) None ≡ None
    none-both true = refl
    none-both false = refl

-- what is due after as many of its turns as run
due-after : (n : ℕ) (g h : State) → h ≡ after n g → due h ≡ due_at g (event.Instruction n)
unfolding due_at
due-after n g h state = ap due state

-- ---- what a feed without turns answers

-- a runner that refused nothing, by its parts
abbrev pub going : State → ℕ → Progress
going g index = record { machine = g; index = index; out = g.devices.uart.out; refusal = None }

pub fed-ok : (p q : Progress) (e : Event) (offset index : ℕ) (g h : State)
    → IsNoTurn e → p ≡ going g index → accept g e ≡ Some h → q ≡ accepted (going g index) h
    → Feeds p e offset (Ok tt) q
fed-ok p q e offset index g h free old taken new =
    rw old (rw new (h, (without g e free).steps ∙ taken, refl))

pub fed-wrong : (p q : Progress) (e : Event) (offset index shown : ℕ) (g h : State) (d : Due)
    (f : Found)
    → IsNoTurn e → p ≡ going g index → Answers (accept g e) g e (Err (refusal.Wrong d)) h
    → f ≡ found_as h e → shown ≡ length h.devices.uart.out
    → q ≡ record (refused (going h index) h offset d f) { out = take shown h.devices.uart.out }
    → Feeds p e offset (Err error.Refused) q
fed-wrong p q e offset index shown g h d f free old (taken, due_is, same) found_is shown_is new =
    let out : take shown h.devices.uart.out ≡ g.devices.uart.out =
    ap (λ z. take z h.devices.uart.out) shown_is ∙ take-length h.devices.uart.out
    ∙ ap (λ (z : State). z.devices.uart.out) same in
    let here = without g e free in
    rw old (
      here.steps ∙ taken,
      rw (here.state, here.due_is, new, out, due_is, found_is, same) refl,
    )

pub fed-halts : (p q : Progress) (e : Event) (offset index : ℕ) (g h : State)
    → IsNoTurn e → p ≡ going g index → Answers (accept g e) g e (Err refusal.NoMemory) h
    → q ≡ going h index → Feeds p e offset (Err error.NoMemory) q
fed-halts p q e offset index g h free old (some, memory, same) new =
    let stepped : IsSome (step g e) = rw (without g e free).steps some in
    rw old (rw new ((without g e free).halts h memory stepped same, refl, refl))

pub fed-counts : (p q : Progress) (e : Event) (index : ℕ) (g h : State)
    → IsNoTurn e → p ≡ going g index → accept g e ≡ Some h → q ≡ accepted (going g index) h
    → CountsTurns p q 0 0
fed-counts p q e index g h free old taken new =
    let counted = counts-none g h e free ((without g e free).steps ∙ taken) in
    rw old (rw new (ap (λ z. 0 + z) (sym counted)))

-- ---- what the feed of an INSTRUCTION answers

-- a turn writes behind the bytes that were there
out-behind : (n : ℕ) (g : State)
    → take (length g.devices.uart.out) (after n g).devices.uart.out ≡ g.devices.uart.out
out-behind n g =
    let front = g.devices.uart.out in
    let split : with_taken (out_alone front) (without_out g) ≡ g =
    ap (λ z. record g { devices = record g.devices { uart = record g.devices.uart { out = z } } })
    (append-nil front) in
    let apart : (after n g).devices.uart.out ≡ front ++ (after n (without_out g)).devices.uart.out =
    ap (λ (z : State). z.devices.uart.out)
    (ap (λ z. after n z) (sym split) ∙ after-with (out_alone front) n (without_out g)) in
    ap (λ z. take (length front) z) apart
    ∙ take_at front (after n (without_out g)).devices.uart.out (length front) refl

pub turns-ok : (p q : Progress) (n made offset index : ℕ) (g h : State)
    → p ≡ going g index → h ≡ after n g → made ≡ ran n g → made ≡ n → is_run (due h) ≡ false
    → q ≡ accepted (going g index) h → Feeds p (event.Instruction n) offset (Ok tt) q
turns-ok p q n made offset index g h old state made_is all other new =
    rw old (rw new (h, all-ran n made g h state made_is all other, refl))

pub turns-wrong : (p q : Progress) (n offset index shown : ℕ) (g h : State) (d : Due) (f : Found)
    → p ≡ going g index → step g (event.Instruction n) ≡ None → h ≡ after n g → d ≡ due h
    → f ≡ found_as g (event.Instruction n) → shown ≡ length g.devices.uart.out
    → q ≡ record (refused (going h index) h offset d f) { out = take shown h.devices.uart.out }
    → Feeds p (event.Instruction n) offset (Err error.Refused) q
turns-wrong p q n offset index shown g h d f old stopped state due_is found_is shown_is new =
    let out : take shown h.devices.uart.out ≡ g.devices.uart.out =
    ap (λ z. take z h.devices.uart.out) shown_is
    ∙ ap (λ (z : State). take (length g.devices.uart.out) z.devices.uart.out) state
    ∙ out-behind n g in
    let due_then : d ≡ due_at g (event.Instruction n) = due_is ∙ due-after n g h state in
    rw old (stopped, rw (new, out, due_then, found_is, state) refl)

pub turns-counts : (p q : Progress) (limit index steps steps' : ℕ) (g h : State)
    (result : Result ℕ AllocError)
    → p ≡ going g index → RunsTo g limit result h steps steps' → q.machine ≡ h
    → CountsTurns p q steps steps'
turns-counts p q limit index steps steps' g h (Ok made) old (state, made_is, steps_is) new =
    rw old (rw new (ran-counts limit made g h steps steps' state made_is steps_is))
turns-counts p q limit index steps steps' g h (Err lost) old
    (made, fewer, state, made_is, steps_is, wants) new =
    rw old (rw new (ran-counts made made g h steps steps' state made_is steps_is))
