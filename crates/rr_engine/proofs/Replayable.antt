-- A replay of a recording's log comes to the recording's end.
use Rattle.std.proofs.Common.{◌≡◌, ℕ, ◌+◌, List, [], ◌++◌, length, refl, sym, ap, ◌∙◌, subst, length-append, arith}
use Rattle.std.specs.Prelude.{Some, None, IfSome, IsSome}
use Rattle.std.specs.declared.option.Option.{Option}
use Rattle.std.proofs.lemmas.List.{append_cancel_left}
use Rattle.outside.specs.Told.{Takes}
use Rattle.event_log.specs.Spelling.{texts}
use Rattle.event_log.specs.Reading.{ahead, to_limit}
use Rattle.board.specs.State.{State}
use Rattle.board.specs.declared.control.Ending.{Ending}
use Rattle.log_order.specs.declared.refusal.Refusal.{Refusal}
use Rattle.log_order.specs.Order.{IsWrong, IsWhole}
use Rattle.log_order.proofs.Verdicts.{one-whole, whole-right}
use Rattle.log_order.proofs.Recorded.{recorded-whole}
use Rattle.rr_engine.specs.declared.replaying.ReplayEnd.{ReplayEnd}
use Rattle.rr_engine.specs.declared.replaying.ReplayEnd.TheVariants.{End, ConsoleWrite, LogRead, LogTooLong, Refused, NoMemory}
use Rattle.rr_engine.specs.Stand.{Devices}
use Rattle.rr_engine.specs.Runs.{Whole}
use Rattle.rr_engine.specs.Replaying.{Played, PlaysWhole, PlaysToWrong, PlaysToLimit, Replays, IsWrongAt, IsPastLimit}
use Rattle.rr_engine.specs.Replayable.{ReadsBack, EndsAlike}
use Rattle.rr_engine.proofs.Limits.{all-within}

-- what is known of the bytes ahead is known of these
of-held : (a : Option (List ℕ)) (bytes : List ℕ) (P : List ℕ → Type 0) → a ≡ Some bytes
    → IfSome a P → P bytes
of-held a bytes P held known = subst (λ (z : Option (List ℕ)). IfSome z P) held known

abbrev ending : ℕ → ℕ → Option Ending
ending reason code = Some (record { reason = reason; code = code })

reason_of : Option Ending → ℕ
reason_of None = 0
reason_of (Some e) = e.reason

code_of : Option Ending → ℕ
code_of None = 0
code_of (Some e) = e.code

same-ending : (r c reason code : ℕ) → ending r c ≡ ending reason code → (r ≡ reason) × (c ≡ code)
unfolding reason_of code_of
same-ending r c reason code e = (ap reason_of e, ap code_of e)

some-ending : (o : Option Ending) (reason code : ℕ) → o ≡ ending reason code → IsSome o
some-ending o reason code e = subst (λ (z : Option Ending). IsSome z) (sym e) refl

-- a sink that held nothing holds what it took
took-all : (old new : Option (List ℕ)) (xs ys : List ℕ) → old ≡ Some [] → new ≡ Some ys
    → Takes old new xs → ys ≡ xs
took-all old new xs ys empty full took =
    subst (λ (z : Option (List ℕ)). Takes (Some []) z xs) full
    (subst (λ (z : Option (List ℕ)). Takes z new xs) empty took)

module _ (start : State) (head : List ℕ) (old new : Devices) (reason code : ℕ) (p : Played)
    (w : Whole start head old new reason code) (back : ReadsBack head old new p) where
  -- the bytes ahead are the events of the recording
  all-texts : back.behind ≡ texts w.events
  all-texts =
      append_cancel_left head back.behind (texts w.events)
      (took-all old.log new.log (head ++ texts w.events) (head ++ back.behind) back.empty back.log
      w.log)

  whole : IsWhole back.behind start w.last
  whole =
      subst (λ (z : List ℕ). IsWhole z start w.last) (sym all-texts)
      (recorded-whole w.events start w.last w.are w.runs
      (some-ending w.last.control.ended reason code w.ended))

  alike : (q : Played) (r c n t : ℕ) → PlaysWhole start p q r c n t
      → EndsAlike reason code old new p q (End r c n t)
  alike q r c n t again =
      let all : back.behind ≡ texts again.events =
      of-held (ahead p.log) back.behind (λ bytes. bytes ≡ texts again.events) back.held again.whole in
      let too : IsWhole back.behind start again.last =
      subst (λ (z : List ℕ). IsWhole z start again.last) (sym all)
      (recorded-whole again.events start again.last again.plays.are again.plays.runs
      (some-ending again.last.control.ended r c again.ended)) in
      let same : again.last ≡ w.last = one-whole back.behind start again.last w.last too whole in
      let ends = same-ending r c reason code
      (sym again.ended ∙ ap (λ (z : State). z.control.ended) same ∙ w.ended) in (
        ends.0,
        ends.1,
        (
          w.last.devices.uart.out,
          w.console,
          subst (λ (z : State). Takes p.console q.console z.devices.uart.out) same again.console,
        ),
      )

  -- nothing is wrong
  unrefused : (q : Played) (r : Refusal) → PlaysToWrong start p q r → ⊥
  unrefused q r wrong =
      let at = of-held (ahead p.log) back.behind
      (λ bytes. (rest : List ℕ) × (last : State) × (bytes ≡ texts wrong.events ++ rest)
      × IsWrongAt wrong.mid r.offset rest r.found r.due last) back.held wrong.wrong in
      let size : length back.behind ≡ length (texts wrong.events) + length at.0 =
      ap length at.2 ∙ length-append (texts wrong.events) at.0 in
      let inside : to_limit r.offset at.0 ≡ at.0 =
      all-within r.offset at.0 (omega (arith, wrong.offset, size, back.fits)) in
      whole-right back.behind 98 start wrong.mid at.1 w.last r (record {
        events = wrong.events;
        rest = at.0;
        accepted = record { parts = at.2; are = wrong.plays.are; runs = wrong.plays.runs };
        index = wrong.index;
        offset = wrong.offset;
        wrong = subst (λ (z : List ℕ). IsWrong wrong.mid z r.found r.due at.1) inside at.3.0;
      }) whole

  -- and nothing lies past the limit
  unlimited : (q : Played) → PlaysToLimit start p q → ⊥
  unlimited q long =
      let past = of-held (ahead p.log) back.behind
      (λ bytes. (rest : List ℕ) × (bytes ≡ texts long.events ++ rest)
      × IsPastLimit long.last (98 + length (texts long.events)) rest) back.held long.past in
      let size : length back.behind ≡ length (texts long.events) + length past.0 =
      ap length past.1 ∙ length-append (texts long.events) past.0 in
      absurd (omega (arith, past.2.0, size, back.fits))

  comes-alike : (q : Played) (end : ReplayEnd) → Replays start p q end
      → EndsAlike reason code old new p q end
  comes-alike q (End r c n t) again = alike q r c n t again
  comes-alike q ConsoleWrite again = again.1
  comes-alike q LogRead again = again.1
  comes-alike q LogTooLong again = unlimited q again
  comes-alike q (Refused r) again = unrefused q r again
  comes-alike q NoMemory again = tt

pub replays-alike : (start : State) (head : List ℕ) (old new : Devices) (reason code : ℕ)
    (p q : Played) (end : ReplayEnd) → Whole start head old new reason code
    → ReadsBack head old new p → Replays start p q end → EndsAlike reason code old new p q end
replays-alike start head old new reason code p q end w back again =
    comes-alike start head old new reason code p w back q end again
