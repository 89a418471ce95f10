-- What a run recorded is accepted whole.
use Rattle.std.proofs.Common.{◌≡◌, ℕ, List, sym, ap, ◌∙◌, append-nil}
use Rattle.std.specs.Prelude.{Option, Some, None, IsSome}
use Rattle.std.specs.List.{AllByRecursion}
use Rattle.event_log.specs.declared.event.Event.{Event}
use Rattle.event_log.specs.Spelling.{texts, IsEvent}
use Rattle.board.specs.State.{State}
use Rattle.board.specs.Runs.{run}
use Rattle.log_order.specs.declared.runner.FeedError.{FeedError}
use Rattle.log_order.specs.declared.runner.FeedError.TheVariants as error
use Rattle.log_order.specs.Order.{IsWhole}
use Rattle.log_order.specs.Feeding.{Progress}
use Rattle.log_order.specs.Judging.{Judges, ComesTo}
use Rattle.log_order.proofs.Verdicts.{one-whole, whole-right}

pub recorded-whole : (events : List Event) (g last : State) → AllByRecursion IsEvent events
    → run g events ≡ Some last → IsSome last.control.ended → IsWhole (texts events) g last
recorded-whole events g last are runs ended = record {
  events = events;
  accepted = record { parts = sym (append-nil (texts events)); are = are; runs = runs };
  ended = ended;
}

pub recorded-comes : (events : List Event) (at : ℕ) (g last : State) (end : Option FeedError)
    (q : Progress) → AllByRecursion IsEvent events → run g events ≡ Some last
    → IsSome last.control.ended → Judges (texts events) at g end q → ComesTo last end q
recorded-comes events at g last None q are runs ended judged =
    let whole = recorded-whole events g last are runs ended in
    let same : q.machine ≡ last =
    one-whole (texts events) g q.machine last judged.whole whole in (
      same,
      judged.out ∙ ap (λ (z : State). z.devices.uart.out) same,
      judged.unrefused,
    )
recorded-comes events at g last (Some error.Refused) q are runs ended judged =
    absurd (whole-right (texts events) at g judged.mid q.machine last judged.refusal judged.wrong
    (recorded-whole events g last are runs ended))
recorded-comes events at g last (Some error.NoMemory) q are runs ended judged = judged.unrefused
