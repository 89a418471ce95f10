use Rattle.std.proofs.Common.{◌<◌, sym, ap, ◌∙◌, subst, arith}
use Rattle.replay_mutex.specs.Holding.{Rests}
use Rattle.replay_mutex.specs.Views.{Sits}
use Rattle.replay_mutex.proofs.Keeping.{out_as, took, has_slot}
use Rattle.replay_mutex.proofs.lock.take_out.Goals as goal

pub compare_exchange-found-requires : goal.compare_exchange-found-requires
compare_exchange-found-requires g c =
    let i = c.loop.invariant in
    let q = c.requires in
    let rests : Rests c.loop.seat.me = subst Rests (sym i.4) q.rests.0 in (
      i.2 ∙ q.top.1,
      subst (λ n. 0 < n) (sym q.top.0.0) (omega arith),
      out_as _ _ c.from.result c.loop.seat.me q.top.0.1 rests (ap (λ (m : Sits). m.0.number) i.4 ∙ q.rests.1 ∙ sym c.from.ensures),
    )

pub exchange-requires : goal.exchange-requires
exchange-requires g c =
    let i = c.loop.invariant in
    let e = c.compare_exchange-found.ensures in
    let t = took c.loop.seat.me c.compare_exchange-found.result c.compare_exchange-found.new.seat.me e.2 c.if-found-eq0.true in
    (e.0 ∙ i.2 ∙ c.requires.top.1, has_slot c.loop.seat.me c.compare_exchange-found.new.seat.me t)
