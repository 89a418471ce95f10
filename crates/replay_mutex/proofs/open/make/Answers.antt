use Rattle.std.proofs.Common.{◌<◌, sym, ap, subst, arith}
use Rattle.replay_mutex.specs.Views.{Sits}
use Rattle.replay_mutex.proofs.Made.{splits}
use Rattle.replay_mutex.proofs.open.make.Goals as goal

pub split_seat-seat-requires : goal.split_seat-seat-requires
split_seat-seat-requires c =
    let i = c.loop-number.invariant in
    (i.0, subst (λ n. 0 < n) (sym c.in_ok-board.ensures.board.0) (omega arith), splits _ c.loop-number.seat.me.0 (ap (λ (m : Sits). m.0.spent) i.1) (ap (λ (m : Sits). m.0.number) i.1))
