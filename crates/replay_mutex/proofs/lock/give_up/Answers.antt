use Rattle.std.proofs.Common.{◌<◌, sym, ◌∙◌, subst, arith}
use Rattle.replay_mutex.proofs.Keeping.{moved_in, returns_at}
use Rattle.replay_mutex.proofs.lock.give_up.Goals as goal

pub store-requires : goal.store-requires
store-requires c =
    let e = c.exchange.ensures in
    let q = c.requires in
    let o = q.holds in
    let u = c.args.seat.now.me in
    let back = moved_in u c.exchange.new.seat.me c.args.hub o.3 e.3 in
    (e.0 ∙ q.top.1, subst (λ n. 0 < n) (sym q.top.0.0) (omega arith), returns_at _ _ c.exchange.new.seat.me u.0 c.args.hub q.top.0.1 o.0 o.1 o.2 back)
