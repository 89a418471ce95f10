use Rattle.std.proofs.Common.{◌<◌, Some, refl, sym, ◌∙◌, subst, arith}
use Rattle.replay_mutex.proofs.Keeping.{moved_in, loads_at, returns_at, after_load}
use Rattle.replay_mutex.specs.Views.{knowing}
use Rattle.replay_mutex.proofs.lock.answer.Goals as goal

pub load-count-requires : goal.load-count-requires
load-count-requires c =
    let e = c.exchange.ensures in
    let q = c.requires in
    let o = q.holds in
    let u = c.args.seat.now.me in
    let back = moved_in u c.exchange.new.seat.me c.args.hub o.3 e.3 in
    (e.0 ∙ q.top.1, subst (λ n. 1 < n) (sym q.top.0.0) (omega arith), loads_at _ _ c.exchange.new.seat.me u.0 c.args.hub q.top.0.1 o.0 o.1 back)

pub store-requires : goal.store-requires
store-requires c =
    let e = c.exchange.ensures in
    let l = c.load-count.ensures in
    let q = c.requires in
    let o = q.holds in
    let u = c.args.seat.now.me in
    let back = moved_in u c.exchange.new.seat.me c.args.hub o.3 e.3 in
    let loaded = after_load c.exchange.new.seat.me c.load-count.new.seat.me u.0 c.args.hub back o.1 l.2.0 in
    (l.0 ∙ e.0 ∙ q.top.1, subst (λ n. 0 < n) (sym q.top.0.0) (omega arith), returns_at _ _ c.load-count.new.seat.me (knowing u.0 (Some c.args.hub.entries) c.args.hub.entries u.0.mine) c.args.hub q.top.0.1 o.0 refl o.2 loaded)
