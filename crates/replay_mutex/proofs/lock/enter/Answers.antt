use Rattle.std.proofs.Common.{◌<◌, ◌^◌, refl, sym, ap, ◌∙◌, subst, arith}
use Rattle.plain_hub.specs.Hub.{entry}
use Rattle.plain_hub.specs.Past.{Past}
use Rattle.replay_mutex.proofs.Keeping.{moved_in, counts_at, returns_at, after_count}
use Rattle.replay_mutex.specs.Plays.{counted}
use Rattle.replay_mutex.proofs.lock.enter.Goals as goal

pub fetch_add-requires : goal.fetch_add-requires
fetch_add-requires c =
    let e = c.exchange.ensures in
    let q = c.requires in
    let o = q.holds in
    let u = c.args.seat.now.me in
    let back = moved_in u c.exchange.new.seat.me c.args.hub o.2.3 e.3 in
    let is = ap (λ (p : Past). p.entries) o.3 in
    (e.0 ∙ q.top.1, subst (λ n. 1 < n) (sym q.top.0.0) (omega arith), counts_at _ _ c.exchange.new.seat.me u.0 o.0.entries c.args.hub (entry u.0.number o.1) q.top.0.1 o.2.0 o.2.1 back is refl c.len-count.ensures.legal (subst (λ n. n < 2 ^ 64) c.len-count.ensures.value c.len-count.type_inv))

pub store-requires : goal.store-requires
store-requires c =
    let e = c.exchange.ensures in
    let f = c.fetch_add.ensures in
    let q = c.requires in
    let o = q.holds in
    let u = c.args.seat.now.me in
    let back = moved_in u c.exchange.new.seat.me c.args.hub o.2.3 e.3 in
    let up = after_count c.exchange.new.seat.me c.fetch_add.new.seat.me u.0 c.args.hub back f.2 in
    let base = ap (λ (p : Past). p.base) o.3 ∙ o.2.2 in
    (f.0 ∙ e.0 ∙ q.top.1, subst (λ n. 0 < n) (sym q.top.0.0) (omega arith), returns_at _ _ c.fetch_add.new.seat.me (counted u.0 c.args.hub.entries) c.args.hub q.top.0.1 o.2.0 refl base up)
