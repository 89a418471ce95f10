use Rattle.std.proofs.Common.{◌≡◌, ◌+◌, ◌-◌, ◌∙◌, ◌++◌, ◌∷◌, [], sym, ap, map, take, length, arith, ◌≤◌, List, length-append, subst}
use Rattle.std.specs.List.{All}
use Rattle.std.specs.Option.{option_map}
use Rattle.std.proofs.lemmas.List.{map-append, take-append-le, length-take}
use Rattle.std.proofs.lemmas.List.Elements.{All-push}
use Rattle.virtio_blk.specs.Requests.{KindFits}
use Rattle.virtio_blk.specs.declared.notify.Parsed.{Parsed}
use Rattle.virtio_blk.specs.Notify.{ask_of, flight_of, notified, onto_flights}
use Rattle.virtio_blk.proofs.Notices.{notified_more, notified_end, notified_none}
use Rattle.virtio_blk.proofs.notify.take_chains.Goals as goal

-- what stood at the front still stands there
kept_more : {X : Type 0} (old xs ys : List X) (x : X) → take (length old) xs ≡ old → ys ≡ xs ++ x ∷ [] → take (length old) ys ≡ old
kept_more {X} old xs ys x kept is =
    let fits : length old ≤ length xs = omega (arith, ap length kept, length-take {A = X} (length old) xs) in
    ap (take (length old)) is ∙ take-append-le (length old) xs (x ∷ []) fits ∙ kept

pub returns-in-None-clause-ok : goal.returns-in-None-clause-ok
returns-in-None-clause-ok c =
    sym c.loop.invariant.ahead
    ∙ notified_end c.args.draft.now.bytes c.args.sectors (c.args.most - c.loop.counter) c.loop.id c.loop.transport c.take_chain.new.transport (map flight_of c.loop.parsed.items) (omega arith)
    (ap (λ o. (c.take_chain.new.transport, option_map ask_of o)) (sym c.in-None.is) ∙ c.in_ok-ask.ensures.turn)

pub loop-preserved : goal.loop-preserved
loop-preserved c =
    let left : c.args.most - c.loop.counter - 1 ≡ c.args.most - (c.loop.counter + 1) = omega arith in
    let ram = c.args.draft.now.bytes in
    let sectors = c.args.sectors in
    let ask = c.in-Some.ask in
    let front = map flight_of c.loop.parsed.items in
    let fits : (ask.id ≡ c.loop.id) × KindFits ask.kind sectors = rw c.in-Some.is at c.in_ok-ask.ensures.fits in
    let one : record { id = c.loop.id; ask = ask_of ask } ∷ [] ≡ flight_of ask ∷ [] = ap (λ n. record { id = n; ask = ask_of ask } ∷ []) (sym fits.0) in
    let step = notified_more ram sectors (c.args.most - c.loop.counter) c.loop.id c.loop.transport c.take_chain.new.transport (ask_of ask) front (omega arith)
    (ap (λ o. (c.take_chain.new.transport, option_map ask_of o)) (sym c.in-Some.is) ∙ c.in_ok-ask.ensures.turn) in
    let items = ap (map flight_of) c.in_ok-push-in-Some.ensures.items ∙ map-append flight_of c.loop.parsed.items (ask ∷ []) in
    record {
      ahead =
          ap (λ x. onto_flights x (notified ram sectors (c.args.most - (c.loop.counter + 1)) (c.loop.id + 1) c.take_chain.new.transport)) (items ∙ ap (λ x. front ++ x) (sym one))
          ∙ ap (λ m. onto_flights (front ++ record { id = c.loop.id; ask = ask_of ask } ∷ []) (notified ram sectors m (c.loop.id + 1) c.take_chain.new.transport)) (sym left)
          ∙ sym step ∙ c.loop.invariant.ahead;
      id = omega (arith, c.loop.invariant.id);
      live = rw c.in-Some.is at c.in_ok-ask.ensures.live;
      fit =
          let P : Parsed → Type 0 = λ p. KindFits p.kind sectors in
          subst (All P) (sym c.in_ok-push-in-Some.ensures.items) (All-push P c.loop.parsed.items ask c.loop.invariant.fit fits.1);
      count = omega (arith, ap length c.in_ok-push-in-Some.ensures.items, length-append c.loop.parsed.items (ask ∷ []));
      kept = kept_more c.args.parsed.now.items c.loop.parsed.items c.push.new.self.items ask c.loop.invariant.kept c.in_ok-push-in-Some.ensures.items;
    }

pub returns-clause-ok : goal.returns-clause-ok
returns-clause-ok c =
    sym c.loop.invariant.ahead ∙ notified_none c.args.draft.now.bytes c.args.sectors (c.args.most - c.loop.counter) c.loop.id c.loop.transport (map flight_of c.loop.parsed.items) (omega arith)
