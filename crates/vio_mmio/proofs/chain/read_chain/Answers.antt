use Rattle.std.proofs.Common.{◌≡◌, ◌-◌, ◌+◌, sym, ◌∙◌, ap, arith, refl, nat_lt, cond, true, false, Ok, Err, lt-ltb, ◌++◌, ◌||◌}
use Rattle.std.proofs.lemmas.Bool.{le-ltb}
use Rattle.vio_mmio.specs.declared.error.BadKind.TheVariants.{Index, Loop}
use Rattle.vio_mmio.specs.Descriptors.{onto, walk, readable_of, writable_of, is_writable}
use Rattle.vio_mmio.proofs.Walks.{walk_more, walk_end, walk_bad, walk_none}
use Rattle.vio_mmio.proofs.chain.read_chain.Goals as goal

pub returns-in-Err-clause-found : goal.returns-in-Err-clause-found
returns-in-Err-clause-found c =
    sym c.loop.invariant.ahead
    ∙ walk_bad c.args.draft.now.bytes c.args.queue.now (c.args.queue.now.size - c.loop.counter) c.loop.number c.loop.late c.in-Err.kind c.loop.found.readable.items c.loop.found.writable.items (omega arith) (sym c.in-Err.ensures)

pub loop-preserved : goal.loop-preserved
loop-preserved c =
    let q = c.args.queue.now in
    let left : q.size - c.loop.counter - 1 ≡ q.size - (c.loop.counter + 1) = omega arith in
    let d = c.in-Ok.d in
    let late : (c.loop.late || is_writable d) ≡ (c.loop.late || c.is_writable-late.result) = ap (λ t. c.loop.late || t) (sym c.is_writable-late.ensures) in
    let step = walk_more c.args.draft.now.bytes q (q.size - c.loop.counter) c.loop.number c.loop.late d c.loop.found.readable.items c.loop.found.writable.items (omega arith) (sym c.in-Ok.ensures) (sym c.if-not-goes_on.ensures) in
    record {
      ahead =
          ap (λ r. onto r c.put.new.found.writable.items (walk c.args.draft.now.bytes q (q.size - (c.loop.counter + 1)) d.next (c.loop.late || c.is_writable-late.result))) c.in-Ok-put.ensures.readable
          ∙ ap (λ w. onto (c.loop.found.readable.items ++ readable_of d) w (walk c.args.draft.now.bytes q (q.size - (c.loop.counter + 1)) d.next (c.loop.late || c.is_writable-late.result))) c.in-Ok-put.ensures.writable
          ∙ sym (ap (λ n. onto (c.loop.found.readable.items ++ readable_of d) (c.loop.found.writable.items ++ writable_of d) (walk c.args.draft.now.bytes q n d.next (c.loop.late || c.is_writable-late.result))) left)
          ∙ sym (ap (λ t. onto (c.loop.found.readable.items ++ readable_of d) (c.loop.found.writable.items ++ writable_of d) (walk c.args.draft.now.bytes q (q.size - c.loop.counter - 1) d.next t)) late)
          ∙ sym step ∙ c.loop.invariant.ahead;
      end = refl;
      head = c.in-Ok-put.ensures.head ∙ c.loop.invariant.head;
    }

pub returns-then-number-queue-clause-found : goal.returns-then-number-queue-clause-found
returns-then-number-queue-clause-found c =
    let over : nat_lt c.loop.number c.args.queue.now.size ≡ false = le-ltb c.loop.number c.args.queue.now.size c.if-number-queue.true in
    sym c.loop.invariant.ahead
    ∙ walk_none c.args.draft.now.bytes c.args.queue.now (c.args.queue.now.size - c.loop.counter) c.loop.number c.loop.late c.loop.found.readable.items c.loop.found.writable.items (omega arith)
    ∙ ap (λ t. onto c.loop.found.readable.items c.loop.found.writable.items (cond t (Err Loop) (Err Index))) over

pub returns-clause-found : goal.returns-clause-found
returns-clause-found c =
    let under : nat_lt c.loop.number c.args.queue.now.size ≡ true = lt-ltb c.loop.number c.args.queue.now.size c.if-number-queue.false in
    sym c.loop.invariant.ahead
    ∙ walk_none c.args.draft.now.bytes c.args.queue.now (c.args.queue.now.size - c.loop.counter) c.loop.number c.loop.late c.loop.found.readable.items c.loop.found.writable.items (omega arith)
    ∙ ap (λ t. onto c.loop.found.readable.items c.loop.found.writable.items (cond t (Err Loop) (Err Index))) under

pub returns-then-not-goes_on-clause-found : goal.returns-then-not-goes_on-clause-found
returns-then-not-goes_on-clause-found c =
    let q = c.args.queue.now in
    let d = c.in-Ok.d in
    sym c.loop.invariant.ahead
    ∙ walk_end c.args.draft.now.bytes q (q.size - c.loop.counter) c.loop.number c.loop.late d c.loop.found.readable.items c.loop.found.writable.items (omega arith) (sym c.in-Ok.ensures) (sym c.if-not-goes_on.ensures)
    ∙ sym (ap (λ r. Ok (record { readable = r; writable = c.loop.found.writable.items ++ writable_of d })) c.in-Ok-put.ensures.readable)
    ∙ sym (ap (λ w. Ok (record { readable = c.put.new.found.readable.items; writable = w })) c.in-Ok-put.ensures.writable)
