use Rattle.std.proofs.Common.{◌∙◌, ◌∷◌, [], ap, arith, length, length-append, map}
use Rattle.virtio_net.specs.Card.{bytes_of}
use Rattle.virtio_net.proofs.Backlogs.{one_more}
use Rattle.virtio_net.proofs.backlog.shared.Goals as goal

pub loop-i-preserved : goal.loop-i-preserved
loop-i-preserved c =
    let items = c.args.backlog.now.items in
    let copy = c.in_ok-copy.copy in
    record {
      same = ap (λ b. map bytes_of b.items) c.push.ensures ∙ one_more items c.loop-i.out.items c.loop-i.i c.in-Some.packet.now copy c.in-Some.ensures c.loop-i.invariant.same (c.in_ok-copy.ensures ∙ c.as_slice.ensures.value);
      count = omega (arith, ap (λ b. length b.items) c.push.ensures, length-append c.loop-i.out.items (copy ∷ []), c.loop-i.invariant.count);
      room = ap (λ b. b.capacity) c.push.ensures ∙ c.loop-i.invariant.room;
    }
