use Rattle.std.proofs.Common.{◌∙◌, ap, drop}
use Rattle.std.proofs.lemmas.List.{drop-drop}
use Rattle.circular_buffer.specs.Buffer.{buffer}
use Rattle.virtio_net.proofs.backlog.drop_front.Goals as goal

pub loop-preserved : goal.loop-preserved
loop-preserved c =
    c.pop_front-gone.ensures.items ∙ ap (λ b. buffer (drop 1 b.items) b.capacity) c.loop.invariant
    ∙ ap (λ l. buffer l c.args.backlog.now.capacity) (drop-drop 1 c.loop.counter c.args.backlog.now.items)
