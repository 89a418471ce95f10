use Rattle.std.proofs.Common.{◌≡◌, ◌≤◌, ◌+◌, ◌-◌, ◌++◌, length, take, ap, sym, subst, ◌∙◌, arith, length-append, length-take-le}
use Rattle.std.specs.Io.KnownBytes.{Keeps, prepend_known}
use Rattle.io_workers.specs.PacketFile.{IsBegun}
use borrow.Rule.Slice.PartMut.{mid_len}
use Rattle.io_workers.proofs.Filling.{front-filled, as-long, still-all, begun-on, begun-since, front-on}
use Rattle.io_workers.proofs.frames.Frames.fill.Goals as goal

pub loop-self-preserved : goal.loop-self-preserved
loop-self-preserved g c =
    let i = c.loop-self.invariant in
    let at = c.loop-self.self-inside.held in
    let buffer = c.loop-self.self-inside.buffer in
    let n = c.in_ok-count.count in
    let part = c.read.new.buf in
    let room = c.args.size - at in
    let long : length part ≡ room = omega (arith, c.read.auto.buf, mid_len at c.args.size buffer (omega (arith, c.requires.few, i.room))) in
    let few : n ≤ room = omega (arith, c.in_ok-count.ensures.count) in
    let grown = front-filled at room n buffer part (omega (arith, i.few, i.room)) long few in
    let size = length-take-le at buffer (omega (arith, i.few, i.room)) in
    let held = take at buffer ++ take n part in
    let width : length held ≡ at + n =
    length-append (take at buffer) (take n part)
    ∙ omega (arith, size, length-take-le n part (omega (arith, long, few))) in
    record {
      more = omega (arith, few);
      few = omega (arith, few, c.requires.few);
      room = as-long at room buffer part (omega (arith, c.requires.few, i.room)) long ∙ i.room;
      within = omega (arith, few, c.requires.within, i.count);
      begun = subst IsBegun (sym grown) (begun-on c.args.size (take at buffer) (take n part)
          (omega (arith, width, few)) (λ long. begun-since c.args.self.now.held (take at buffer) c.args.size i.front (c.requires.begun long)));
      front = ap (take (length c.args.self.now.held)) grown ∙ front-on c.args.self.now.held (take at buffer) (take n part) i.front;
      bytes = subst (λ all. Keeps (prepend_known c.args.self.now.held (g.S.Source.left c.args.source.now)) (prepend_known all (g.S.Source.left c.read.new.self))) (sym grown) (still-all _ _ _ _ _ i.bytes c.in_ok-count.ensures.bytes.0);
      count = i.count;
      ended = i.ended;
      faults = c.in_ok-count.ensures.cause.kept ∙ i.faults;
    }
