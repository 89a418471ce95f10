use Rattle.std.proofs.Common.{◌-◌, ◌≡◌, ◌≤◌, ◌+◌, ◌^◌, length, take, max}
use Rattle.std.specs.Io.KnownBytes.{Keeps, prepend_known}
use Rattle.io_workers.specs.PacketFile.{IsBegun}
use Rattle.io_workers.proofs.frames.Frames.fill.Given as goal

-- what is held is what was held and what the source gave since
abbrev pub invariant-loop-self : goal.invariant-loop-self
invariant-loop-self g l =
    let held = take l.self-inside.held l.self-inside.buffer in
    record {
      more : l.self-inside.held ≤ max l.size (length l.fn.self.held);
      few : l.self-inside.held ≤ 1518;
      room : length l.self-inside.buffer ≡ 1518;
      within : l.self-inside.count + l.self-inside.held ≤ 2 ^ 40;
      begun : IsBegun held;
      front : take (length l.fn.self.held) held ≡ l.fn.self.held;
      bytes : Keeps (prepend_known l.fn.self.held (g.S.Source.left l.fn.source))
          (prepend_known held (g.S.Source.left l.source));
      count : l.self-inside.count ≡ l.fn.self.count;
      ended : l.self-inside.ended ≡ l.fn.self.ended;
      faults : g.S.Source.faults l.source ≡ g.S.Source.faults l.fn.source;
    }

abbrev pub decreases-loop-self : goal.decreases-loop-self
decreases-loop-self g l = l.size - l.self-inside.held
