use Rattle.std.proofs.Common.{◌≡◌, ◌+◌, Ok, inl, inr, length, take, ap, sym, arith}
use Rattle.std.specs.Int.{w32, from_be_bytes}
use Rattle.io_workers.proofs.Filling.{fewer, same-head}
use Rattle.io_workers.proofs.NoneComing.{none-coming, is-whole}
use Rattle.io_workers.proofs.frames.Frames.find.Goals as goal
use Rattle.io_workers.proofs.frames.Frames.find.Goals.{then-size-room-via-then-size-room, then-size-room-via-else-size-room+in_ok-fill-2+then-not-branch-2}

pub returns-then-size-room-clause-none : goal.returns-then-size-room-clause-none
returns-then-size-room-clause-none g c =
    let begun = c.in_ok-fill.ensures.filled (ap Ok c.if-not-branch.false) in
    let said = c.length-length.ensures in
    λ _. elim c.then-size-room.branch [
      | then-size-room-via-then-size-room w ↦
          rw (w.self-is, w.source-is)
          (none-coming _ _ _ begun
          (inl (omega (arith, w.if-size-room.true, said, c.in_ok-fill.ensures.count, ap (λ p. p.count) c.self.view_is))))
      | then-size-room-via-else-size-room+in_ok-fill-2+then-not-branch-2 w ↦
          let over = w.in_ok-fill-2.ensures.end (ap Ok w.if-not-branch-2.true) in
          let held = c.fill.new.self.held in
          let since = w.fill-else-size-room.new.self.held in
          let front = w.in_ok-fill-2.ensures.front in
          let head : from_be_bytes w32 (take 4 since) ≡ from_be_bytes w32 (take 4 held) =
          ap (λ l. from_be_bytes w32 l) (same-head held since front begun) in
          rw (w.self-is, w.source-is)
          (none-coming _ _ _ (omega (arith, begun, fewer held since front))
          (inr (omega (arith, said, over.0, head), over.1)))
    ]

pub returns-clause-found : goal.returns-clause-found
returns-clause-found g c =
    let begun = c.in_ok-fill.ensures.filled (ap Ok c.if-not-branch.false) in
    let said = c.length-length.ensures in
    let held = c.fill.new.self.held in
    let since = c.fill-else-size-room.new.self.held in
    let front = c.in_ok-fill-2.ensures.front in
    let head : from_be_bytes w32 (take 4 since) ≡ from_be_bytes w32 (take 4 held) =
    ap (λ l. from_be_bytes w32 l) (same-head held since front begun) in
    let filled = c.in_ok-fill-2.ensures.filled (ap Ok c.if-not-branch-2.false) in
    let size : length since ≡ 4 + c.length-length.result =
    grind (arith, said, filled, c.in_ok-fill-2.ensures.more, c.in_ok-fill.ensures.begun) in (
      sym size,
      is-whole _ (4 + c.length-length.result) (omega (arith, said, head)) size
          (grind (arith, c.if-not-contains.ensures.cases)) (grind (arith, c.if-not-contains.ensures.cases)),
    )
