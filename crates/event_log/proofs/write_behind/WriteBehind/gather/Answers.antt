use Rattle.std.proofs.Common.{◌<◌, ◌++◌, length, refl, sym, ap, ◌∙◌, arith, length-append}
use Rattle.event_log.proofs.Gathered.{few_taken, few_kept}
use Rattle.event_log.proofs.write_behind.WriteBehind.gather.Goals as goal

pub returns-then-bytes-room-clause-bytes : goal.returns-then-bytes-room-clause-bytes
returns-then-bytes-room-clause-bytes g c =
    let all = c.args.self.now.held ++ c.args.bytes.now in
    let size = ap (λ w. length w.held) c.self.view_is in
    let few : length all < 65536 =
    omega (arith, size, c.len-room.ensures.count, c.if-bytes-room.true, length-append c.args.self.now.held c.args.bytes.now) in (
      c.requires.works,
      ap (λ w. w.failed) c.self.view_is ∙ c.requires.works,
      refl,
      few_taken (g.S.Sink.taken c.args.sink.now) all few,
      c.append.ensures ∙ ap (λ w. w.held ++ c.args.bytes.now) c.self.view_is ∙ sym (few_kept all few),
    )
