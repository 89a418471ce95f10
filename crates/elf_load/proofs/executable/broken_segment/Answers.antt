use Rattle.std.proofs.Common.{◌≡◌, ◌<◌, true, sym, ap, ◌∙◌, arith}
use Rattle.std.specs.Prelude.{is_some}
use Rattle.elf_load.specs.Fields.{e_phnum}
use Rattle.elf_load.specs.Segments.{header, broken_by}
use Rattle.elf_load.proofs.Scan.{first_found}
use Rattle.elf_load.proofs.executable.broken_segment.Goals as goal

-- the rule that this segment breaks is the first of all
pub returns-then-is_some-clause-rule : goal.returns-then-is_some-clause-rule
returns-then-is_some-clause-rule c =
    let some : is_some c.broken-rule.result ≡ true = cc in
    let is : broken_by c.args.file.now c.args.ram (header c.args.file.now c.loop-k.k) ≡ c.broken-rule.result =
    sym (c.broken-rule.ensures.rule ∙ ap (λ h. broken_by c.args.file.now c.args.ram h) c.header_at.ensures) in
    let within : c.loop-k.k < e_phnum c.args.file.now = omega (arith, c.loop-k-test.true, c.u16_at-k-end.ensures) in
    first_found c.args.file.now c.args.ram c.loop-k.k (e_phnum c.args.file.now) c.broken-rule.result some c.loop-k.invariant is within
