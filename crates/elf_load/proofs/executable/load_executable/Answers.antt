use Rattle.std.proofs.Common.{sym}
use Rattle.elf_load.specs.Fields.{e_phnum}
use Rattle.elf_load.proofs.Scan.{all_have_bytes}
use Rattle.elf_load.proofs.executable.load_executable.Goals as goal

-- a segment that breaks no rule has its bytes in the file
pub pieces-requires-clause-bytes : goal.pieces-requires-clause-bytes
pieces-requires-clause-bytes c =
    all_have_bytes c.args.file.now c.args.ram (e_phnum c.args.file.now) (sym c.in_default-broken_segment.ensures.rule)
