use Rattle.elf_load.proofs.Inside.{answer_lies}
use Rattle.elf_load.proofs.loader.load.Goals as goal

pub returns-clause-inside : goal.returns-clause-inside
returns-clause-inside c = answer_lies c.args.file.now c.args.ram_mib c.load_by_kind.result c.load_by_kind.ensures
