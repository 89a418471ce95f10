use Rattle.std.proofs.Common.{arith}
use Rattle.ram_pages.proofs.Paging.{length-joined}
use Rattle.ram_pages.proofs.pages.has_page.Goals as goal

pub returns-clause-inside : goal.returns-clause-inside
returns-clause-inside c = λ is. grind (arith, is, length-joined c.args.pages.now c.requires)

pub returns-clause-outside : goal.returns-clause-outside
returns-clause-outside c = λ is. grind (arith, is, length-joined c.args.pages.now c.requires)

pub returns-clause-small : goal.returns-clause-small
returns-clause-small c = omega (arith, length-joined c.args.pages.now c.requires, c.requires.few)

pub returns-clause-pages : goal.returns-clause-pages
returns-clause-pages c = omega (arith, length-joined c.args.pages.now c.requires)
