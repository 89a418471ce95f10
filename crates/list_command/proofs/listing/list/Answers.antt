use Rattle.std.proofs.Common.{rules, [], ◌∷◌, Some, ap, sym, subst}
use Rattle.outside.specs.Ledger.{Ledger}
use Rattle.outside.specs.Openings.{OpensFront}
use Rattle.outside.specs.declared.openings.Opening.TheVariants.{Source}
use Rattle.outside.specs.declared.roles.Role.TheVariants.{LogIn}
use Rattle.outside.proofs.OpeningLemmas.{OpensFront-after}
use Rattle.commands.specs.Openings.{console_openings}
use Rattle.list_command.specs.Lists.{list_openings}
use Rattle.list_command.proofs.listing.list.Goals as goal

-- the log's source was opened first
pub returns-clause-openings : goal.returns-clause-openings
returns-clause-openings g c =
    let old = g.W.World.ledger c.args.world.now in
    let last = g.W.World.ledger c.list_log-outcome.new.world in
    subst (λ z. OpensFront old.openings z (list_openings c.args.log.now))
    (sym (ap (λ (l : Ledger). l.openings) c.take_source.ensures.back))
    (OpensFront-after old.openings (g.W.World.ledger c.open_log.new.world).openings last.openings
    (Source LogIn (Some c.args.log.now) ∷ []) console_openings
    (ap (λ (l : Ledger). l.openings) c.in-Ok.ensures.opened)
    c.list_log-outcome.ensures.openings)

pub returns-clause-cause : goal.returns-clause-cause
returns-clause-cause g c =
    let k = c.list_log-outcome.ensures.cause c.args.log.now in
    search rules
