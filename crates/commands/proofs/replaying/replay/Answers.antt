use Rattle.std.proofs.Common.{[], ◌∷◌, Some, ap, sym, subst}
use Rattle.outside.specs.Ledger.{Ledger}
use Rattle.outside.specs.Openings.{OpensFront}
use Rattle.outside.specs.declared.openings.Opening.TheVariants.{Source}
use Rattle.outside.specs.declared.roles.Role.TheVariants.{LogIn}
use Rattle.outside.proofs.OpeningLemmas.{OpensFront-after}
use Rattle.commands.specs.Openings.{played_openings}
use Rattle.commands.proofs.replaying.replay.Goals as goal

-- the log's source was opened first
pub returns-clause-openings : goal.returns-clause-openings
returns-clause-openings g c =
    let old = g.W.World.ledger c.args.world.now in
    let last = g.W.World.ledger c.replay_log-outcome.new.world in
    let due = Source LogIn (Some c.args.words.now.log.now) ∷ played_openings c.args.words.now.bios.now in
    subst (λ z. OpensFront old.openings z due)
    (sym (ap (λ (l : Ledger). l.openings) c.take_source.ensures.back))
    (OpensFront-after old.openings (g.W.World.ledger c.open_log.new.world).openings last.openings
    (Source LogIn (Some c.args.words.now.log.now) ∷ []) (played_openings c.args.words.now.bios.now)
    (ap (λ (l : Ledger). l.openings) c.in-Ok.ensures.opened)
    c.replay_log-outcome.ensures.openings)
