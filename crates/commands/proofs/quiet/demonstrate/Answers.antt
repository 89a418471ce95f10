use Rattle.std.proofs.Common.{◌≡◌, ◌∙◌, ℕ, List, [], subst, sym, refl}
use Rattle.std.specs.Prelude.{Some, Result, Ok, Err, OnOk, IsErrOf}
use Rattle.outside.specs.Causes.{Rose}
use Rattle.outside.specs.Ledger.{Ledger}
use Rattle.outside.specs.Told.{Takes, TakesFront}
use Rattle.outside.specs.Roles.{at}
use Rattle.outside.specs.declared.roles.Role.TheVariants.{ConsoleOut}
use Rattle.demo_run.specs.Demos.{Demonstration, demo_line}
use Rattle.commands.specs.Asking.{quiet_outcome_of}
use Rattle.commands.specs.Causes.{DemoCause}
use Rattle.commands.specs.declared.outcome.Outcome.{Outcome}
use Rattle.commands.specs.declared.printing.PrintFault.{PrintFault}
use Rattle.commands.specs.declared.printing.PrintFault.TheVariants.{Failed, NoMemory}
use Rattle.commands.proofs.quiet.demonstrate.Goals as goal

-- a text was printed or not, and it is a demonstration's line
caused : (n : ℕ) (d : Demonstration n) (text : List ℕ) (old new : Ledger)
    (printed : Result (Unit {0}) PrintFault)
    → text ≡ demo_line n d → OnOk printed (Takes (Some []) (at new.last ConsoleOut) text)
    → (IsErrOf printed Failed → Rose (at old.faults ConsoleOut) (at new.faults ConsoleOut))
    → DemoCause n old new (quiet_outcome_of printed)
caused n d text old new (Ok done) is took failed =
    (d, subst (λ (z : List ℕ). Takes (Some []) (at new.last ConsoleOut) z) is took)
caused n d text old new (Err Failed) is took failed = failed refl
caused n d text old new (Err NoMemory) is took failed = tt

pub returns-clause-cause : goal.returns-clause-cause
returns-clause-cause g c =
    let old = g.W.World.ledger c.args.world.now in
    let new = g.W.World.ledger c.print.new.world in
    subst (λ (x : Outcome). DemoCause c.args.n old new x) (sym c.quiet_outcome.ensures)
    (caused c.args.n c.in-Ok.ensures.0 c.as_str.result.now old new c.print.result
    (c.as_str.ensures.value ∙ c.in-Ok.ensures.1) c.print.ensures.whole c.print.ensures.failed)

pub returns-clause-front : goal.returns-clause-front
returns-clause-front g c = λ more. (
  c.in-Ok.ensures.0,
  subst (λ (z : List ℕ).
      TakesFront (Some []) (at (g.W.World.ledger c.print.new.world).last ConsoleOut) z)
      (c.as_str.ensures.value ∙ c.in-Ok.ensures.1) (c.print.ensures.front more),
)
