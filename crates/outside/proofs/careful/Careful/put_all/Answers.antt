use Rattle.std.proofs.Common.{ℕ, [], arith, ap, subst, ◌∙◌}
use Rattle.std.proofs.lemmas.List.{length-take, length-drop}
use Rattle.outside.specs.Told.{Takes}
use Rattle.outside.proofs.ToldLemmas.{Takes-refl, Takes-next, Takes-stop, TakesFront-take}
use Rattle.outside.proofs.careful.Careful.put_all.Goals as goal

pub loop-done-init : goal.loop-done-init
loop-done-init g c = record {
  within = omega arith;
  taken = subst (λ s. Takes (g.S.Sink.taken s) (g.S.Sink.taken c.self.inside.sink) []) c.self.view_is (Takes-refl _);
  role = ap g.S.Sink.role c.self.view_is;
  faults = ap g.S.Sink.faults c.self.view_is;
}

pub loop-done-preserved : goal.loop-done-preserved
loop-done-preserved g c =
    let i = c.loop-done.invariant in
    record {
      within = grind (arith, length-take {A = ℕ}, length-drop {A = ℕ}, c.in_ok-done.ensures.count);
      taken = Takes-next _ _ _ _ _ _ i.taken c.in_ok-done.ensures.bytes;
      role = c.in_ok-done.ensures.role ∙ i.role;
      faults = c.in_ok-done.ensures.cause.kept ∙ i.faults;
    }

pub returns-in_err-done-clause-front : goal.returns-in_err-done-clause-front
returns-in_err-done-clause-front g c =
    let i = c.loop-done.invariant in
    TakesFront-take _ _ _ c.loop-done.done (Takes-stop _ _ _ _ i.taken c.in_err-done.ensures.bytes)

pub returns-clause-front : goal.returns-clause-front
returns-clause-front g c = TakesFront-take _ _ _ c.loop-done.done c.loop-done.invariant.taken
