use Rattle.std.proofs.Common.{◌≡◌, List, [], ◌∷◌, ◌++◌, Some, sym, ◌∙◌, subst}
use Rattle.atomic_table.specs.Table.{opening}
use Rattle.plain_hub.specs.declared.base.Base.{Base}
use Rattle.plain_hub.specs.Past.{past}
use Rattle.replay_mutex.specs.Views.{Slot, newcomer}
use Rattle.replay_mutex.specs.Rule.{Ruled}
use Rattle.replay_mutex.proofs.Made.{begins}
use Rattle.replay_mutex.proofs.open.open.Goals as goal

pub new-requires-2 : goal.new-requires-2
new-requires-2 c =
    let one : c.push.new.self.items ≡ Some (past c.args.mark []) ∷ [] = c.in_ok-push.ensures.items ∙ (λ i. c.new-slots.ensures.items i ++ Some (c.in_ok-new.ensures i) ∷ []) in
    let key : c.of-key.result.value ≡ c.args.mark = c.of-key.ensures in
    subst (λ (t : List Slot × Base). Ruled (opening (0 ∷ 0 ∷ []) t.0 (newcomer t.1 0 1))) (λ i. (sym one i, sym key i)) (begins c.args.mark)
