use Rattle.std.proofs.Common.{◌≡◌, ◌∷◌, ℕ, get_or, List, length, true, Some, sym, ap, ◌∙◌, subst}
use Rattle.std.specs.Prelude.{All, position, ◌==◌}
use Rattle.replay_mutex.specs.declared.pass.Pass.{Pass}
use Rattle.replay_mutex.specs.Shown.{IsPassOf}
use Rattle.replay_mutex.specs.Row.{are_all, has_number, IsWhole}
use Rattle.replay_mutex.proofs.Firsts.{IsFirstOf, first_of_all, all_moved_first, whole_with_first}
use Rattle.replay_mutex.proofs.hub.Hub.close.Goals as goal

-- what was found of the pass 0
first_is : (ps seen : List Pass) (k : ℕ) (first : Pass) → seen ≡ ps → position (λ p. p.number == 0) seen ≡ Some k → true ≡ are_all seen → first ≡ get_or ps k first → IsFirstOf ps k first
first_is ps seen k first same at all is = first_of_all ps k first (ap (λ l. position (λ (p : Pass). p.number == 0) l) (sym same) ∙ at) (ap are_all (sym same) ∙ sym all) is

pub finish-requires-clause-own : goal.finish-requires-clause-own
finish-requires-clause-own c = subst (λ (l : List Pass). All (IsPassOf c.args.self) (c.remove-first.result ∷ l)) (sym c.remove-first.ensures.items) (all_moved_first (IsPassOf c.args.self) c.args.passes.items c.in-Some.at c.remove-first.result (first_is c.args.passes.items c.as_slice.result.now c.in-Some.at c.remove-first.result c.as_slice.ensures.value c.in-Some.ensures.place c.in-Some.ensures.exactly c.remove-first.ensures.value) c.requires)

pub finish-requires-clause-first : goal.finish-requires-clause-first
finish-requires-clause-first c = (first_is c.args.passes.items c.as_slice.result.now c.in-Some.at c.remove-first.result c.as_slice.ensures.value c.in-Some.ensures.place c.in-Some.ensures.exactly c.remove-first.ensures.value).zeroth

pub finish-requires-clause-all : goal.finish-requires-clause-all
finish-requires-clause-all c n ne lt = ap (has_number n) c.remove-first.ensures.items ∙ (first_is c.args.passes.items c.as_slice.result.now c.in-Some.at c.remove-first.result c.as_slice.ensures.value c.in-Some.ensures.place c.in-Some.ensures.exactly c.remove-first.ensures.value).others n ne lt

pub finish-requires-clause-count : goal.finish-requires-clause-count
finish-requires-clause-count c = let f = first_is c.args.passes.items c.as_slice.result.now c.in-Some.at c.remove-first.result c.as_slice.ensures.value c.in-Some.ensures.place c.in-Some.ensures.exactly c.remove-first.ensures.value in ap (λ l. length (c.remove-first.result ∷ l)) c.remove-first.ensures.items ∙ f.size ∙ f.count

pub returns-clause-ok : goal.returns-clause-ok
returns-clause-ok c = whole_with_first c.finish.result c.args.passes.items c.in-Some.at c.remove-first.result (first_is c.args.passes.items c.as_slice.result.now c.in-Some.at c.remove-first.result c.as_slice.ensures.value c.in-Some.ensures.place c.in-Some.ensures.exactly c.remove-first.ensures.value) (subst (λ (l : List Pass). IsWhole c.finish.result (c.remove-first.result ∷ l)) c.remove-first.ensures.items c.finish.ensures)
