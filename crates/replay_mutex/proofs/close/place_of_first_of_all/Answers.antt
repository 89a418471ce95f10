use Rattle.std.proofs.Common.{sym, ◌∙◌}
use Rattle.replay_mutex.proofs.Firsts.{all_at, not_all}
use Rattle.replay_mutex.proofs.close.place_of_first_of_all.Goals as goal

pub returns-in_default-clause-exactly : goal.returns-in_default-clause-exactly
returns-in_default-clause-exactly c = sym (not_all c.args.passes.now (sym c.place_of_first.ensures ∙ c.in_default.is))

pub returns-then-are_as_many-clause-exactly : goal.returns-then-are_as_many-clause-exactly
returns-then-are_as_many-clause-exactly c = sym (all_at c.args.passes.now c.in-Some.at c.index-passes-at.result (sym c.place_of_first.ensures ∙ c.in-Some.is) ∙ sym c.are_as_many.ensures ∙ c.if-are_as_many.true)

pub returns-else-are_as_many-clause-exactly : goal.returns-else-are_as_many-clause-exactly
returns-else-are_as_many-clause-exactly c = sym (all_at c.args.passes.now c.in-Some.at c.index-passes-at.result (sym c.place_of_first.ensures ∙ c.in-Some.is) ∙ sym c.are_as_many.ensures ∙ c.if-are_as_many.false)
