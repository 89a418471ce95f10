use Rattle.std.proofs.Common.{rules, ◌≡◌, ℕ, ◌+◌, ◌∙◌, ap, sym, subst, arith}
use Rattle.board.specs.State.{State}
use Rattle.board.specs.Turn.{turn}
use Rattle.board.specs.Due.{due}
use Rattle.board.specs.Runs.{after, ran}
use Rattle.system_bus.specs.Lines.{levels}
use Rattle.board.proofs.DueFacts.{run_is_run}
use Rattle.board.proofs.Settled.{turn-settled}
use Rattle.board.proofs.RunFacts.{made_more, after-add, ran-add}
use Rattle.board.proofs.machine.Machine.run.Goals as goal

pub loop-made-preserved : goal.loop-made-preserved
loop-made-preserved g c =
    let i = c.loop-made.invariant in
    let start : State = c.args.self.now in
    let m : ℕ = c.loop-made.made in
    let k : ℕ = c.sprint-sprint.result.made in
    let t = c.in-Turned.ensures in
    let s = c.sprint-sprint.ensures.turns in
    let one = made_more m start i.counts (ap due (sym i.states) ∙ t.0) in
    let here : c.advance_from.new.self ≡ after (m + 1) start = t.1 ∙ ap turn i.states ∙ sym one.0 in
    record {
      within = search rules;
      states = s.1 ∙ ap (λ z. after k z) here ∙ sym (after-add (m + 1) k start one.1);
      counts = ran-add (m + 1) k start one.1 ∙ ap (λ z. m + 1 + ran k z) (sym here) ∙ ap (λ z. m + 1 + z) s.2;
      steps = grind arith;
      free = c.sprint-sprint.ensures.free;
    }

pub sprint-sprint-requires : goal.sprint-sprint-requires
sprint-sprint-requires g c =
    let t = c.in-Turned.ensures in
    subst (λ h. levels h.devices ≡ h.devices) (sym t.1) (turn-settled c.loop-made.self (run_is_run _ t.0))
