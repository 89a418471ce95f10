use Rattle.std.proofs.Common.{sym, ap, ◌∙◌}
use Rattle.plain_hub.specs.declared.entry.Call.TheVariants.{End}
use Rattle.plain_hub.specs.Hub.{has_end}
use Rattle.replay_mutex.specs.Shown.{knows}
use Rattle.replay_mutex.proofs.Entered.{entered, may_enter, end_own}
use Rattle.replay_mutex.proofs.hub.Hub.end.Goals as goal

pub enter-requires-clause-holds : goal.enter-requires-clause-holds
enter-requires-clause-holds g c =
    let p = c.args.pass.now in
    may_enter (knows p) (End c.args.why) p.here c.take_out-hub.ensures.new c.take_out-hub.ensures.holds
    p.numbered c.end.ensures

pub invariant_of-pass-clause-own : goal.invariant_of-pass-clause-own
invariant_of-pass-clause-own g c =
    let p = c.args.pass.now in
    let e = entered (knows p) (End c.args.why) c.take_out-hub.ensures.new c.take_out-hub.ensures.holds
    p.numbered c.end.ensures c.enter.ensures.legal c.enter.ensures.rests in
    e.1.0.4

pub end-requires-clause-once : goal.end-requires-clause-once
end-requires-clause-once g c =
    let p = c.args.pass.now in
    let h = c.take_out-hub.result in
    ap (λ n. has_end n h.entries) (sym p.numbered) ∙ end_own (knows p).number h.entries ∙ ap (has_end (knows p).number) c.take_out-hub.ensures.new.1 ∙ c.requires.once
