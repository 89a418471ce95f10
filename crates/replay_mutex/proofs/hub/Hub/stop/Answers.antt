use Rattle.std.specs.Prelude.{if◌then◌else◌, MatchBool}
use Rattle.std.proofs.Common.{◌≡◌, Bool, true, false, sym, ap, ◌∙◌, subst}
use Rattle.plain_hub.specs.declared.entry.Call.TheVariants.{Stop}
use Rattle.plain_hub.specs.Hub.{state_of}
use Rattle.plain_hub.specs.Past.{Past, and_then}
use Rattle.replay_mutex.specs.Shown.{knows, has_stop, Makes}
use Rattle.replay_mutex.specs.Answers.{WasStopped}
use Rattle.replay_mutex.proofs.Entered.{entered, may_enter, answered, stopped_own}
use Rattle.replay_mutex.proofs.hub.Hub.stop.Goals as goal

-- a hub that isn't stopped has a stop more
stops : (h : Past) {now : Past} {b is : Bool} → now ≡ (if b then h else and_then h 0 Stop) → is ≡ b
    → is ≡ false → now ≡ and_then h 0 Stop
stops h made told going =
    made ∙ ap (λ (b : Bool). if b then h else and_then h 0 Stop) (sym told ∙ going)

pub enter-requires-clause-holds : goal.enter-requires-clause-holds
enter-requires-clause-holds g c =
    let p = c.args.pass.now in
    may_enter (knows p) Stop p.here c.take_out-hub.ensures.new c.take_out-hub.ensures.holds
    c.requires.kind (stops c.take_out-hub.result c.stop.ensures c.is_stopped.ensures c.if-is_stopped.false)

pub invariant_of-pass-2-clause-own : goal.invariant_of-pass-2-clause-own
invariant_of-pass-2-clause-own g c =
    let e = entered (knows c.args.pass.now) Stop c.take_out-hub.ensures.new
    c.take_out-hub.ensures.holds c.requires.kind
    (stops c.take_out-hub.result c.stop.ensures c.is_stopped.ensures c.if-is_stopped.false)
    c.enter.ensures.legal c.enter.ensures.rests in
    e.1.0.4

pub returns-then-is_stopped-clause-stopped : goal.returns-then-is_stopped-clause-stopped
returns-then-is_stopped-clause-stopped g c =
    let v = knows c.args.pass.now in
    let h = c.take_out-hub.result in
    let w = c.answer.new.seat.me.0 in
    let new = c.take_out-hub.ensures.new in
    let told = answered v new c.take_out-hub.ensures.holds c.answer.ensures.rests in
    let stopped : (state_of h.entries).stopped ≡ true =
    sym c.is_stopped.ensures ∙ c.if-is_stopped.true in
    let has : has_stop v.mine ≡ true = sym (stopped_own v h new c.requires.kind) ∙ stopped in
    subst (λ b. MatchBool b (WasStopped v w) (Makes v w Stop)) (sym has)
    (told.0, told.1, ap (λ l. (state_of l).stopped) told.2 ∙ stopped)

pub returns-clause-stopped : goal.returns-clause-stopped
returns-clause-stopped g c =
    let v = knows c.args.pass.now in
    let w = c.enter.new.seat.me.0 in
    let new = c.take_out-hub.ensures.new in
    let e = entered v Stop new c.take_out-hub.ensures.holds c.requires.kind
    (stops c.take_out-hub.result c.stop.ensures c.is_stopped.ensures c.if-is_stopped.false)
    c.enter.ensures.legal c.enter.ensures.rests in
    let has : has_stop v.mine ≡ false =
    sym (stopped_own v c.take_out-hub.result new c.requires.kind)
    ∙ sym c.is_stopped.ensures ∙ c.if-is_stopped.false in
    subst (λ b. MatchBool b (WasStopped v w) (Makes v w Stop)) (sym has) e.1
