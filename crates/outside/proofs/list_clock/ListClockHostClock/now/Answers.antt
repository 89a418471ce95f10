use Rattle.std.proofs.Common.{◌≡◌, refl, arith}
use Rattle.std.proofs.lemmas.Grind.{common_steps}
use Rattle.outside.specs.Causes.{one_more}
use Rattle.outside.specs.Fakes.{ClockState, value_at}
use Rattle.outside.proofs.ClockLemmas.{clock_told}
use Rattle.outside.proofs.list_clock.ListClockHostClock.now.Goals as goal

pub returns-clause-told : goal.returns-clause-told
returns-clause-told c =
    let before : ClockState = record { values = c.self.inside.values.items; calls = c.self.inside.calls } in
    let next : c.saturating_add-self-inside.result ≡ one_more before.calls = grind (arith, common_steps) in
    let value : c.unwrap_or-value.result ≡ value_at before.values before.calls = grind (arith, common_steps) in
    rw (← c.self.view_is) (clock_told before (record { values = before.values; calls = c.saturating_add-self-inside.result }) _ (rw next refl) value)
