use Rattle.std.proofs.Common.{rules, ◌≡◌, sym, subst}
use Rattle.std.specs.Prelude.{None}
use Rattle.system_bus.specs.Lines.{levels}
use Rattle.board.specs.State.{State}
use Rattle.board.specs.Due.{interrupt_of}
use Rattle.board.specs.Sprint.{IsQuiet}
use Rattle.board.proofs.Quiet.{heard_quiet}
use Rattle.board.proofs.machine.Machine.until_the_timer.Goals as goal

pub returns-then-most-from-clause-quiet : goal.returns-then-most-from-clause-quiet
returns-then-most-from-clause-quiet c n w =
    let inside : State = record { hart = c.self.inside.hart; devices = c.self.inside.devices; control = c.self.inside.control } in
    subst (λ g. IsQuiet g n) c.self.view_is
    (heard_quiet inside c.nanoseconds.result c.stays_for-span.result n c.nanoseconds.ensures.value
    (subst (λ g. levels g.devices ≡ g.devices) (sym c.self.view_is) c.requires.levels)
    (subst (λ g. interrupt_of g ≡ None) (sym c.self.view_is) c.requires.none)
    c.stays_for-span.ensures (c.turns_in-most.ensures n w))

pub returns-else-most-from-clause-quiet : goal.returns-else-most-from-clause-quiet
returns-else-most-from-clause-quiet c n w =
    let inside : State = record { hart = c.self.inside.hart; devices = c.self.inside.devices; control = c.self.inside.control } in
    subst (λ g. IsQuiet g n) c.self.view_is
    (heard_quiet inside c.nanoseconds.result c.stays_for-span.result n c.nanoseconds.ensures.value
    (subst (λ g. levels g.devices ≡ g.devices) (sym c.self.view_is) c.requires.levels)
    (subst (λ g. interrupt_of g ≡ None) (sym c.self.view_is) c.requires.none)
    c.stays_for-span.ensures (c.turns_in-most.ensures n (search rules)))
