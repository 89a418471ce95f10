use Rattle.std.proofs.Common.{◌+◌, ◌++◌, length, sym, ap, ◌∙◌, arith, length-drop, subst}
use Rattle.event_log.specs.Reading.{Unread}
use Rattle.event_log.specs.HeaderFormat.{header_text, HeaderAnswers}
use Rattle.event_log.proofs.read_ahead.ReadAhead.parsed_header.Goals as goal

pub invariant_of-self : goal.invariant_of-self
invariant_of-self c =
    omega (arith, c.self.invariant, ap (λ z. length z) c.skip.ensures, length-drop 98 c.self.inside.held, c.requires.there, ap (λ r. length r.held) c.self.view_is)

pub returns-in-Ok-clause-header : goal.returns-in-Ok-clause-header
returns-in-Ok-clause-header c =
    let is = subst (λ z. HeaderAnswers z c.read_header.result) c.as_slice.ensures.bytes c.read_header.ensures in
    let (good, parts) = rw c.in-Ok.is at is in
    let view : Unread → Unread = λ r. record { held = c.skip.new.self; place = r.place + 98; failed = r.failed } in (
      good,
      sym (ap (λ r. r.held) c.self.view_is) ∙ parts ∙ ap (λ z. header_text c.in-Ok.header ++ z) (sym c.skip.ensures),
      ap view c.self.view_is,
    )
