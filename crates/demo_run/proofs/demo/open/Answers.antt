use Rattle.std.proofs.Common.{◌≡◌, ◌∙◌, ℕ, List, ap, sym, subst, Err}
use Rattle.std.specs.Prelude.{Some}
use Rattle.event_log.specs.Reading.{Reader, Heads, none_read, reading}
use Rattle.demo_run.proofs.DemoRuns.{header-read, headed, no-fault}
use Rattle.demo_run.proofs.demo.open.Goals as goal

abbrev unread_source : List ℕ → Reader
unread_source log = reading (Some log) 0 (none_read 0)

pub unreachable-requires : goal.unreachable-requires
unreachable-requires c =
    let log = c.args.log.now in
    let new = c.header.new.self in
    let h = c.requires.header.0 in
    let has = c.requires.header.1 in
    let starts : c.in_ok-reader.reader ≡ unread_source log =
    c.in_ok-reader.ensures ∙ ap unread_source
    (c.new-source.ensures ∙ c.in_ok-to_vec.ensures.items_if_clones_equal (λ x y e. e)) in
    no-fault log new h c.in-Err.field-0 has.is has.stands
    c.requires.short (sym c.into_inner.ensures.faults)
    (subst (λ (old : Reader). Heads old new (Err c.in-Err.field-0)) starts c.in-Err.ensures.header)

pub returns-clause-header : goal.returns-clause-header
returns-clause-header c =
    let log = c.args.log.now in
    let starts : c.in_ok-reader.reader ≡ unread_source log =
    c.in_ok-reader.ensures ∙ ap unread_source
    (c.new-source.ensures ∙ c.in_ok-to_vec.ensures.items_if_clones_equal (λ x y e. e)) in
    header-read log c.in_ok-reader.reader c.header.new.self c.in-Ok.header starts
    c.in-Ok.ensures.header

pub returns-clause-behind : goal.returns-clause-behind
returns-clause-behind c =
    let log = c.args.log.now in
    let starts : c.in_ok-reader.reader ≡ unread_source log =
    c.in_ok-reader.ensures ∙ ap unread_source
    (c.new-source.ensures ∙ c.in_ok-to_vec.ensures.items_if_clones_equal (λ x y e. e)) in
    headed log c.in_ok-reader.reader c.header.new.self c.in-Ok.header starts
    c.in-Ok.ensures.header
