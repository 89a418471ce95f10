use Rattle.std.proofs.Common.{◌≡◌, ◌∙◌, ℕ, List, ap, sym, subst, Ok, true, false, not}
use Rattle.std.proofs.lemmas.Slice.Eq.{bytes_eq-Decides}
use Rattle.elf_load.specs.Load.{loaded}
use Rattle.run_files.specs.Headers.{header_of}
use Rattle.demo_run.specs.Demos.{demo_recording}
use Rattle.demo_run.proofs.DemoRuns.{demonstrated}
use Rattle.demo_run.proofs.demo.demo_text.Goals as goal

pub unreachable-requires : goal.unreachable-requires
unreachable-requires g c =
    let same = (bytes_eq-Decides c.in_ok-replayed.replayed.console.items
    c.in_ok-recorded.recorded.console.items).1 c.in_ok-replayed.ensures.console in
    let clash : true ≡ false = sym c.if-ne.true ∙ c.ne.ensures ∙ ap not same in
    absurd cc

pub returns : goal.returns
returns g c =
    let h = c.header-header.result in
    let recorded = c.in_ok-recorded.recorded in
    demonstrated c.args.n recorded.log.items recorded.console.items h c.in_ok-firmware.firmware
    c.in_ok-replayed.replayed.turns c.len.result c.len-2.result c.line.result
    (subst (λ (file : List ℕ). loaded file 16 ≡ Ok c.in_ok-firmware.firmware)
    (c.deref.ensures.value ∙ c.in_ok-file.ensures) c.in_ok-firmware.ensures.loads)
    (c.header-header.ensures.same ∙ ap (header_of demo_recording)
    (c.deref-2.ensures.value ∙ c.in_ok-file.ensures))
    c.header-header.ensures.is c.in_ok-recorded.ensures.recording
    c.in_ok-replayed.ensures.turns
    (c.len.ensures ∙ recorded.console.ok.0) (c.len-2.ensures ∙ recorded.log.ok.0) c.line.ensures
