-- Until when no interrupt is due, where turns change nothing but RAM.
use Rattle.std.proofs.Common.{◌≡◌, ◌<◌, ◌+◌, ◌*◌, ◌^◌, ℕ, zero, suc, false, List, refl, sym, ap, ◌∙◌, arith}
use Rattle.std.specs.Prelude.{None}
use Rattle.rv_csr.specs.declared.mode.Mode.{Mode}
use Rattle.rv_csr.specs.declared.mode.Mode.TheVariants.{U, M}
use Rattle.rv_csr.specs.declared.inputs.Inputs.{Inputs}
use Rattle.rv_csr.specs.Control.{Control as Csrs}
use Rattle.rv_csr.specs.Traps as interrupts
use Rattle.rv_csr.specs.Traps.{hears}
use Rattle.clint_rtc.specs.Clint.{is_due, mtime, StaysFor}
use Rattle.plic_gate.specs.Claim.{stands}
use Rattle.system_bus.specs.declared.devices.Devices.{Devices}
use Rattle.system_bus.specs.Access.{inputs}
use Rattle.system_bus.specs.Lines.{levels}
use Rattle.system_bus.specs.Time.{Time, nanoseconds}
use Rattle.board.specs.State.{State}
use Rattle.board.specs.Due.{interrupt_of}
use Rattle.board.specs.Sprint.{levels_after, IsQuiet}
use Rattle.system_bus.specs.Time.{later_by}
use Rattle.board.proofs.Hearing.{deaf}

pub deaf_quiet : (g : State) → hears g.hart.csrs g.hart.mode ≡ false → (n : ℕ) → IsQuiet g n
deaf_quiet g h n ram = deaf g.hart.csrs g.hart.mode (inputs (levels_after n (record g.devices { ram = ram; time = later_by n g.devices.time }))) h

-- the count of mtime decides nothing
due-timeless : (c : Csrs) (m : Mode) (i : Inputs) (t : ℕ) → interrupts.due c m (record i { time = t }) ≡ interrupts.due c m i
due-timeless c U i t = refl
due-timeless c M i t = refl

product-more : (count n pow warp : ℕ) → (count + n) * pow + warp ≡ count * pow + warp + n * pow
product-more count n pow warp = grind arith

nanoseconds-more : (t : Time) (n : ℕ) → nanoseconds (later_by n t) ≡ nanoseconds t + n * 2 ^ t.shift
nanoseconds-more t n = product-more t.count n (2 ^ t.shift) t.warp

settled-inputs : (n : ℕ) (d : Devices) → levels d ≡ d → (ram : List ℕ)
    → inputs (levels_after n (record d { ram = ram; time = later_by n d.time }))
    ≡ record (inputs d) { mtip = is_due d.clint (nanoseconds (later_by n d.time)); time = mtime (nanoseconds (later_by n d.time)) }
unfolding levels inputs
settled-inputs zero d e ram = refl
settled-inputs (suc n) d e ram =
    ap (λ z. record { msip = d.clint.msip; mtip = is_due d.clint (nanoseconds (later_by (suc n) d.time)); meip = stands z; time = mtime (nanoseconds (later_by (suc n) d.time)) }) (ap (λ z. z.plic) e)

pub heard_quiet : (g : State) (clock span n : ℕ) → clock ≡ nanoseconds g.devices.time
    → levels g.devices ≡ g.devices → interrupt_of g ≡ None
    → StaysFor g.devices.clint clock span → n * 2 ^ g.devices.time.shift < span → IsQuiet g n
unfolding inputs
heard_quiet g clock span n q e none stays within ram =
    let d : Devices = g.devices in
    let same : is_due d.clint (nanoseconds (later_by n d.time)) ≡ is_due d.clint (nanoseconds d.time) =
    ap (is_due d.clint) (nanoseconds-more d.time n ∙ ap (λ z. z + n * 2 ^ d.time.shift) (sym q)) ∙ stays (n * 2 ^ d.time.shift) within ∙ ap (is_due d.clint) q in
    ap (interrupts.due g.hart.csrs g.hart.mode) (settled-inputs n d e ram)
    ∙ ap (λ z. interrupts.due g.hart.csrs g.hart.mode (record (inputs d) { mtip = z; time = mtime (nanoseconds (later_by n d.time)) })) same
    ∙ due-timeless g.hart.csrs g.hart.mode (inputs d) (mtime (nanoseconds (later_by n d.time)))
    ∙ none
