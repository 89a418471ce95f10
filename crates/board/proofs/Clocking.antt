-- Whether an attempt needs the clock, by the load that it makes.
use Rattle.std.proofs.Common.{◌≡◌, ℕ}
use Rattle.rv_decode.specs.declared.ins.Ins.{Ins}
use Rattle.rv_exec.specs.declared.hart.Hart.{Hart}
use Rattle.rv_exec.specs.Rows.{load_of, meaning, is_need_clock, needs_clock}
use Rattle.rv_exec.proofs.Clock.{meaning-clock}
use Rattle.system_bus.specs.declared.devices.Devices.{Devices}
use Rattle.system_bus.specs.Access.{answers}

pub meaning_clock : (h : Hart) (d : Devices) (i : Ins) (w : ℕ) → is_need_clock (meaning answers h d i w).done ≡ needs_clock answers d (load_of h i i.op)
meaning_clock h d i w = meaning-clock answers h d i w

pub ruleset clocking = (meaning_clock)
