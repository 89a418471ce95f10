-- Where the next turn needs the clock, no value is in hand.
use Rattle.std.proofs.Common.{◌≡◌, ℕ, ◌%◌, Bool, true, false, refl, sym, ◌∙◌, inl, inr}
use Rattle.std.specs.Prelude.{◌==◌, ◌&&◌, Option, Some, None, is_none}
use Rattle.std.proofs.lemmas.Bool.{cases_Bool}
use Rattle.rv_decode.specs.declared.ins.Ins.{Ins}
use Rattle.rv_decode.specs.Fields.{decoded}
use Rattle.rv_exec.specs.declared.hart.Hart.{Hart}
use Rattle.rv_exec.specs.Rows.{load_of, is_need_clock, is_clock_error, needs_clock as load_needs_clock}
use Rattle.rv_exec.proofs.Clock.{meaning-clock}
use Rattle.clint_rtc.specs.Rtc.{Latch, take, read}
use Rattle.system_bus.specs.declared.devices.Devices.{Devices}
use Rattle.system_bus.specs.declared.memory_map.Region.{Region}
use Rattle.system_bus.specs.declared.memory_map.Region.TheVariants as region_is
use Rattle.system_bus.specs.declared.memory_map.Register.{Register}
use Rattle.system_bus.specs.Memory.{ram_load}
use Rattle.system_bus.specs.MemoryMap.{register_at}
use Rattle.system_bus.specs.Access.{answers, clock_word, region_read, register_read, or_device, load}
use Rattle.board.specs.State.{State}
use Rattle.board.specs.Turn.{run_word, fetched, attempt}
use Rattle.board.specs.Due.{needs_clock}

take-none : (l : Latch) (o : Option ℕ) → is_clock_error (clock_word (take l o)) ≡ true → is_none o ≡ true
take-none l None e = refl
take-none l (Some value) e = absurd cc

latch-none : (l : Latch) (off : ℕ) → is_clock_error (clock_word (read l off)) ≡ true → is_none l.in_hand ≡ true
latch-none l off e =
    elim (cases_Bool (off == 0)) [
      | inl low ↦ take-none l l.in_hand (rw low at e)
      | inr other ↦ elim (cases_Bool (off == 4)) [
        | inl high ↦ (let f = rw (other, high) at e in absurd cc)
        | inr none ↦ (let f = rw (other, none) at e in absurd cc)
      ]
    ]

region-none : (d : Devices) (r : Region) (off : ℕ) → is_clock_error (region_read d r off) ≡ true → is_none d.rtc.in_hand ≡ true
region-none d region_is.Finisher off e = absurd cc
region-none d region_is.Rtc off e = latch-none d.rtc off e
region-none d region_is.Clint off e = absurd cc
region-none d region_is.Plic off e = absurd cc
region-none d region_is.Uart off e = absurd cc

register-none : (d : Devices) (o : Option Register) → is_clock_error (register_read d o) ≡ true → is_none d.rtc.in_hand ≡ true
register-none d None e = absurd cc
register-none d (Some r) e = region-none d r.region r.offset e

device-none : (d : Devices) (o : Option ℕ) (r : Option Register) → is_clock_error (or_device o (register_read d r)) ≡ true
    → is_none d.rtc.in_hand ≡ true
device-none d None r e = register-none d r e
device-none d (Some value) r e = absurd cc

both-true : (a b : Bool) → (a && b) ≡ true → b ≡ true
both-true true b e = e
both-true false b e = absurd cc

load-none : (d : Devices) (o : Option (ℕ × ℕ)) → load_needs_clock answers d o ≡ true → is_none d.rtc.in_hand ≡ true
unfolding load
load-none d None e = absurd cc
load-none d (Some l) e =
    device-none d (ram_load d.ram l.0 l.1) (register_at l.0 l.1) (both-true (l.0 % l.1 == 0) _ e)

word-none : (h : Hart) (d : Devices) (w : ℕ) (i : Option Ins) → is_need_clock (run_word h d w i).done ≡ true → is_none d.rtc.in_hand ≡ true
word-none h d w None e = absurd cc
word-none h d w (Some i) e = load-none d (load_of h i i.op) (sym (meaning-clock answers h d i w) ∙ e)

fetched-none : (h : Hart) (d : Devices) (w : Option ℕ) → is_need_clock (fetched h d w).done ≡ true → is_none d.rtc.in_hand ≡ true
fetched-none h d None e = absurd cc
fetched-none h d (Some w) e = word-none h d w (decoded w) e

pub clock_none : (g : State) → needs_clock g ≡ true → is_none g.devices.rtc.in_hand ≡ true
unfolding needs_clock attempt
clock_none g e = fetched-none g.hart g.devices (ram_load g.devices.ram g.hart.pc 4) e
