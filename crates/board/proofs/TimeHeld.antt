-- An attempt leaves the clock as it is.
use Rattle.std.proofs.Common.{◌≡◌, refl, ℕ, Bool, true, false}
use Rattle.std.specs.Prelude.{Option, Some, None, if◌then◌else◌}
use Rattle.rv_decode.specs.declared.ins.Ins.{Ins}
use Rattle.rv_decode.specs.Fields.{decoded}
use Rattle.rv_exec.specs.declared.hart.Hart.{Hart}
use Rattle.rv_exec.proofs.Holding.{Holds, meaning-held}
use Rattle.system_bus.specs.declared.devices.Devices.{Devices}
use Rattle.system_bus.specs.declared.memory_map.Region.{Region}
use Rattle.system_bus.specs.declared.memory_map.Region.TheVariants as region_is
use Rattle.system_bus.specs.declared.memory_map.Register.{Register}
use Rattle.system_bus.specs.Time.{Time}
use Rattle.system_bus.specs.Memory.{lies_in, ram_load}
use Rattle.system_bus.specs.MemoryMap.{register_at}
use Rattle.system_bus.specs.Access.{answers, loaded, stored, region_after_read, region_written, register_after_read, register_written}
use Rattle.board.specs.Turn.{attempt, fetched, run_word}

abbrev pub time_of : Devices → Time
time_of d = d.time

if-time : (d : Devices) (b : Bool) (x y : Devices) → x.time ≡ d.time → y.time ≡ d.time → (if b then x else y).time ≡ d.time
if-time d true x y p q = p
if-time d false x y p q = q

region-read-time : (d : Devices) (r : Region) (off : ℕ) → (region_after_read d r off).time ≡ d.time
region-read-time d region_is.Finisher off = refl
region-read-time d region_is.Rtc off = refl
region-read-time d region_is.Clint off = refl
region-read-time d region_is.Plic off = refl
region-read-time d region_is.Uart off = refl

read-time : (d : Devices) (r : Option Register) → (register_after_read d r).time ≡ d.time
read-time d None = refl
read-time d (Some r) = region-read-time d r.region r.offset

region-write-time : (d : Devices) (r : Region) (off value : ℕ) → (region_written d r off value).time ≡ d.time
region-write-time d region_is.Finisher off value = refl
region-write-time d region_is.Rtc off value = refl
region-write-time d region_is.Clint off value = refl
region-write-time d region_is.Plic off value = refl
region-write-time d region_is.Uart off value = refl

write-time : (d : Devices) (r : Option Register) (value : ℕ) → (register_written d r value).time ≡ d.time
write-time d None value = refl
write-time d (Some r) value = region-write-time d r.region r.offset value

loaded-time : (d : Devices) (at size : ℕ) → (loaded d at size).time ≡ d.time
unfolding loaded
loaded-time d at size = if-time d (lies_in d.ram at size) _ _ refl (read-time d (register_at at size))

stored-time : (d : Devices) (at size value : ℕ) → (stored d at size value).time ≡ d.time
unfolding stored
stored-time d at size value = if-time d (lies_in d.ram at size) _ _ refl (write-time d (register_at at size) value)

time-held : Holds answers time_of
time-held = record { loaded = loaded-time; stored = stored-time }

run_word-time : (h : Hart) (d : Devices) (w : ℕ) (i : Option Ins) → (run_word h d w i).bus.time ≡ d.time
run_word-time h d w None = refl
run_word-time h d w (Some i) = meaning-held answers time_of time-held h d i w

fetched-time : (h : Hart) (d : Devices) (w : Option ℕ) → (fetched h d w).bus.time ≡ d.time
fetched-time h d None = refl
fetched-time h d (Some w) = run_word-time h d w (decoded w)

pub attempt_time : (h : Hart) (d : Devices) → (attempt h d).bus.time ≡ d.time
unfolding attempt
attempt_time h d = fetched-time h d (ram_load d.ram h.pc 4)
