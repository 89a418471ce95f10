-- RAM at its place on the bus, and RAM alone as a hart sees it.
use Rattle.std.specs.Prelude.{ℕ, ◌+◌, Bool, false, ◌&&◌, nat_le, List, length, Option, Some, None, Result, Ok, Err, if◌then◌else◌}
use Rattle.byteorder.specs.Endian.{little_bytes}
use Rattle.ram_pages.specs.Memory.{ram_start, number_at, written}
use Rattle.rv_exec.specs.Answers.{Answers}
use Rattle.rv_exec.specs.declared.bus.BusError.{BusError}
use Rattle.rv_exec.specs.declared.bus.BusError.TheVariants.{Fault}

-- the range of so many bytes at an address lies in RAM
abbrev pub lies_in : List ℕ → ℕ → ℕ → Bool
lies_in ram at size = nat_le ram_start at && nat_le (at + size) (ram_start + length ram)

-- the little-endian number of so many bytes
unfoldable pub ram_load : List ℕ → ℕ → ℕ → Option ℕ
ram_load ram at size = if lies_in ram at size then Some (number_at ram at size) else None

-- RAM with so many low bytes of a number written
unfoldable pub ram_store : List ℕ → ℕ → ℕ → ℕ → List ℕ
ram_store ram at size value = written ram at (little_bytes size value)

-- no device stands beside RAM, so an access elsewhere faults
abbrev pub or_fault : Option ℕ → Result ℕ BusError
or_fault None = Err Fault
or_fault (Some value) = Ok value

-- RAM alone as the hart sees it: no device beside it, no interrupt, no time
abbrev pub ram_answers : Answers (List ℕ)
ram_answers = record {
  load = λ ram at size. or_fault (ram_load ram at size);
  loaded = λ ram at size. ram;
  can_store = lies_in;
  stored = ram_store;
  may_want = lies_in;
  is_ram = λ ram at. lies_in ram at 4;
  inputs = λ ram. record { msip = false; mtip = false; meip = false; time = 0 };
}
