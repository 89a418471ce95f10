-- The text of a machine's registers, clock and console.
use Rattle.std.specs.Prelude.{ℕ, zero, suc, ◌+◌, ◌-◌, ◌^◌, ◌%◌, ◌==◌, false, List, [], ◌++◌, codes, if◌then◌else◌}
use Rattle.std.specs.Fmt.{decimal, digits, padded_integral, format_spec}
use Rattle.rv_csr.specs.declared.mode.Mode.{Mode}
use Rattle.rv_csr.specs.declared.mode.Mode.TheVariants.{U, M}
use Rattle.rv_csr.specs.Control.{Control, status_word}
use Rattle.rv_csr.specs.Table.{pending}
use Rattle.rv_exec.specs.Registers.{register}
use Rattle.system_bus.specs.Access.{inputs}
use Rattle.system_bus.specs.Time.{Time, nanoseconds}
use Rattle.board.specs.State.{State}

-- a word as eight lower-case hexadecimal digits
abbrev pub word_text : ℕ → List ℕ
word_text n = padded_integral (format_spec 32 0 4 8 (2 ^ 64 - 1)) false [] (digits 16 false n)

abbrev pub mode_text : Mode → List ℕ
mode_text M = codes "M"
mode_text U = codes "U"

-- where the hart stands, and how many turns were made
abbrev pub place_text : ℕ → Mode → ℕ → List ℕ
place_text pc mode count =
    codes "pc " ++ word_text pc ++ codes " mode " ++ mode_text mode
    ++ codes " count " ++ decimal count ++ codes "\n"

-- four registers stand on a line
abbrev pub after_register : ℕ → List ℕ
after_register n = if n % 4 == 3 then codes "\n" else codes " "

abbrev pub register_text : List ℕ → ℕ → List ℕ
register_text x n =
    codes "x" ++ decimal n ++ codes " " ++ word_text (register x n) ++ after_register n

-- so many registers from register n on
unfoldable pub registers_text : List ℕ → ℕ → ℕ → List ℕ
registers_text x n zero = []
registers_text x n (suc k) = register_text x n ++ registers_text x (n + 1) k

-- the control registers of interrupts, where mip shows which are pending
abbrev pub interrupt_text : Control → ℕ → List ℕ
interrupt_text c mip =
    codes "mstatus " ++ word_text (status_word c.status) ++ codes " mie " ++ word_text c.mie
    ++ codes " mip " ++ word_text mip ++ codes " mtvec " ++ word_text c.mtvec ++ codes "\n"

-- the control registers of a trap
abbrev pub trap_text : Control → List ℕ
trap_text c =
    codes "mepc " ++ word_text c.mepc ++ codes " mcause " ++ word_text c.mcause
    ++ codes " mtval " ++ word_text c.mtval ++ codes " mscratch " ++ word_text c.mscratch
    ++ codes "\n"

-- nanoseconds since reset, and those of them that idle windows skipped
abbrev pub clock_text : Time → List ℕ
clock_text t =
    codes "clock " ++ decimal (nanoseconds t) ++ codes " warp " ++ decimal t.warp ++ codes "\n"

abbrev pub console_text : ℕ → List ℕ
console_text total = codes "console " ++ decimal total ++ codes " bytes\n"

-- a machine's text, line by line
unfoldable pub show_text : State → List ℕ
show_text g =
    place_text g.hart.pc g.hart.mode g.devices.time.count
    ++ registers_text g.hart.x 0 32
    ++ interrupt_text g.hart.csrs (pending (inputs g.devices))
    ++ trap_text g.hart.csrs
    ++ clock_text g.devices.time
    ++ console_text g.devices.uart.total_out
