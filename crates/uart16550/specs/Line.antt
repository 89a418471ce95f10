-- What the UART holds, and which interrupt it asks for (16550 data sheet, Registers).
use Rattle.std.specs.Prelude.{ℕ, Bool, true, false, ◌&&◌, ◌||◌, not, List, [], ◌∷◌, ◌++◌, if◌then◌else◌}
use Rattle.uart16550.specs.declared.uart.Cause.{Cause}
use Rattle.uart16550.specs.declared.uart.Cause.TheVariants.{Received, Emptied, Nothing}
use Rattle.uart16550.specs.Flags.{has}

-- the registers, whether the FIFOs are on, whether the transmitter became empty since that was
-- shown, the bytes that wait, and the output that wasn't taken, with the number of all its bytes
pub record Line : Type 0 where
  pub ier : ℕ
  pub lcr : ℕ
  pub mcr : ℕ
  pub scr : ℕ
  pub dll : ℕ
  pub dlm : ℕ
  pub fifos : Bool
  pub emptied : Bool
  pub waiting : List ℕ
  pub out : List ℕ
  pub total_out : ℕ

-- the line, and how many bytes of output find room without memory being asked for
pub record Port : Type 0 where
  pub line : Line
  pub room : ℕ

-- all is 0 at reset
abbrev pub reset : Line
reset = record {
  ier = 0;
  lcr = 0;
  mcr = 0;
  scr = 0;
  dll = 0;
  dlm = 0;
  fifos = false;
  emptied = false;
  waiting = [];
  out = [];
  total_out = 0;
}

-- the line control gives access to the divisor latch
abbrev pub dlab : Line → Bool
dlab l = has l.lcr 128

-- some byte waits
abbrev pub waits : List ℕ → Bool
waits [] = false
waits (byte ∷ rest) = true

-- the interrupt that is asked for: bytes that wait go before an empty transmitter
-- (Interrupt Identification Register)
abbrev pub cause : Line → Cause
cause l =
    if waits l.waiting && has l.ier 1 then Received
    else if l.emptied && has l.ier 2 then Emptied
    else Nothing

-- some interrupt is asked for
abbrev pub is_asked : Cause → Bool
is_asked Received = true
is_asked Emptied = true
is_asked Nothing = false

-- the interrupt level
abbrev pub level : Line → Bool
level l = is_asked (cause l)

-- the enabled interrupts are set: where the empty transmitter's turns on, it is asked for
-- (Interrupt Enable Register)
abbrev pub with_enabled : Line → ℕ → Line
with_enabled l enabled = record l {
  ier = enabled;
  emptied = l.emptied || (has enabled 2 && not (has l.ier 2));
}

-- the FIFOs are on or off, and the bytes that wait are dropped where that is asked for
-- (FIFO Control Register)
abbrev pub controlled : Line → ℕ → Line
controlled l asked = record l {
  fifos = has asked 1;
  waiting = if has asked 2 then [] else l.waiting;
}

-- bytes come
abbrev pub received : Line → List ℕ → Line
received l bytes = record l { waiting = l.waiting ++ bytes }
