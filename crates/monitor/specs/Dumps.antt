-- Bytes of RAM as text.
use Rattle.std.specs.Prelude.{ℕ, zero, suc, ◌+◌, ◌%◌, ◌^◌, List, [], ◌++◌, codes, Some, None}
use Rattle.std.specs.declared.option.Option.{Option}
use Rattle.board.specs.State.{State}
use Rattle.board.specs.Answers.{peeked}
use Rattle.monitor.specs.Texts.{hexadecimal}

-- a byte after a space
abbrev pub byte_text : ℕ → List ℕ
byte_text b = codes " " ++ hexadecimal 2 b

-- a text before another, where there is one
abbrev pub before : List ℕ → Option (List ℕ) → Option (List ℕ)
before text None = None
before text (Some rest) = Some (text ++ rest)

abbrev pub then_bytes : Option ℕ → Option (List ℕ) → Option (List ℕ)
then_bytes None rest = None
then_bytes (Some b) rest = before (byte_text b) rest

-- so many bytes from an address on, or none where one isn't in RAM
abbrev pub bytes_text : List ℕ → ℕ → ℕ → Option (List ℕ)
bytes_text ram at zero = Some []
bytes_text ram at (suc n) = then_bytes (peeked ram (at % 2 ^ 32)) (bytes_text ram (at + 1) n)

-- an address, and the bytes from there on
abbrev pub dump_line : ℕ → Option (List ℕ) → List ℕ
dump_line at None = codes "outside\n"
dump_line at (Some text) = hexadecimal 8 at ++ codes ":" ++ text ++ codes "\n"

-- the answer to a dump
abbrev pub dump_text : State → ℕ → ℕ → List ℕ
dump_text g at len = dump_line at (bytes_text g.devices.ram at len)
