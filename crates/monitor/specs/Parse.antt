-- What a line asks for.
use Rattle.std.specs.Prelude.{ℕ, Bool, ◌&&◌, nat_le, nat_lt, length, List, Some, None, Result, Ok, Err, codes, if◌then◌else◌}
use Rattle.std.specs.declared.option.Option.{Option}
use Rattle.std.specs.Str.{bytes_eq}
use Rattle.monitor.specs.declared.command.Command.{Command}
use Rattle.monitor.specs.declared.command.Command.TheVariants as command
use Rattle.monitor.specs.declared.command.LineError.{LineError}
use Rattle.monitor.specs.declared.command.LineError.TheVariants as error
use Rattle.monitor.specs.Words.{split, only}
use Rattle.monitor.specs.Numbers.{number_of, address_of}

-- a command of one word
abbrev pub plain : List ℕ → Result Command LineError
plain name =
    if bytes_eq name (codes "replay_delete_break") then Ok command.DeleteBreak
    else if bytes_eq name (codes "reverse-step") then Ok command.StepBack
    else if bytes_eq name (codes "reverse-continue") then Ok command.RunBack
    else if bytes_eq name (codes "step") then Ok command.StepOn
    else if bytes_eq name (codes "continue") then Ok command.RunOn
    else if bytes_eq name (codes "quit") then Ok command.Quit
    else Err error.UnknownCommand

-- what `info` is asked for
abbrev pub info : List ℕ → Result Command LineError
info what =
    if bytes_eq what (codes "replay") then Ok command.InfoReplay
    else if bytes_eq what (codes "registers") then Ok command.InfoRegisters
    else Err error.UnknownCommand

-- a number, and no more words
abbrev pub numbered : Option ℕ → (ℕ → Command) → Result Command LineError
numbered None make = Err error.BadNumber
numbered (Some n) make = Ok (make n)

abbrev pub one_number : Option (List ℕ) → (ℕ → Command) → Result Command LineError
one_number None make = Err error.UnknownCommand
one_number (Some word) make = numbered (number_of word) make

-- an address and a length from 1 to 64
abbrev pub in_range : ℕ → Bool
in_range len = nat_le 1 len && nat_le len 64

abbrev pub ranged : Option ℕ → Option ℕ → Result Command LineError
ranged (Some at) (Some len) = if in_range len then Ok (command.Dump at len) else Err error.BadNumber
ranged _ _ = Err error.BadNumber

-- an address and a length, and no more words
abbrev pub dump_length : List ℕ → Option (List ℕ) → Result Command LineError
dump_length at None = Err error.UnknownCommand
dump_length at (Some len) = ranged (address_of at) (number_of len)

abbrev pub dump : List ℕ × Option (List ℕ) → Result Command LineError
dump (at, None) = Err error.UnknownCommand
dump (at, Some rest) = dump_length at (only (split rest))

-- a command with words after its name
abbrev pub with_words : List ℕ → List ℕ → Result Command LineError
with_words name rest =
    if bytes_eq name (codes "info") then info rest
    else if bytes_eq name (codes "replay_break") then one_number (only (split rest)) command.Break
    else if bytes_eq name (codes "replay_seek") then one_number (only (split rest)) command.Seek
    else if bytes_eq name (codes "x") then dump (split rest)
    else Err error.UnknownCommand

-- a line that isn't empty, by its words
abbrev pub by_words : List ℕ × Option (List ℕ) → Result Command LineError
by_words (name, None) = plain name
by_words (name, Some rest) = with_words name rest

-- what a line asks for; one of more than 256 bytes isn't read, and an empty one asks for nothing
unfoldable pub parsed : List ℕ → Result Command LineError
parsed line =
    if nat_lt 256 (length line) then Err error.TooLong
    else if nat_le (length line) 0 then Ok command.Blank
    else by_words (split line)
