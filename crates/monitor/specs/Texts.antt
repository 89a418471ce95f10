-- The texts of answers.
use Rattle.std.specs.Prelude.{ℕ, ◌-◌, ◌^◌, false, List, [], ◌∷◌, ◌++◌, codes}
use Rattle.std.specs.Fmt.{decimal, digits, padded_integral, format_spec}
use Rattle.board.specs.Runs.{state_at}
use Rattle.reverse_seek.specs.Script.{Script}
use Rattle.monitor.specs.declared.command.LineError.{LineError}
use Rattle.monitor.specs.declared.command.LineError.TheVariants as error

-- so many lower-case hexadecimal digits
abbrev pub hexadecimal : ℕ → ℕ → List ℕ
hexadecimal width n =
    padded_integral (format_spec 32 0 4 width (2 ^ 64 - 1)) false [] (digits 16 false n)

-- the place and the program counter there
abbrev pub stands_text : ℕ → ℕ → List ℕ
stands_text place pc =
    codes "at " ++ decimal place ++ codes " pc " ++ hexadecimal 8 pc ++ codes "\n"

abbrev pub stands_at : Script → ℕ → List ℕ
stands_at s place = stands_text place (state_at s.start s.events place).hart.pc

-- a count above the last one
abbrev pub past_text : ℕ → ℕ → List ℕ
past_text asked last =
    codes "past the end: " ++ decimal asked ++ codes ", last " ++ decimal last ++ codes "\n"

-- a break that was set
abbrev pub break_text : ℕ → List ℕ
break_text n = codes "break " ++ decimal n ++ codes "\n"

-- the breaks, each after a space
abbrev pub breaks_text : List ℕ → List ℕ
breaks_text [] = []
breaks_text (b ∷ bs) = codes " " ++ decimal b ++ breaks_text bs

abbrev pub breaks_or_none : List ℕ → List ℕ
breaks_or_none [] = codes " none"
breaks_or_none (b ∷ bs) = breaks_text (b ∷ bs)

-- the place, the last count and the breaks
abbrev pub replay_text : ℕ → ℕ → List ℕ → List ℕ
replay_text place last breaks =
    codes "at " ++ decimal place ++ codes " of " ++ decimal last
    ++ codes ", breaks" ++ breaks_or_none breaks ++ codes "\n"

-- what is wrong with a line
abbrev pub error_text : LineError → List ℕ
error_text error.UnknownCommand = codes "unknown command\n"
error_text error.BadNumber = codes "bad number\n"
error_text error.TooLong = codes "line too long\n"
