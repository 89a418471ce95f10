-- A number on the command line.
use Rattle.std.specs.Prelude.{ℕ, Bool, true, false, not, ◌&&◌, ◌==◌, nat_le, List, [], ◌∷◌, Some, None, if◌then◌else◌}
use Rattle.std.specs.declared.option.Option.{Option}
use Rattle.std.specs.List.{list_all}
use Rattle.std.specs.Char.{is_ascii_digit}
use Rattle.std.specs.Str.Parse.{digits_value}

-- there is a first character, and it isn't `0` unless it is the only one
abbrev pub starts_well : List ℕ → Bool
starts_well [] = false
starts_well (c ∷ []) = true
starts_well (c ∷ d ∷ cs) = not (c == 48)

-- decimal digits without sign, and without a leading zero unless it is `0`
abbrev pub is_number : List ℕ → Bool
is_number bs = list_all is_ascii_digit bs && starts_well bs

-- the number from least to most that the characters are
abbrev pub number_in : ℕ → ℕ → List ℕ → Option ℕ
number_in least most bs = let n = digits_value 10 bs in
    if is_number bs && (nat_le least n && nat_le n most) then Some n else None
