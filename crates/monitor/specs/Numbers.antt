-- Numbers as they are written in a line.
use Rattle.std.specs.Prelude.{ℕ, ◌+◌, ◌-◌, ◌*◌, ◌^◌, Bool, true, false, ◌&&◌, not, ◌==◌, nat_le, nat_lt, length, List, [], ◌∷◌, Some, None, if◌then◌else◌}
use Rattle.std.specs.declared.option.Option.{Option}

-- the digit that a byte stands for, in decimal and in lower-case hexadecimal
abbrev pub decimal_digit : ℕ → Option ℕ
decimal_digit b = if nat_le 48 b && nat_le b 57 then Some (b - 48) else None

abbrev pub hex_digit : ℕ → Option ℕ
hex_digit b =
    if nat_le 48 b && nat_le b 57 then Some (b - 48)
    else if nat_le 97 b && nat_le b 102 then Some (b - 87)
    else None

-- the greatest number
abbrev pub greatest : ℕ
greatest = 2 ^ 40

-- one digit more after a value, as long as the number isn't above the greatest
abbrev pub with_digit : ℕ → ℕ → Option ℕ → (ℕ → Option ℕ) → Option ℕ
with_digit base value None next = None
with_digit base value (Some d) next =
    if nat_le (value * base + d) greatest then next (value * base + d) else None

-- the number that these digits give after a value
abbrev pub decimal_from : ℕ → List ℕ → Option ℕ
decimal_from value [] = Some value
decimal_from value (b ∷ bs) = with_digit 10 value (decimal_digit b) (λ more. decimal_from more bs)

abbrev pub hex_from : ℕ → List ℕ → Option ℕ
hex_from value [] = Some value
hex_from value (b ∷ bs) = with_digit 16 value (hex_digit b) (λ more. hex_from more bs)

-- no leading zero, unless the number is `0`
abbrev pub starts_well : List ℕ → Bool
starts_well [] = false
starts_well (b ∷ []) = true
starts_well (b ∷ c ∷ bs) = not (b == 48)

-- decimal digits, at most the greatest number
abbrev pub number_of : List ℕ → Option ℕ
number_of bs = if starts_well bs then decimal_from 0 bs else None

-- a number of 32 bits
abbrev pub word_of : Option ℕ → Option ℕ
word_of None = None
word_of (Some n) = if nat_lt n (2 ^ 32) then Some n else None

-- eight lower-case hexadecimal digits
abbrev pub address_of : List ℕ → Option ℕ
address_of bs = if length bs == 8 then word_of (hex_from 0 bs) else None
