-- The arithmetic of the instructions, on words as numbers below 2 ^ 32 and on their signed values
-- (Unprivileged ISA, 2.4 Integer Computational Instructions, and chapter 7 on M).
use Rattle.std.specs.Prelude.{ℕ, Bool, ◌+◌, ◌-◌, ◌*◌, ◌/◌, ◌%◌, ◌^◌, ◌==◌, ℤ, pos, ◌*ℤ◌, if◌then◌else◌}
use Rattle.std.specs.Int.{w8, w16, w32, cast_signed, cast_unsigned, int_shr, int_min, int_max}
use Rattle.std.specs.Int.RustNames.{int_div, int_rem, int_lt}

-- the signed value of a word, and the word of a number from -2 ^ 31 to 2 ^ 31
abbrev pub signed : ℕ → ℤ
signed n = cast_signed w32 n

abbrev pub word : ℤ → ℕ
word z = cast_unsigned w32 z

-- sums and differences are modulo 2 ^ 32 (2.4)
abbrev pub sum : ℕ → ℕ → ℕ
sum a b = (a + b) % 2 ^ 32

abbrev pub difference : ℕ → ℕ → ℕ
difference a b = (a + (2 ^ 32 - b)) % 2 ^ 32

-- 1 where b holds, and else 0
abbrev pub one_if : Bool → ℕ
one_if b = if b then 1 else 0

-- a is below b as signed values
abbrev pub is_less_signed : ℕ → ℕ → Bool
is_less_signed a b = int_lt (signed a) (signed b)

-- shifts go by the low 5 bits of k (2.4)
abbrev pub shift_left : ℕ → ℕ → ℕ
shift_left a k = a * 2 ^ (k % 32) % 2 ^ 32

abbrev pub shift_right : ℕ → ℕ → ℕ
shift_right a k = a / 2 ^ (k % 32)

-- the signed value divided by a power of two, rounded down
abbrev pub shift_right_signed : ℕ → ℕ → ℕ
shift_right_signed a k = word (int_shr (signed a) (k % 32))

-- the low word of a product, and the high word of each kind (7.1 Multiplication Operations)
abbrev pub product_low : ℕ → ℕ → ℕ
product_low a b = a * b % 2 ^ 32

abbrev pub high_half : ℤ → ℕ
high_half z = word (int_shr z 32)

abbrev pub product_high : ℕ → ℕ → ℕ
product_high a b = high_half (signed a *ℤ signed b)

abbrev pub product_high_mixed : ℕ → ℕ → ℕ
product_high_mixed a b = high_half (signed a *ℤ pos b)

abbrev pub product_high_unsigned : ℕ → ℕ → ℕ
product_high_unsigned a b = a * b / 2 ^ 32

-- quotients are rounded to zero, and a quotient by 0 is all ones (7.2 Division Operations)
abbrev pub quotient : ℕ → ℕ → ℕ
quotient a b = if b == 0 then 2 ^ 32 - 1 else word (int_div (signed a) (signed b))

abbrev pub quotient_unsigned : ℕ → ℕ → ℕ
quotient_unsigned a b = if b == 0 then 2 ^ 32 - 1 else a / b

-- a remainder by 0 is the dividend (7.2)
abbrev pub remainder : ℕ → ℕ → ℕ
remainder a b = if b == 0 then a else word (int_rem (signed a) (signed b))

abbrev pub remainder_unsigned : ℕ → ℕ → ℕ
remainder_unsigned a b = if b == 0 then a else a % b

-- the word with the signed value of a byte and of two bytes
abbrev pub extend_byte : ℕ → ℕ
extend_byte n = word (cast_signed w8 n)

abbrev pub extend_half : ℕ → ℕ
extend_half n = word (cast_signed w16 n)

-- the smaller and the greater signed value
abbrev pub min_signed : ℕ → ℕ → ℕ
min_signed a b = word (int_min (signed a) (signed b))

abbrev pub max_signed : ℕ → ℕ → ℕ
max_signed a b = word (int_max (signed a) (signed b))

-- n with its bit 0 cleared
abbrev pub without_bit_zero : ℕ → ℕ
without_bit_zero n = n / 2 * 2
