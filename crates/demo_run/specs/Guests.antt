-- The guests of a demonstration.
use Rattle.std.specs.Prelude.{ℕ, ◌+◌, ◌*◌, ◌^◌, List, [], ◌∷◌}
use Rattle.std.specs.List.{flat_map}
use Rattle.byteorder.specs.Endian.{little_bytes}

-- The instructions of a guest that prints n letters and ends. Before each it counts from 1000 down
-- to 0, and each time multiplies a number by five and adds one; the number modulo 16 is the letter.
abbrev pub guest_words : ℕ → List ℕ
guest_words n =
    0x100002b7 ∷ (n * 2 ^ 20 + 0x413) ∷ 0x00100313
    ∷ 0x3e800493 ∷ 0x00231393 ∷ 0x00730333 ∷ 0x00130313 ∷ 0xfff48493 ∷ 0xfe0498e3
    ∷ 0x00f37393 ∷ 0x06138393 ∷ 0x00728023 ∷ 0xfff40413 ∷ 0xfc041ce3
    ∷ 0x001003b7 ∷ 0x00005337 ∷ 0x55530313 ∷ 0x0063a023 ∷ []

-- its bytes, those of each instruction lowest first
abbrev pub guest_bytes : ℕ → List ℕ
guest_bytes n = flat_map (little_bytes 4) (guest_words n)
