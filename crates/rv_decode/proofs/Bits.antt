-- A word's bits under the mask of some fields are the fields at their places.
use Rattle.std.proofs.Common.{◌≡◌, ◌<◌, ℕ, ◌*◌, ◌+◌, ◌^◌, ◌/◌, ◌%◌, sym, ◌∙◌, ap, arith}
use Rattle.std.specs.Prelude.{bit_and}
use Rattle.std.proofs.lemmas.Nat.{and_mask, and_block, and_mod, and_le_r, shr_split, mod_below, pow_pos}
use Rattle.std.proofs.Math.Nat.{mod-eq_of_lt}
use Rattle.rv_decode.specs.Fields.{field}

-- a mask below 2 ^ k sees the low k bits
low_bits : (k n w : ℕ) → n < 2 ^ k → bit_and (w % 2 ^ k) n ≡ bit_and w n
low_bits k n w below =
    let inside : n % 2 ^ k ≡ n = mod-eq_of_lt below in
    let small : bit_and w n % 2 ^ k ≡ bit_and w n = mod-eq_of_lt (omega (arith, below, and_le_r w n)) in
    ap (λ x. bit_and (w % 2 ^ k) x) (sym inside) ∙ sym (and_mod w n k) ∙ small

-- a mask in two parts
parts : (k m n w : ℕ) → n < 2 ^ k → bit_and w (m * 2 ^ k + n) ≡ bit_and (w / 2 ^ k) m * 2 ^ k + bit_and w n
parts k m n w below =
    ap (λ x. bit_and x (m * 2 ^ k + n)) (sym (shr_split w k))
    ∙ and_block k (w / 2 ^ k) m (w % 2 ^ k) n (mod_below w (2 ^ k) (pow_pos k)) below
    ∙ ap (λ x. bit_and (w / 2 ^ k) m * 2 ^ k + x) (low_bits k n w below)

pub funct3_bits : (w : ℕ) → bit_and w 0x707f ≡ field w 12 3 * 2 ^ 12 + bit_and w 0x7f
funct3_bits w = parts 12 7 0x7f w (omega arith) ∙ ap (λ x. x * 2 ^ 12 + bit_and w 0x7f) (and_mask (w / 2 ^ 12) 3)

pub funct7_bits : (w : ℕ) → bit_and w 0xfe00707f ≡ field w 25 7 * 2 ^ 25 + bit_and w 0x707f
funct7_bits w = parts 25 0x7f 0x707f w (omega arith) ∙ ap (λ x. x * 2 ^ 25 + bit_and w 0x707f) (and_mask (w / 2 ^ 25) 7)

pub funct5_bits : (w : ℕ) → bit_and w 0xf800707f ≡ field w 27 5 * 2 ^ 27 + bit_and w 0x707f
funct5_bits w = parts 27 0x1f 0x707f w (omega arith) ∙ ap (λ x. x * 2 ^ 27 + bit_and w 0x707f) (and_mask (w / 2 ^ 27) 5)

pub funct5_rs2_bits : (w : ℕ) → bit_and w 0xf9f0707f ≡ field w 27 5 * 2 ^ 27 + (field w 20 5 * 2 ^ 20 + bit_and w 0x707f)
funct5_rs2_bits w =
    parts 27 0x1f 0x1f0707f w (omega arith)
    ∙ ap (λ x. bit_and (w / 2 ^ 27) 0x1f * 2 ^ 27 + x) (parts 20 0x1f 0x707f w (omega arith))
    ∙ ap (λ x. x * 2 ^ 27 + (bit_and (w / 2 ^ 20) 0x1f * 2 ^ 20 + bit_and w 0x707f)) (and_mask (w / 2 ^ 27) 5)
    ∙ ap (λ x. field w 27 5 * 2 ^ 27 + (x * 2 ^ 20 + bit_and w 0x707f)) (and_mask (w / 2 ^ 20) 5)
