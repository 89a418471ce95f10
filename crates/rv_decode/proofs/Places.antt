-- A word of six places: opcode, rd, funct3, rs1, rs2 and funct7.
use Rattle.std.proofs.Common.{◌≡◌, ◌<◌, ℕ, ◌*◌, ◌+◌, ◌^◌, ◌/◌, ◌%◌, true, sym, ◌∙◌, ap, arith}
use Rattle.std.specs.Prelude.{bit_and}
use Rattle.std.proofs.lemmas.Nat.{and_mask}
use Rattle.std.proofs.lemmas.Bool.{eq-eqb}
use Rattle.rv_decode.specs.Table.{Row, fits}
use Rattle.rv_decode.specs.Fields.{field}
use Rattle.rv_decode.proofs.Bits.{funct3_bits, funct7_bits, funct5_bits, funct5_rs2_bits}

abbrev pub six : ℕ → ℕ → ℕ → ℕ → ℕ → ℕ → ℕ
six o d f a b g = o + d * 2 ^ 7 + f * 2 ^ 12 + a * 2 ^ 15 + b * 2 ^ 20 + g * 2 ^ 25

pub record HasPlaces (w o d f a b g : ℕ) : Type 0 where
  pub opcode : bit_and w 0x7f ≡ o
  pub rd : field w 7 5 ≡ d
  pub funct3 : field w 12 3 ≡ f
  pub rs1 : field w 15 5 ≡ a
  pub rs2 : field w 20 5 ≡ b
  pub funct7 : field w 25 7 ≡ g
  pub funct5 : field w 27 5 ≡ g / 4
  pub high12 : field w 20 12 ≡ b + g * 2 ^ 5
  pub high20 : field w 12 20 ≡ f + a * 2 ^ 3 + b * 2 ^ 8 + g * 2 ^ 13

opcode-of : (w o d f a b g : ℕ) → w ≡ six o d f a b g → o < 128 → w % 2 ^ 7 ≡ o
opcode-of w o d f a b g e ho = omega arith

rd-of : (w o d f a b g : ℕ) → w ≡ six o d f a b g → o < 128 → d < 32 → field w 7 5 ≡ d
rd-of w o d f a b g e ho hd = omega arith

funct3-of : (w o d f a b g : ℕ) → w ≡ six o d f a b g → o < 128 → d < 32 → f < 8 → field w 12 3 ≡ f
funct3-of w o d f a b g e ho hd hf = omega arith

rs1-of : (w o d f a b g : ℕ) → w ≡ six o d f a b g → o < 128 → d < 32 → f < 8 → a < 32 → field w 15 5 ≡ a
rs1-of w o d f a b g e ho hd hf ha = omega arith

rs2-of : (w o d f a b g : ℕ) → w ≡ six o d f a b g → o < 128 → d < 32 → f < 8 → a < 32 → b < 32 → field w 20 5 ≡ b
rs2-of w o d f a b g e ho hd hf ha hb = omega arith

funct7-of : (w o d f a b g : ℕ) → w ≡ six o d f a b g → o < 128 → d < 32 → f < 8 → a < 32 → b < 32 → g < 128 → field w 25 7 ≡ g
funct7-of w o d f a b g e ho hd hf ha hb hg = omega arith

funct5-of : (w o d f a b g : ℕ) → w ≡ six o d f a b g → o < 128 → d < 32 → f < 8 → a < 32 → b < 32 → g < 128 → field w 27 5 ≡ g / 4
funct5-of w o d f a b g e ho hd hf ha hb hg = omega arith

high12-of : (w o d f a b g : ℕ) → w ≡ six o d f a b g → o < 128 → d < 32 → f < 8 → a < 32 → b < 32 → g < 128 → field w 20 12 ≡ b + g * 2 ^ 5
high12-of w o d f a b g e ho hd hf ha hb hg = omega arith

high20-of : (w o d f a b g : ℕ) → w ≡ six o d f a b g → o < 128 → d < 32 → f < 8 → a < 32 → b < 32 → g < 128 → field w 12 20 ≡ f + a * 2 ^ 3 + b * 2 ^ 8 + g * 2 ^ 13
high20-of w o d f a b g e ho hd hf ha hb hg = omega arith

pub has-places : (w o d f a b g : ℕ) → w ≡ six o d f a b g → o < 128 → d < 32 → f < 8 → a < 32 → b < 32 → g < 128 → HasPlaces w o d f a b g
has-places w o d f a b g e ho hd hf ha hb hg = record {
  opcode = and_mask w 7 ∙ opcode-of w o d f a b g e ho;
  rd = rd-of w o d f a b g e ho hd;
  funct3 = funct3-of w o d f a b g e ho hd hf;
  rs1 = rs1-of w o d f a b g e ho hd hf ha;
  rs2 = rs2-of w o d f a b g e ho hd hf ha hb;
  funct7 = funct7-of w o d f a b g e ho hd hf ha hb hg;
  funct5 = funct5-of w o d f a b g e ho hd hf ha hb hg;
  high12 = high12-of w o d f a b g e ho hd hf ha hb hg;
  high20 = high20-of w o d f a b g e ho hd hf ha hb hg;
}

-- ---- a word fits a row by the fields under the row's mask

fit : (w m v : ℕ) (row : Row) → row.mask ≡ m → bit_and w m ≡ v → row.bits ≡ v → fits w row ≡ true
fit w m v row em ew ev = eq-eqb _ _ (ap (λ x. bit_and w x) em ∙ ew ∙ sym ev)

pub fit-opcode : (w o d f a b g : ℕ) (row : Row) → HasPlaces w o d f a b g → row.mask ≡ 0x7f → row.bits ≡ o → fits w row ≡ true
fit-opcode w o d f a b g row h em ev = fit w 0x7f o row em h.opcode ev

funct3-bits : (w o d f a b g : ℕ) → HasPlaces w o d f a b g → bit_and w 0x707f ≡ f * 2 ^ 12 + o
funct3-bits w o d f a b g h =
    funct3_bits w ∙ ap (λ x. x * 2 ^ 12 + bit_and w 0x7f) h.funct3 ∙ ap (λ x. f * 2 ^ 12 + x) h.opcode

pub fit-funct3 : (w o d f a b g : ℕ) (row : Row) → HasPlaces w o d f a b g → row.mask ≡ 0x707f → row.bits ≡ f * 2 ^ 12 + o → fits w row ≡ true
fit-funct3 w o d f a b g row h em ev = fit w 0x707f (f * 2 ^ 12 + o) row em (funct3-bits w o d f a b g h) ev

pub fit-funct7 : (w o d f a b g : ℕ) (row : Row) → HasPlaces w o d f a b g → row.mask ≡ 0xfe00707f → row.bits ≡ g * 2 ^ 25 + (f * 2 ^ 12 + o) → fits w row ≡ true
fit-funct7 w o d f a b g row h em ev =
    fit w 0xfe00707f (g * 2 ^ 25 + (f * 2 ^ 12 + o)) row em
    (funct7_bits w ∙ ap (λ x. x * 2 ^ 25 + bit_and w 0x707f) h.funct7 ∙ ap (λ x. g * 2 ^ 25 + x) (funct3-bits w o d f a b g h))
    ev

pub fit-funct5 : (w o d f a b g : ℕ) (row : Row) → HasPlaces w o d f a b g → row.mask ≡ 0xf800707f → row.bits ≡ g / 4 * 2 ^ 27 + (f * 2 ^ 12 + o) → fits w row ≡ true
fit-funct5 w o d f a b g row h em ev =
    fit w 0xf800707f (g / 4 * 2 ^ 27 + (f * 2 ^ 12 + o)) row em
    (funct5_bits w ∙ ap (λ x. x * 2 ^ 27 + bit_and w 0x707f) h.funct5 ∙ ap (λ x. g / 4 * 2 ^ 27 + x) (funct3-bits w o d f a b g h))
    ev

pub fit-reserve : (w o d f a b g : ℕ) (row : Row) → HasPlaces w o d f a b g → row.mask ≡ 0xf9f0707f → row.bits ≡ g / 4 * 2 ^ 27 + (b * 2 ^ 20 + (f * 2 ^ 12 + o)) → fits w row ≡ true
fit-reserve w o d f a b g row h em ev =
    fit w 0xf9f0707f (g / 4 * 2 ^ 27 + (b * 2 ^ 20 + (f * 2 ^ 12 + o))) row em
    (funct5_rs2_bits w
    ∙ ap (λ x. x * 2 ^ 27 + (field w 20 5 * 2 ^ 20 + bit_and w 0x707f)) h.funct5
    ∙ ap (λ x. g / 4 * 2 ^ 27 + (x * 2 ^ 20 + bit_and w 0x707f)) h.rs2
    ∙ ap (λ x. g / 4 * 2 ^ 27 + (b * 2 ^ 20 + x)) (funct3-bits w o d f a b g h))
    ev
