-- What an opcode's operations say of the word's instruction.
use Rattle.std.proofs.Common.{◌≤◌, ◌≡◌, ◌≢◌, ◌<◌, ℕ, ◌*◌, ◌+◌, ◌^◌, Option, None, Some, refl, sym, ◌∙◌, ap, inl, inr, ◌⊎◌, arith, ◌%◌}
use Rattle.std.specs.Prelude.{bit_and, filter}
use Rattle.std.specs.Option.{option_map, option_or}
use Rattle.std.proofs.lemmas.Nat.{and_mask}
use Rattle.std.proofs.Math.Nat.{mod-eq_of_lt}
use Rattle.rv_decode.specs.declared.op.Op.{Op}
use Rattle.rv_decode.specs.declared.format.Format.{Format}
use Rattle.rv_decode.specs.Table.{Row, row_of, table, opcode_rows, funct3_rows, funct7_rows, whole_rows, reserve_rows, atomic_rows}
use Rattle.rv_decode.specs.Fields.{decoded, field, fields}
use Rattle.rv_decode.specs.Keys.{keyed, meaning, of_format}
use Rattle.rv_decode.proofs.Bits.{funct3_bits, funct7_bits, funct5_bits, funct5_rs2_bits}
use Rattle.rv_decode.proofs.Narrow.{agrees, in_group, in_two}

with_fields : (w : ℕ) (format : Format) (op : Option Op) → option_map (λ op. fields op format w) op ≡ option_map (λ (p : Op × Format). fields p.0 p.1 w) (of_format format op)
with_fields w format None = refl
with_fields w format (Some op) = refl

of_row : (w : ℕ) (row : Option Row) → option_map (λ (p : Op × Format). fields p.0 p.1 w) (meaning row) ≡ option_map (λ row. fields row.op row.format w) row
of_row w None = refl
of_row w (Some row) = refl

below_8 : (n : ℕ) → n < 8 → (n ≡ 0) ⊎ ((n ≡ 1) ⊎ ((n ≡ 2) ⊎ ((n ≡ 3) ⊎ ((n ≡ 4) ⊎ ((n ≡ 5) ⊎ ((n ≡ 6) ⊎ (n ≡ 7)))))))
below_8 n h = grind arith

-- the fields of the word's row are the word's instruction
pub as_decoded : (w : ℕ) (format : Format) (op : Option Op) → of_format format op ≡ meaning (row_of w) → option_map (λ op. fields op format w) op ≡ decoded w
unfolding decoded
as_decoded w format op h =
    with_fields w format op
    ∙ ap (λ x. option_map (λ (p : Op × Format). fields p.0 p.1 w) x) h
    ∙ of_row w (row_of w)

-- an opcode and funct3, as bits
funct3_key : (w funct3 v : ℕ) → funct3 ≡ field w 12 3 → bit_and w 0x7f ≡ v → funct3 * 2 ^ 12 + v ≡ bit_and w 0x707f
funct3_key w funct3 v at3 e =
    ap (λ x. x * 2 ^ 12 + v) at3
    ∙ ap (λ x. field w 12 3 * 2 ^ 12 + x) (sym e)
    ∙ sym (funct3_bits w)

-- with funct7
funct7_key : (w funct7 low : ℕ) → funct7 ≡ field w 25 7 → low ≡ bit_and w 0x707f → funct7 * 2 ^ 25 + low ≡ bit_and w 0xfe00707f
funct7_key w funct7 low at7 e = ap (λ x. x * 2 ^ 25 + low) at7 ∙ ap (λ x. field w 25 7 * 2 ^ 25 + x) e ∙ sym (funct7_bits w)

-- with funct5
funct5_key : (w funct5 low : ℕ) → funct5 ≡ field w 27 5 → low ≡ bit_and w 0x707f → funct5 * 2 ^ 27 + low ≡ bit_and w 0xf800707f
funct5_key w funct5 low at5 e = ap (λ x. x * 2 ^ 27 + low) at5 ∙ ap (λ x. field w 27 5 * 2 ^ 27 + x) e ∙ sym (funct5_bits w)

-- with funct5 and rs2
funct5_rs2_key : (w funct5 rs2 low : ℕ) → funct5 ≡ field w 27 5 → rs2 ≡ field w 20 5 → low ≡ bit_and w 0x707f
    → funct5 * 2 ^ 27 + (rs2 * 2 ^ 20 + low) ≡ bit_and w 0xf9f0707f
funct5_rs2_key w funct5 rs2 low at5 at2 e =
    ap (λ x. x * 2 ^ 27 + (rs2 * 2 ^ 20 + low)) at5
    ∙ ap (λ x. field w 27 5 * 2 ^ 27 + (x * 2 ^ 20 + low)) at2
    ∙ ap (λ x. field w 27 5 * 2 ^ 27 + (field w 20 5 * 2 ^ 20 + x)) e
    ∙ sym (funct5_rs2_bits w)

-- an opcode that is an instruction
pub by_opcode : (w v : ℕ) → bit_and w 0x7f ≡ v → filter (agrees 0x7f v) opcode_rows ≡ filter (agrees 0x7f v) table
    → keyed opcode_rows v ≡ meaning (row_of w)
by_opcode w v e same = ap (λ x. keyed opcode_rows x) (sym e) ∙ in_group w 0x7f v 0x7f opcode_rows e refl same

-- an opcode whose instructions differ in funct3
pub by_funct3 : (w funct3 v : ℕ) → funct3 ≡ field w 12 3 → bit_and w 0x7f ≡ v
    → filter (agrees 0x7f v) funct3_rows ≡ filter (agrees 0x7f v) table
    → keyed funct3_rows (funct3 * 2 ^ 12 + v) ≡ meaning (row_of w)
by_funct3 w funct3 v at3 e same =
    ap (λ x. keyed funct3_rows x) (funct3_key w funct3 v at3 e)
    ∙ in_group w 0x7f v 0x707f funct3_rows e refl same

-- an opcode whose instructions of one funct3 have no other fields to tell them apart
by_this_funct3 : (w funct3 v n : ℕ) → funct3 ≡ field w 12 3 → bit_and w 0x7f ≡ v → funct3 ≡ n
    → filter (agrees 0x707f (n * 2 ^ 12 + v)) funct3_rows ≡ filter (agrees 0x707f (n * 2 ^ 12 + v)) table
    → keyed funct3_rows (funct3 * 2 ^ 12 + v) ≡ meaning (row_of w)
by_this_funct3 w funct3 v n at3 e is same =
    let key = funct3_key w funct3 v at3 e in
    ap (λ x. keyed funct3_rows x) key
    ∙ in_group w 0x707f (n * 2 ^ 12 + v) 0x707f funct3_rows (sym key ∙ ap (λ x. x * 2 ^ 12 + v) is) refl same

-- an opcode whose instructions differ in funct7
pub by_funct7 : (w funct7 funct3 v : ℕ) → funct7 ≡ field w 25 7 → funct3 ≡ field w 12 3 → bit_and w 0x7f ≡ v
    → filter (agrees 0x7f v) funct7_rows ≡ filter (agrees 0x7f v) table
    → keyed funct7_rows (funct7 * 2 ^ 25 + (funct3 * 2 ^ 12 + v)) ≡ meaning (row_of w)
by_funct7 w funct7 funct3 v at7 at3 e same =
    ap (λ x. keyed funct7_rows x) (funct7_key w funct7 (funct3 * 2 ^ 12 + v) at7 (funct3_key w funct3 v at3 e))
    ∙ in_group w 0x7f v 0xfe00707f funct7_rows e refl same

-- an opcode whose instructions of one funct3 differ in funct7
by_this_funct7 : (w funct7 funct3 v n : ℕ) → funct7 ≡ field w 25 7 → funct3 ≡ field w 12 3 → bit_and w 0x7f ≡ v → funct3 ≡ n
    → filter (agrees 0x707f (n * 2 ^ 12 + v)) funct7_rows ≡ filter (agrees 0x707f (n * 2 ^ 12 + v)) table
    → keyed funct7_rows (funct7 * 2 ^ 25 + (funct3 * 2 ^ 12 + v)) ≡ meaning (row_of w)
by_this_funct7 w funct7 funct3 v n at7 at3 e is same =
    let key = funct3_key w funct3 v at3 e in
    ap (λ x. keyed funct7_rows x) (funct7_key w funct7 (funct3 * 2 ^ 12 + v) at7 key)
    ∙ in_group w 0x707f (n * 2 ^ 12 + v) 0xfe00707f funct7_rows (sym key ∙ ap (λ x. x * 2 ^ 12 + v) is) refl same

-- SYSTEM with funct3 0
pub by_whole : (w funct3 : ℕ) → w < 2 ^ 32 → funct3 ≡ field w 12 3 → bit_and w 0x7f ≡ 0x73 → funct3 ≡ 0 → keyed whole_rows w ≡ meaning (row_of w)
by_whole w funct3 small at3 e is =
    let whole : w ≡ bit_and w 0xffffffff = sym (and_mask w 32 ∙ mod-eq_of_lt small) in
    ap (λ x. keyed whole_rows x) whole
    ∙ in_group w 0x707f 0x73 0xffffffff whole_rows (sym (funct3_key w funct3 0x73 at3 e) ∙ ap (λ x. x * 2 ^ 12 + 0x73) is) refl refl

-- AMO
pub by_funct5 : (w funct5 rs2 funct3 : ℕ) → funct5 ≡ field w 27 5 → rs2 ≡ field w 20 5 → funct3 ≡ field w 12 3 → bit_and w 0x7f ≡ 0x2f
    → option_or (keyed reserve_rows (funct5 * 2 ^ 27 + (rs2 * 2 ^ 20 + (funct3 * 2 ^ 12 + 0x2f)))) (keyed atomic_rows (funct5 * 2 ^ 27 + (funct3 * 2 ^ 12 + 0x2f)))
    ≡ meaning (row_of w)
by_funct5 w funct5 rs2 funct3 at5 at2 at3 e =
    let low = funct3_key w funct3 0x2f at3 e in
    ap (λ x. option_or (keyed reserve_rows x) (keyed atomic_rows (funct5 * 2 ^ 27 + (funct3 * 2 ^ 12 + 0x2f)))) (funct5_rs2_key w funct5 rs2 (funct3 * 2 ^ 12 + 0x2f) at5 at2 low)
    ∙ ap (λ x. option_or (keyed reserve_rows (bit_and w 0xf9f0707f)) (keyed atomic_rows x)) (funct5_key w funct5 (funct3 * 2 ^ 12 + 0x2f) at5 low)
    ∙ in_two w 0x7f 0x2f 0xf9f0707f 0xf800707f reserve_rows atomic_rows e refl refl refl

one_or_five : (n : ℕ) → n < 8 → n % 4 ≡ 1 → (n ≡ 1) ⊎ (n ≡ 5)
one_or_five n below odd = grind arith

-- the shifts of OP-IMM
pub shifts : (w funct7 funct3 : ℕ) → funct7 ≡ field w 25 7 → funct3 ≡ field w 12 3 → bit_and w 0x7f ≡ 0x13 → funct3 < 8 → funct3 % 4 ≡ 1
    → keyed funct7_rows (funct7 * 2 ^ 25 + (funct3 * 2 ^ 12 + 0x13)) ≡ meaning (row_of w)
shifts w funct7 funct3 at7 at3 e below shift = elim (one_or_five funct3 below shift) [
  | inl is ↦ by_this_funct7 w funct7 funct3 0x13 1 at7 at3 e is refl
  | inr is ↦ by_this_funct7 w funct7 funct3 0x13 5 at7 at3 e is refl
]

-- OP-IMM but for the shifts
pub op_imm : (w funct3 : ℕ) → funct3 ≡ field w 12 3 → bit_and w 0x7f ≡ 0x13 → funct3 < 8 → funct3 % 4 ≢ 1
    → keyed funct3_rows (funct3 * 2 ^ 12 + 0x13) ≡ meaning (row_of w)
op_imm w funct3 at3 e below other = elim (below_8 funct3 below) [
  | inl is ↦ by_this_funct3 w funct3 0x13 0 at3 e is refl
  | inr r ↦ elim r [
    | inl is ↦ absurd (other (ap (λ x. x % 4) is))
    | inr r ↦ elim r [
      | inl is ↦ by_this_funct3 w funct3 0x13 2 at3 e is refl
      | inr r ↦ elim r [
        | inl is ↦ by_this_funct3 w funct3 0x13 3 at3 e is refl
        | inr r ↦ elim r [
          | inl is ↦ by_this_funct3 w funct3 0x13 4 at3 e is refl
          | inr r ↦ elim r [
            | inl is ↦ absurd (other (ap (λ x. x % 4) is))
            | inr r ↦ elim r [
              | inl is ↦ by_this_funct3 w funct3 0x13 6 at3 e is refl
              | inr is ↦ by_this_funct3 w funct3 0x13 7 at3 e is refl
            ]
          ]
        ]
      ]
    ]
  ]
]

below_4 : (n : ℕ) → n < 4 → (n ≡ 0) ⊎ ((n ≡ 1) ⊎ ((n ≡ 2) ⊎ (n ≡ 3)))
below_4 n h = grind arith

-- SYSTEM with a funct3 for registers
pub csr_registers : (w funct3 : ℕ) → funct3 ≡ field w 12 3 → bit_and w 0x7f ≡ 0x73 → funct3 < 4 → funct3 ≢ 0
    → keyed funct3_rows (funct3 * 2 ^ 12 + 0x73) ≡ meaning (row_of w)
csr_registers w funct3 at3 e below not0 = elim (below_4 funct3 below) [
  | inl is ↦ absurd (not0 is)
  | inr r ↦ elim r [
    | inl is ↦ by_this_funct3 w funct3 0x73 1 at3 e is refl
    | inr r ↦ elim r [
      | inl is ↦ by_this_funct3 w funct3 0x73 2 at3 e is refl
      | inr is ↦ by_this_funct3 w funct3 0x73 3 at3 e is refl
    ]
  ]
]

four_to_seven : (n : ℕ) → n < 8 → 4 ≤ n → (n ≡ 4) ⊎ ((n ≡ 5) ⊎ ((n ≡ 6) ⊎ (n ≡ 7)))
four_to_seven n h k = grind arith

-- SYSTEM with a funct3 for immediates
pub csr_immediates : (w funct3 : ℕ) → funct3 ≡ field w 12 3 → bit_and w 0x7f ≡ 0x73 → funct3 < 8 → 4 ≤ funct3
    → keyed funct3_rows (funct3 * 2 ^ 12 + 0x73) ≡ meaning (row_of w)
csr_immediates w funct3 at3 e below over = elim (four_to_seven funct3 below over) [
  | inl is ↦ by_this_funct3 w funct3 0x73 4 at3 e is refl
  | inr r ↦ elim r [
    | inl is ↦ by_this_funct3 w funct3 0x73 5 at3 e is refl
    | inr r ↦ elim r [
      | inl is ↦ by_this_funct3 w funct3 0x73 6 at3 e is refl
      | inr is ↦ by_this_funct3 w funct3 0x73 7 at3 e is refl
    ]
  ]
]
