-- The kinds of fields.
use Rattle.std.specs.Prelude.{ℕ, Bool, true, List}
use Rattle.std.specs.Int.{w8, w32, w64, from_be_bytes}
use Rattle.event_log.specs.Grammar.{Format, field}

-- a number, most significant byte first
abbrev pub u8 : {R X : Type 0} → (ℕ → Bool) → R → (ℕ → Format R X) → Format R X
u8 test rule next =
    field 1 (λ f. test (from_be_bytes w8 f)) rule (λ f. next (from_be_bytes w8 f))

abbrev pub u32 : {R X : Type 0} → (ℕ → Bool) → R → (ℕ → Format R X) → Format R X
u32 test rule next =
    field 4 (λ f. test (from_be_bytes w32 f)) rule (λ f. next (from_be_bytes w32 f))

abbrev pub u64 : {R X : Type 0} → (ℕ → Bool) → R → (ℕ → Format R X) → Format R X
u64 test rule next =
    field 8 (λ f. test (from_be_bytes w64 f)) rule (λ f. next (from_be_bytes w64 f))

-- so many bytes, of which any will do
abbrev pub plain : {R X : Type 0} → ℕ → R → (List ℕ → Format R X) → Format R X
plain count rule next = field count (λ f. true) rule next
