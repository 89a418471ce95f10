-- How many bytes a format takes at most, and what more bytes change.
use Rattle.std.proofs.Common.{◌≡◌, ℕ, zero, suc, ◌<◌, ◌≤◌, ◌-◌, true, List, ◌++◌, length, ap, ◌∙◌, inl, inr, arith, append_assoc, length-append}
use Rattle.std.specs.Prelude.{nat_le, ⊤}
use Rattle.std.specs.Int.{w32, from_be_bytes}
use Rattle.std.proofs.lemmas.Bool.{leb-true, and_parts}
use Rattle.event_log.specs.Grammar.{Format, done, field, Stops, Cut, Bad}
use Rattle.event_log.specs.Spelling.{instruction, char_read, block, net, from_outside, clock, checkpoint, end, by_id, event}
use Rattle.event_log.specs.HeaderFormat.{header, settings}
use Rattle.event_log.proofs.Spells.{by_kind}

-- the fields have at most n bytes in all
abbrev pub AtMost : {R X : Type 0} → Format R X → ℕ → Type 0
AtMost (done x) n = ⊤
AtMost (field width in_range rule next) n = (width ≤ n) × ((f : List ℕ) → length f ≡ width → in_range f ≡ true → AtMost (next f) (n - width))

-- what is cut is shorter than that
pub cut_short : {R X : Type 0} (format : Format R X) (n : ℕ) (bytes : List ℕ) → AtMost format n → Stops format bytes Cut → length bytes < n
cut_short (done x) n bytes most s = absurd s
cut_short (field width in_range rule next) n bytes most (inl (short, is)) = omega (arith, short, most.0)
cut_short (field width in_range rule next) n bytes most (inr (f, more, size, split, inl (wrong, is))) = cc
cut_short (field width in_range rule next) n bytes most (inr (f, more, size, split, inr (good, s))) =
    let rest : length more < n - width = cut_short (next f) (n - width) more (most.1 f size good) s in
    omega (arith, most.0, size, rest, ap length split, length-append f more)

-- a field out of range is so whatever follows
pub bad_longer : {R X : Type 0} (format : Format R X) (bytes more : List ℕ) (rule : R) → Stops format bytes (Bad rule) → Stops format (bytes ++ more) (Bad rule)
bad_longer (done x) bytes more rule s = absurd s
bad_longer (field width in_range name next) bytes more rule (inl (short, is)) = cc
bad_longer (field width in_range name next) bytes more rule (inr (f, tail, size, split, inl (wrong, is))) =
    inr (f, tail ++ more, size, ap (λ z. z ++ more) split ∙ append_assoc f tail more, inl (wrong, is))
bad_longer (field width in_range name next) bytes more rule (inr (f, tail, size, split, inr (good, s))) =
    inr (f, tail ++ more, size, ap (λ z. z ++ more) split ∙ append_assoc f tail more, inr (good, bad_longer (next f) tail more rule s))

pub header_width : AtMost header 98
unfolding header settings
header_width = (
  omega arith,
  λ _ _ _. (
    omega arith,
    λ _ _ _. (
      omega arith,
      λ _ _ _. (
        omega arith,
        λ _ _ _. (
          omega arith,
          λ _ _ _. (
            omega arith,
            λ _ _ _. (omega arith, λ _ _ _. (omega arith, λ _ _ _. (omega arith, λ _ _ _. tt))),
          ),
        ),
      ),
    ),
  ),
)

char_read_width : AtMost char_read 1523
unfolding char_read
char_read_width = (omega arith, λ _ _ _. (omega arith, λ f _ good. (omega (arith, leb-true _ _ (and_parts (nat_le 1 (from_be_bytes w32 f)) (nat_le (from_be_bytes w32 f) 256) good).1), λ _ _ _. tt)))

block_width : AtMost block 1523
unfolding block
block_width = (omega arith, λ _ _ _. (omega arith, λ _ _ _. tt))

net_width : AtMost net 1523
unfolding net
net_width = (omega arith, λ _ _ _. (omega arith, λ _ _ _. (omega arith, λ f _ good. (omega (arith, leb-true _ _ (and_parts (nat_le 14 (from_be_bytes w32 f)) (nat_le (from_be_bytes w32 f) 1514) good).1), λ _ _ _. tt))))

kind_width : (kind : ℕ) → nat_le kind 2 ≡ true → AtMost (by_kind kind) 1523
kind_width zero h = char_read_width
kind_width (suc zero) h = block_width
kind_width (suc (suc zero)) h = net_width
kind_width (suc (suc (suc k))) h = absurd (omega (arith, leb-true (suc (suc (suc k))) 2 h))

outside_width : AtMost from_outside 1524
unfolding from_outside
outside_width = (omega arith, λ f _ good. kind_width _ good)

instruction_width : AtMost instruction 1524
unfolding instruction
instruction_width = (omega arith, λ _ _ _. tt)

clock_width : AtMost clock 1524
unfolding clock
clock_width = (omega arith, λ _ _ _. (omega arith, λ _ _ _. tt))

checkpoint_width : AtMost checkpoint 1524
unfolding checkpoint
checkpoint_width = (omega arith, λ _ _ _. tt)

end_width : AtMost end 1524
unfolding end
end_width = (omega arith, λ _ _ _. (omega arith, λ _ _ _. tt))

id_width : (id : ℕ) → nat_le id 6 ≡ true → AtMost (by_id id) 1524
unfolding by_id
id_width zero h = instruction_width
id_width (suc zero) h = tt
id_width (suc (suc zero)) h = tt
id_width (suc (suc (suc zero))) h = outside_width
id_width (suc (suc (suc (suc zero)))) h = clock_width
id_width (suc (suc (suc (suc (suc zero))))) h = checkpoint_width
id_width (suc (suc (suc (suc (suc (suc zero)))))) h = end_width
id_width (suc (suc (suc (suc (suc (suc (suc n))))))) h = absurd (omega (arith, leb-true (suc (suc (suc (suc (suc (suc (suc n))))))) 6 h))

pub event_width : AtMost event 1525
unfolding event
event_width = (omega arith, λ f _ good. id_width _ good)

pub event_cut : (bytes : List ℕ) → Stops event bytes Cut → length bytes < 1525
event_cut bytes s = cut_short event 1525 bytes event_width s
