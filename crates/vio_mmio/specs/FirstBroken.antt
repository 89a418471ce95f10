-- What it means that a chain breaks a rule first.
use Rattle.std.specs.Prelude.{◌≡◌, ◌≤◌, ◌<◌, ℕ, zero, suc, List, [], ◌∷◌, Bool, true, false, ◌||◌, nat_lt, if◌then◌else◌, Ok, Err}
use Rattle.vio_mmio.specs.declared.queue.Queue.{Queue}
use Rattle.vio_mmio.specs.declared.error.BadKind.{BadKind}
use Rattle.vio_mmio.specs.declared.error.BadKind.TheVariants.{Index, Loop}
use Rattle.std.specs.List.{flat_map}
use Rattle.vio_mmio.specs.declared.chain.Descriptor.{Descriptor}
use Rattle.vio_mmio.specs.Descriptors.{Parts, descriptor_at, is_writable, goes_on, readable_of, writable_of, checked, chain_of}

-- the number of the k-th descriptor from a number on, each named by the one before
abbrev pub number_from : List ℕ → Queue → ℕ → ℕ → ℕ
number_from bytes q n zero = n
number_from bytes q n (suc k) = number_from bytes q (descriptor_at bytes q n).next k

-- whether one before the k-th is writable
abbrev pub late_from : List ℕ → Queue → ℕ → Bool → ℕ → Bool
late_from bytes q n late zero = late
late_from bytes q n late (suc k) =
    let d = descriptor_at bytes q n in late_from bytes q d.next (late || is_writable d) k

-- the k-th descriptor keeps every rule and names another
pub record GoesOn (bytes : List ℕ) (q : Queue) (n : ℕ) (late : Bool) (k : ℕ) : Type 0 where
  pub keeps : checked bytes q (number_from bytes q n k) (late_from bytes q n late k)
      ≡ Ok (descriptor_at bytes q (number_from bytes q n k))
  pub more : goes_on (descriptor_at bytes q (number_from bytes q n k)) ≡ true

-- those before the k-th keep every rule, and the k-th breaks one; where it is one too many, that
-- is the rule
pub record BreaksAt (bytes : List ℕ) (q : Queue) (left n : ℕ) (late : Bool) (kind : BadKind) (k : ℕ)
    : Type 0 where
  pub within : k ≤ left
  pub before : (j : ℕ) → j < k → GoesOn bytes q n late j
  pub here : k < left
      → checked bytes q (number_from bytes q n k) (late_from bytes q n late k) ≡ Err kind
  pub last : k ≡ left → kind ≡ (if nat_lt (number_from bytes q n k) q.size then Loop else Index)

-- a chain that is bad breaks the rule at some descriptor, and none before
abbrev pub NamesFirstBroken : Type 0
NamesFirstBroken =
    (bytes : List ℕ) (q : Queue) (head : ℕ) (kind : BadKind) → chain_of bytes q head ≡ Err kind
    → (k : ℕ) × BreaksAt bytes q q.size head false kind k

-- the entries from a number to the k-th
abbrev pub entries_from : List ℕ → Queue → ℕ → ℕ → List Descriptor
entries_from bytes q n zero = descriptor_at bytes q n ∷ []
entries_from bytes q n (suc k) =
    descriptor_at bytes q n ∷ entries_from bytes q (descriptor_at bytes q n).next k

-- all to the k-th keep every rule, it is the last, and the ranges are theirs in order
pub record EndsAt (bytes : List ℕ) (q : Queue) (left n : ℕ) (late : Bool) (parts : Parts) (k : ℕ)
    : Type 0 where
  pub within : k < left
  pub before : (j : ℕ) → j < k → GoesOn bytes q n late j
  pub keeps : checked bytes q (number_from bytes q n k) (late_from bytes q n late k)
      ≡ Ok (descriptor_at bytes q (number_from bytes q n k))
  pub ends : goes_on (descriptor_at bytes q (number_from bytes q n k)) ≡ false
  pub readable : parts.readable ≡ flat_map readable_of (entries_from bytes q n k)
  pub writable : parts.writable ≡ flat_map writable_of (entries_from bytes q n k)

-- a chain that is good has the ranges of its descriptors, of which each keeps every rule
abbrev pub HasItsRanges : Type 0
HasItsRanges =
    (bytes : List ℕ) (q : Queue) (head : ℕ) (parts : Parts) → chain_of bytes q head ≡ Ok parts
    → (k : ℕ) × EndsAt bytes q q.size head false parts k
