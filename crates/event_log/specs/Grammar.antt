-- Formats of fields, read from left to right,
-- and what it means that bytes spell a value or break a rule.
use Rattle.std.specs.Prelude.{◌≡◌, ℕ, ◌<◌, ◌⊎◌, Bool, true, false, List, ◌++◌, length, take, drop, Result, Ok, Err, nat_lt, if◌then◌else◌}

-- Either the value stands there, or a field comes:
-- so many bytes, a test that is true in its range, the name of its rule, and what follows.
pub data Format (R X : Type 0) : Type 0 where
  done : X → Format R X
  field : ℕ → (List ℕ → Bool) → R → (List ℕ → Format R X) → Format R X

-- The first fault: a field isn't wholly there, or is out of range.
pub data Fault (R : Type 0) : Type 0 where
  Cut : Fault R
  Bad : R → Fault R

-- bytes spell x, and rest follows
abbrev pub Spells : {R X : Type 0} → Format R X → List ℕ → X → List ℕ → Type 0
Spells (done y) bytes x rest = (x ≡ y) × (bytes ≡ rest)
Spells (field width in_range rule next) bytes x rest =
    (f : List ℕ) × (more : List ℕ) × (length f ≡ width) × (bytes ≡ f ++ more)
    × (in_range f ≡ true) × Spells (next f) more x rest

-- the first field that isn't wholly there, or isn't in range
abbrev pub Stops : {R X : Type 0} → Format R X → List ℕ → Fault R → Type 0
Stops (done y) bytes fault = ⊥
Stops (field width in_range rule next) bytes fault =
    ((length bytes < width) × (fault ≡ Cut))
    ⊎ ((f : List ℕ) × (more : List ℕ) × (length f ≡ width) × (bytes ≡ f ++ more)
    × (((in_range f ≡ false) × (fault ≡ Bad rule))
    ⊎ ((in_range f ≡ true) × Stops (next f) more fault)))

-- exactly what stands at the front of the bytes
abbrev pub Meets : {R X : Type 0} → Format R X → List ℕ → Result (X × List ℕ) (Fault R) → Type 0
Meets format bytes (Ok found) = Spells format bytes found.0 found.1
Meets format bytes (Err fault) = Stops format bytes fault

-- the same, computed
abbrev pub read : {R X : Type 0} → Format R X → List ℕ → Result (X × List ℕ) (Fault R)
read (done x) bytes = Ok (x, bytes)
read (field width in_range rule next) bytes =
    if nat_lt (length bytes) width then Err Cut
    else if in_range (take width bytes) then read (next (take width bytes)) (drop width bytes)
    else Err (Bad rule)
