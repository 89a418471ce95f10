-- The stride, which is the distance between kept counts.
use Rattle.std.specs.Prelude.{◌≡◌, ◌≤◌, ◌<◌, ℕ, zero, suc, ◌+◌, ◌*◌, ◌/◌, ◌^◌, nat_lt, List, [], ◌∷◌, ◌++◌, if◌then◌else◌}

-- the least doubling of 1000 at which at most 32 of its multiples lie from 0 to the last count
pub record IsLeastStride (last stride : ℕ) : Type 0 where
  pub doubling : ℕ
  pub doubles : stride ≡ 1000 * 2 ^ doubling
  pub enough : last / stride < 32
  pub least : (i : ℕ) → last / (1000 * 2 ^ i) < 32 → doubling ≤ i

-- the first of at most k doublings of a stride that is enough
unfoldable pub stride_from : ℕ → ℕ → ℕ → ℕ
stride_from zero stride last = stride
stride_from (suc k) stride last =
    if nat_lt (last / stride) 32 then stride else stride_from k (stride * 2) last

-- the least stride, for a last count of at most 2^40
unfoldable pub stride_of : ℕ → ℕ
stride_of last = stride_from 40 1000 last

-- the first n multiples of a stride, from 0 on
unfoldable pub multiples : ℕ → ℕ → List ℕ
multiples stride zero = []
multiples stride (suc n) = multiples stride n ++ n * stride ∷ []

-- the counts of which a snapshot is kept: all multiples of the stride up to the last count
abbrev pub kept_of : ℕ → List ℕ
kept_of last = multiples (stride_of last) (last / stride_of last + 1)
