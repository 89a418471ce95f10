-- The snapshots that are kept.
use Rattle.std.specs.Prelude.{◌≡◌, ◌++◌, [], ◌∷◌, Some, None, ◌<◌, ℕ, ◌+◌, ◌*◌, ◌/◌, List, length, slice_index_or, IsSomeAnd}
use Rattle.slab.specs.Slab.{Slab, get, Updates}
use Rattle.reverse_seek.specs.Stride.{multiples, stride_of}
use Rattle.reverse_seek.specs.Script.{Script}
use Rattle.reverse_seek.specs.Mark.{StandsAt}
use Rattle.reverse_seek.specs.declared.snapshots.Snapshots.{Snapshots}
use Rattle.reverse_seek.specs.declared.mark.Mark.{Mark}

-- the first n multiples of the stride are kept, in order, each with a key, under which lies a
-- snapshot at that count
pub record KeepsTo (s : Script) (stride n : ℕ) (counts keys : List ℕ) (marks : Slab Mark)
    : Type 0 where
  pub multiples_are : counts ≡ multiples stride n
  pub one_key_each : length keys ≡ n
  pub each : (i : ℕ) → i < n
      → IsSomeAnd (get marks (slice_index_or keys i 0)) (StandsAt s (i * stride))

-- all multiples of the stride up to the last count are kept
abbrev pub Keeps : Script → List ℕ → List ℕ → Slab Mark → Type 0
Keeps s counts keys marks =
    KeepsTo s (stride_of s.last) (s.last / stride_of s.last + 1) counts keys marks

-- one more snapshot is kept, under a key that had none
pub record Adds (count : ℕ) (mark : Mark) (old new : Snapshots) : Type 0 where
  pub key : ℕ
  pub was_vacant : get old.marks key ≡ None
  pub updates : Updates old.marks new.marks key (Some mark)
  pub counts : new.counts.items ≡ old.counts.items ++ count ∷ []
  pub keys : new.keys.items ≡ old.keys.items ++ key ∷ []
