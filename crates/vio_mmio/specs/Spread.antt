-- Bytes that are spread over ranges of a memory.
use Rattle.std.specs.Prelude.{◌≡◌, true, ℕ, ◌+◌, ◌-◌, ◌^◌, List, [], ◌∷◌, length, take, drop, if◌then◌else◌, nat_eq, min, sum_by}
use Rattle.std.specs.List.{All, flat_map}
use Rattle.ram_pages.specs.Memory.{written, bytes_at}
use Rattle.vio_mmio.specs.declared.chain.Segment.{Segment}
use Rattle.vio_mmio.specs.Ring.{lies_in}

-- the memory with these bytes at an address, if they lie in it
abbrev pub put_at : List ℕ → ℕ → List ℕ → List ℕ
put_at bytes at fresh = if lies_in bytes at (length fresh) then written bytes at fresh else bytes

-- the bytes of a range, or none if it doesn't lie in the memory
abbrev pub got_at : List ℕ → ℕ → ℕ → List ℕ
got_at bytes at len = if lies_in bytes at len then bytes_at bytes at len else []

-- the memory with these bytes over the ranges in turn, as far as they go
unfoldable pub scattered : List ℕ → List Segment → List ℕ → List ℕ
scattered bytes [] fresh = bytes
scattered bytes (s ∷ ss) fresh =
    scattered (put_at bytes s.at (take s.len fresh)) ss (drop s.len fresh)

-- the bytes of the ranges, joined
abbrev pub gathered : List ℕ → List Segment → List ℕ
gathered bytes segments = flat_map (λ s. got_at bytes s.at s.len) segments

-- how many bytes the ranges have
abbrev pub total_of : List Segment → ℕ
total_of segments = sum_by (λ s. s.len) segments

-- the address of the last byte of the ranges, where place is that of the ranges before
abbrev pub last_of : List Segment → ℕ → ℕ
last_of [] place = place
last_of (s ∷ ss) place =
    last_of ss (if nat_eq s.len 0 then place else min (s.at + (s.len - 1)) (2 ^ 64 - 1))

-- each range lies in the memory
abbrev pub AllLie : List ℕ → List Segment → Type 0
AllLie bytes segments = All (λ s. lies_in bytes s.at s.len ≡ true) segments

-- ranges that lie in the memory give just as many bytes as they have
abbrev pub GathersItsTotal : Type 0
GathersItsTotal =
    (bytes : List ℕ) (segments : List Segment) → AllLie bytes segments
    → length (gathered bytes segments) ≡ total_of segments
