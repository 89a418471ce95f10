-- Where a range lies that begins at a multiple of its size.
use Rattle.std.proofs.Common.{◌≡◌, ◌≤◌, ◌<◌, ◌+◌, ◌%◌, ◌^◌, ℕ, inl, inr, arith}
use Rattle.ram_pages.specs.Memory.{IsSize}

by-size : (P : ℕ → Type 0) (size : ℕ) → IsSize size → P 1 → P 2 → P 4 → P size
by-size P size (inl e) p q r = rw e p
by-size P size (inr (inl e)) p q r = rw e q
by-size P size (inr (inr e)) p q r = rw e r

-- the range ends in RAM, and in its page
record Ends (len at size found : ℕ) : Type 0 where
  pub start : 2147483648 ≤ at
  pub place : 2147483648 + found ≡ at
  pub ends : at + size ≤ 2147483648 + len
  pub page : found % 4096 + size ≤ 4096

ends : (len at size : ℕ) → IsSize size → at < 2 ^ 32 → len ≤ 2 ^ 26 → len % 4096 ≡ 0 → (at + 2147483648) % 4294967296 < len
    → at % size ≡ 0 → Ends len at size ((at + 2147483648) % 4294967296)
ends len at size s w m p h =
    by-size (λ size. at % size ≡ 0 → Ends len at size ((at + 2147483648) % 4294967296)) size s
    (λ a. record { start = omega arith; place = omega arith; ends = omega arith; page = omega arith })
    (λ a. record { start = omega arith; place = omega arith; ends = omega arith; page = omega arith })
    (λ a. record { start = omega arith; place = omega arith; ends = omega arith; page = omega arith })

pub aligned_place : (len at size : ℕ) → IsSize size → at < 2 ^ 32 → len ≤ 2 ^ 26 → len % 4096 ≡ 0 → (at + 2147483648) % 4294967296 < len → at % size ≡ 0
    → 2147483648 + (at + 2147483648) % 4294967296 ≡ at
aligned_place len at size s w m p h a = (ends len at size s w m p h a).place

pub aligned_end : (len at size : ℕ) → IsSize size → at < 2 ^ 32 → len ≤ 2 ^ 26 → len % 4096 ≡ 0 → (at + 2147483648) % 4294967296 < len → at % size ≡ 0
    → at + size ≤ 2147483648 + len
aligned_end len at size s w m p h a = (ends len at size s w m p h a).ends

pub aligned_page : (len at size : ℕ) → IsSize size → at < 2 ^ 32 → len ≤ 2 ^ 26 → len % 4096 ≡ 0 → (at + 2147483648) % 4294967296 < len → at % size ≡ 0
    → (at + 2147483648) % 4294967296 % 4096 + size ≤ 4096
aligned_page len at size s w m p h a = (ends len at size s w m p h a).page

pub some_size : (size : ℕ) → IsSize size → 1 ≤ size
some_size size s = by-size (λ size. 1 ≤ size) size s (omega arith) (omega arith) (omega arith)

pub ruleset aligned = (aligned_place, aligned_end, aligned_page, some_size)
