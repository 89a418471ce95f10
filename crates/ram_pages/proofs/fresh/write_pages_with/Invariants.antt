use Rattle.std.proofs.Common.{◌≡◌, ◌≤◌, ◌-◌, ◌+◌, ◌<◌, ◌/◌, ℕ, length, take}
use Rattle.ram_pages.specs.Memory.{overwritten}
use Rattle.ram_pages.specs.Paging.{joined}
use Rattle.ram_pages.specs.Standing.{laid, AreFresh, SamePage}
use Rattle.ram_pages.proofs.fresh.write_pages_with.Given as goal

abbrev pub invariant-loop-done : goal.invariant-loop-done
invariant-loop-done l = record {
  fresh : AreFresh (length l.pages) l.fresh.items;
  longer : length l.initial.fresh.items ≤ length l.fresh.items;
  front : take (length l.initial.fresh.items) l.fresh.items ≡ l.initial.fresh.items;
  wrote : joined (laid l.fresh.items l.pages) ≡ overwritten (joined (laid l.initial.fresh.items l.pages)) l.place (take l.done l.bytes);
  ahead : l.done < length l.bytes → (n : ℕ) → (l.place + l.done) / 4096 ≤ n → SamePage n (laid l.fresh.items l.pages) (laid l.initial.fresh.items l.pages);
  fits : l.done ≤ length l.bytes;
}

abbrev pub decreases-loop-done : goal.decreases-loop-done
decreases-loop-done l = length l.bytes - l.done
