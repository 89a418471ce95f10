-- The virtual clock (this machine's own): it moves by turns and by the time that windows skip.
use Rattle.std.specs.Prelude.{ℕ, ◌+◌, ◌-◌, ◌*◌, ◌^◌, ◌≤◌}

-- the turns made, the nanoseconds skipped, and the binary logarithm of a turn's nanoseconds
pub record Time : Type 0 where
  pub count : ℕ
  pub warp : ℕ
  pub shift : ℕ

-- nanoseconds since reset
abbrev pub nanoseconds : Time → ℕ
nanoseconds t = t.count * 2 ^ t.shift + t.warp

-- the clock after one more turn
abbrev pub later : Time → Time
later t = record t { count = t.count + 1 }

-- the clock after so many turns more
abbrev pub later_by : ℕ → Time → Time
later_by n t = record t { count = t.count + n }

-- the clock whose turns are the same and which shows this nanosecond
abbrev pub skipped : Time → ℕ → Time
skipped t at = record t { warp = at - t.count * 2 ^ t.shift }

-- the last nanosecond to which an idle window skips
abbrev pub last_deadline : ℕ
last_deadline = 100 * 2 ^ 56

-- a run has at most 2 ^ 40 turns of at most 1024 nanoseconds
pub record IsTime (t : Time) : Type 0 where
  pub count : t.count ≤ 2 ^ 40
  pub warp : t.warp ≤ last_deadline
  pub shift : t.shift ≤ 10
