-- Saturating `u64` counters.
use Rattle.std.specs.Prelude.{◌≡◌, ℕ, ◌+◌, ◌-◌, ◌^◌, ◌≤◌, min}

-- the next count, saturating at `u64::MAX`
abbrev pub incremented : ℕ → ℕ
incremented n = min (n + 1) (2 ^ 64 - 1)

-- the count increased, or is saturated
abbrev pub Increased : ℕ → ℕ → Type 0
Increased before after = incremented before ≤ after

-- the count is unchanged
abbrev pub Unchanged : ℕ → ℕ → Type 0
Unchanged before after = after ≡ before
