-- Moments as numbers, so that offsets are sums.
use Rattle.std.specs.Prelude.{◌≡◌, ◌↔◌, ℕ, ◌+◌, ◌*◌, ◌<◌, ◌≤◌, pos, Bool, true, false, Some, None}
use Rattle.jiff_core.specs.Calendar.{day_count}
use Rattle.oci_docs.specs.Moment.{Moment, checked}
use Rattle.oci_docs.specs.Shift.{minutes_of}
use Rattle.oci_docs.specs.Reader.{in_utc}
use Rattle.oci_docs.specs.Offset.{Offset}

-- the number of the day
abbrev pub day_number : Moment → ℕ
day_number m = day_count (pos m.year) m.month m.day

-- the minutes of a clock with days of 24 hours
abbrev pub minute_number : Moment → ℕ
minute_number m = day_number m * 1440 + minutes_of m

-- the second moment is the UTC time of the first one on a clock that is ahead of UTC, or behind it, by these minutes
abbrev pub IsMoved : Bool → ℕ → Moment → Moment → Type 0
IsMoved true minutes m n = minute_number n + minutes ≡ minute_number m
IsMoved false minutes m n = minute_number n ≡ minute_number m + minutes

-- an offset changes the number of minutes by its own
abbrev pub MovesMinutes : Type 0
MovesMinutes = (offset : Offset) (m n : Moment) → checked m ≡ Some m → offset.1 < 1440
    → in_utc offset m ≡ Some n → IsMoved offset.0 offset.1 m n

abbrev pub IsFirstDay : Moment → Type 0
IsFirstDay m = (m.year ≡ 0) × (m.month ≡ 1) × (m.day ≡ 1)

abbrev pub IsLastDay : Moment → Type 0
IsLastDay m = (m.year ≡ 9999) × (m.month ≡ 12) × (m.day ≡ 31)

-- before the year 0000 for a clock that is ahead, after the year 9999 for one that is behind
abbrev pub IsOutside : Bool → ℕ → Moment → Type 0
IsOutside true minutes m = IsFirstDay m × (minutes_of m < minutes)
IsOutside false minutes m = IsLastDay m × (1440 ≤ minutes_of m + minutes)

-- an offset yields no time if and only if it leaves the years 0000 to 9999
abbrev pub NoTimeOutside : Type 0
NoTimeOutside = (offset : Offset) (m : Moment) → checked m ≡ Some m → offset.1 < 1440
    → (in_utc offset m ≡ None) ↔ IsOutside offset.0 offset.1 m
