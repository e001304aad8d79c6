-- Moments less than a day later and earlier.
use Rattle.std.specs.Prelude.{ℕ, ◌+◌, ◌-◌, ◌*◌, ◌/◌, ◌%◌, ◌==◌, nat_lt, nat_le, if◌then◌else◌, Option, Some, None}
use Rattle.oci_docs.specs.Moment.{Moment, checked}

-- the first one if present, otherwise the second
abbrev pub or_else : Option Moment → Option Moment → Option Moment
or_else None other = other
or_else (Some m) other = Some m

abbrev pub on_day : Moment → ℕ → ℕ → ℕ → Option Moment
on_day m year month day = checked (record m { year = year; month = month; day = day })

-- the same time on the next day: of this month, else of the next month, else of the next year
abbrev pub day_after : Moment → Option Moment
day_after m =
    or_else (on_day m m.year m.month (m.day + 1))
    (or_else (on_day m m.year (m.month + 1) 1) (on_day m (m.year + 1) 1 1))

-- the last day of a month
abbrev pub on_last_day : Moment → ℕ → ℕ → Option Moment
on_last_day m year month = or_else (on_day m year month 31)
    (or_else (on_day m year month 30) (or_else (on_day m year month 29) (on_day m year month 28)))

-- the same time on the day before: of this month, else of the month before, else of the year before
abbrev pub day_before : Moment → Option Moment
day_before m =
    or_else (on_day m m.year m.month (m.day - 1))
    (or_else (on_last_day m m.year (m.month - 1)) (if m.year == 0 then None else on_last_day m (m.year - 1) 12))

-- the minutes since midnight
abbrev pub minutes_of : Moment → ℕ
minutes_of m = m.hour * 60 + m.minute

-- the same day, `minutes` after midnight
abbrev pub at_minute : Moment → ℕ → Option Moment
at_minute m minutes = checked (record m { hour = minutes / 60; minute = minutes % 60 })

-- the given minutes after midnight of the day, if there is one
abbrev pub at_minute_of : Option Moment → ℕ → Option Moment
at_minute_of None minutes = None
at_minute_of (Some m) minutes = at_minute m minutes

-- less than a day later
abbrev pub later : Moment → ℕ → Option Moment
later m minutes =
    if nat_lt (minutes_of m + minutes) 1440 then at_minute m (minutes_of m + minutes)
    else at_minute_of (day_after m) (minutes_of m + minutes - 1440)

-- less than a day earlier
abbrev pub earlier : Moment → ℕ → Option Moment
earlier m minutes =
    if nat_le minutes (minutes_of m) then at_minute m (minutes_of m - minutes)
    else at_minute_of (day_before m) (minutes_of m + 1440 - minutes)
