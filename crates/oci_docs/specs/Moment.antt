-- Moments in UTC, in the years 0000 to 9999.
use Rattle.std.specs.Prelude.{ℕ, ◌-◌, Bool, ◌&&◌, ◌==◌, nat_lt, nat_le}
use Rattle.std.specs.Prelude.{if◌then◌else◌, Option, Some, None, pos, unsigned_abs}
use Rattle.jiff_core.specs.Calendar.{days_in_month}
use Rattle.jiff_core.specs.declared.civil.datetime.DateTime.{DateTime}

-- a day of the calendar and a time of day
pub record Moment : Type 0 where
  pub year : ℕ
  pub month : ℕ
  pub day : ℕ
  pub hour : ℕ
  pub minute : ℕ
  pub second : ℕ
  pub nanosecond : ℕ

-- whether the day is in the calendar
abbrev pub is_day : Moment → Bool
is_day m =
    nat_lt m.year 10000 && nat_le 1 m.month && nat_le m.month 12
    && nat_le 1 m.day && nat_le m.day (days_in_month (pos m.year) m.month)

-- whether the time is on a clock
abbrev pub is_clock : Moment → Bool
is_clock m = nat_lt m.hour 24 && nat_lt m.minute 60 && nat_lt m.second 60 && nat_lt m.nanosecond 1000000000

-- the moment, if it is valid
abbrev pub checked : Moment → Option Moment
checked m = if is_day m && is_clock m then Some m else None

-- the moment of a civil date and time
abbrev pub moment_at : DateTime → Moment
moment_at utc = record {
  year = unsigned_abs utc.date.year;
  month = utc.date.month;
  day = utc.date.day;
  hour = utc.time.hour;
  minute = utc.time.minute;
  second = utc.time.second;
  nanosecond = utc.time.subsec_nanosecond;
}

-- equality of all parts
abbrev pub is_same : Moment → Moment → Bool
is_same a b =
    (a.year == b.year) && (a.month == b.month) && (a.day == b.day)
    && (a.hour == b.hour) && (a.minute == b.minute) && (a.second == b.second) && (a.nanosecond == b.nanosecond)
