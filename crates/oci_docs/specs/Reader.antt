-- Parsing of times (RFC 3339, 5.6), with seconds up to 59.
use Rattle.std.specs.Prelude.{ℕ, suc, ◌+◌, ◌-◌, ◌*◌, ◌/◌, List, [], ◌∷◌, length, drop, Bool}
use Rattle.std.specs.Prelude.{◌&&◌, ◌||◌, ◌==◌, nat_lt, nat_le, if◌then◌else◌, Option, Some, None, slice_index}
use Rattle.serde_json.specs.Data.{Data}
use Rattle.json_tables.specs.Reading.{◌>>=◌, text_of}
use Rattle.oci_docs.specs.Moment.{Moment, checked}
use Rattle.oci_docs.specs.Shift.{later, earlier}
use Rattle.oci_docs.specs.Digits.{is_digit, digit_value, two_at}
use Rattle.oci_docs.specs.Offset.{Offset, offset_of}

-- `-` between the parts of the date, `:` between those of the time, and one of `T`, `t` and space between both
abbrev pub has_marks : List ℕ → Bool
has_marks text =
    slice_index text 4 == 45 && slice_index text 7 == 45
    && (slice_index text 10 == 84 || slice_index text 10 == 116 || slice_index text 10 == 32)
    && slice_index text 13 == 58 && slice_index text 16 == 58

-- `YYYY-MM-DD`, a mark, `hh:mm:ss`
abbrev pub civil_of : ℕ → List ℕ → Option Moment
civil_of nanosecond text = if has_marks text then (do
  century ← two_at 0 text
  year ← two_at 2 text
  month ← two_at 5 text
  day ← two_at 8 text
  hour ← two_at 11 text
  minute ← two_at 14 text
  second ← two_at 17 text
  checked (record {
    year = century * 100 + year;
    month = month;
    day = day;
    hour = hour;
    minute = minute;
    second = second;
    nanosecond = nanosecond;
  })) else None

-- the number of leading digits
abbrev pub digit_count : List ℕ → ℕ
digit_count [] = 0
digit_count (b ∷ text) = if is_digit b then suc (digit_count text) else 0

-- the nanoseconds of the leading digits, given the value of the first one
abbrev pub nanoseconds_by : ℕ → List ℕ → ℕ
nanoseconds_by place [] = 0
nanoseconds_by place (b ∷ text) = if is_digit b then digit_value b * place + nanoseconds_by (place / 10) text else 0

abbrev pub has_fraction : List ℕ → Bool
has_fraction text = slice_index text 0 == 46

-- the length of an optional fraction: `.` and 1 to 9 digits
abbrev pub fraction_length : List ℕ → Option ℕ
fraction_length text =
    if has_fraction text
    then (if nat_le 1 (digit_count (drop 1 text)) && nat_le (digit_count (drop 1 text)) 9
    then Some (digit_count (drop 1 text) + 1) else None)
    else Some 0

abbrev pub nanoseconds : List ℕ → ℕ
nanoseconds text = if has_fraction text then nanoseconds_by 100000000 (drop 1 text) else 0

-- the UTC time at which a clock with this offset shows the civil time
abbrev pub in_utc : Offset → Moment → Option Moment
in_utc offset m = if offset.0 then earlier m offset.1 else later m offset.1

-- the date, the time of day, a fraction of its second, and the offset
unfoldable pub moment_of : List ℕ → Option Moment
moment_of text = if nat_lt (length text) 20 then None else (do
  fraction ← fraction_length (drop 19 text)
  civil ← civil_of (nanoseconds (drop 19 text)) text
  offset ← offset_of (drop fraction (drop 19 text))
  in_utc offset civil)

unfoldable pub time_of : Data → Option Moment
time_of d = text_of d >>= moment_of
