-- Offsets from UTC (RFC 3339, 5.6).
use Rattle.std.specs.Prelude.{ℕ, ◌+◌, ◌-◌, ◌*◌, List, length, Bool, true}
use Rattle.std.specs.Prelude.{◌&&◌, ◌||◌, ◌==◌, nat_lt, if◌then◌else◌, Option, Some, None, slice_index}
use Rattle.json_tables.specs.Reading.{◌>>=◌}
use Rattle.oci_docs.specs.Digits.{two_at}

-- the offset of a clock from UTC: whether it is ahead, and by how many minutes
abbrev pub Offset : Type 0
Offset = Bool × ℕ

-- `+hh:mm` or `-hh:mm`
abbrev pub numeric_offset : List ℕ → Option Offset
numeric_offset text =
    if length text == 6 && (slice_index text 0 == 43 || slice_index text 0 == 45) && slice_index text 3 == 58 then (do
      hours ← two_at 1 text
      minutes ← two_at 4 text
      if nat_lt hours 24 && nat_lt minutes 60
          then Some (slice_index text 0 == 43, hours * 60 + minutes)
          else None) else None

-- `Z`, `z`, or an offset in hours and minutes
abbrev pub offset_of : List ℕ → Option Offset
offset_of text =
    if length text == 1 && (slice_index text 0 == 90 || slice_index text 0 == 122)
    then Some (true, 0) else numeric_offset text
