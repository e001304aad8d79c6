-- How times are written (RFC 3339, 5.6): in UTC.
use Rattle.std.specs.Prelude.{ℕ, ◌+◌, ◌/◌, ◌%◌, List, [], ◌∷◌, ◌++◌, ◌==◌, if◌then◌else◌, codes}
use Rattle.serde_json.specs.Data.{Data, string}
use Rattle.oci_docs.specs.Moment.{Moment}

-- the last decimal digit of a number
unfoldable pub digit : ℕ → ℕ
digit n = 48 + n % 10

-- the last two
abbrev pub two : ℕ → List ℕ
two n = digit (n / 10) ∷ digit n ∷ []

-- the last three
abbrev pub three : ℕ → List ℕ
three n = digit (n / 100) ∷ two n

-- 0, 3, 6 or 9 digits: the fewest that are exact
abbrev pub fraction_text : ℕ → List ℕ
fraction_text n =
    if n == 0 then []
    else (if n % 1000000 == 0 then codes "." ++ three (n / 1000000)
    else (if n % 1000 == 0 then codes "." ++ three (n / 1000000) ++ three (n / 1000)
    else codes "." ++ three (n / 1000000) ++ three (n / 1000) ++ three n))

abbrev pub date_text : Moment → List ℕ
date_text m = two (m.year / 100) ++ two m.year ++ codes "-" ++ two m.month ++ codes "-" ++ two m.day

abbrev pub clock_text : Moment → List ℕ
clock_text m = two m.hour ++ codes ":" ++ two m.minute ++ codes ":" ++ two m.second

abbrev pub civil_text : Moment → List ℕ
civil_text m = date_text m ++ codes "T" ++ clock_text m

unfoldable pub moment_text : Moment → List ℕ
moment_text m = civil_text m ++ fraction_text m.nanosecond ++ codes "Z"

abbrev pub time_written : Moment → Data
time_written m = string (moment_text m)
