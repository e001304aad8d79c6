-- Numbers in decimal.
use Rattle.std.specs.Prelude.{◌≡◌, ◌<◌, ◌^◌, ◌&&◌, ℕ, Bool, List, Option, Some, None, decimal, length, nat_le, nat_lt}
use Rattle.std.specs.Prelude.{if◌then◌else◌}
use Rattle.std.specs.List.{list_all}
use Rattle.std.specs.Str.Parse.{digits_value}

abbrev pub is_digit : ℕ → Bool
is_digit b = nat_le 48 b && nat_le b 57

-- at least one digit, and nothing else
abbrev pub is_decimal : List ℕ → Bool
is_decimal text = nat_le 1 (length text) && list_all is_digit text

-- the number below 2^64 that decimal digits denote
abbrev pub decimal_of : List ℕ → Option ℕ
decimal_of text =
    if is_decimal text && nat_lt (digits_value 10 text) (2 ^ 64) then Some (digits_value 10 text) else None

-- each number below 2^64 is read from the digits that are written for it
abbrev pub DecimalsRoundTrip : Type 0
DecimalsRoundTrip = (n : ℕ) → n < 2 ^ 64 → decimal_of (decimal n) ≡ Some n
