-- Digits of times.
use Rattle.std.specs.Prelude.{ℕ, ◌+◌, ◌-◌, ◌*◌, List, Bool, ◌&&◌, nat_le, if◌then◌else◌, Option, Some, None}
use Rattle.std.specs.Prelude.{slice_index}

unfoldable pub is_digit : ℕ → Bool
is_digit b = nat_le 48 b && nat_le b 57

-- the number of a digit
abbrev pub digit_value : ℕ → ℕ
digit_value b = b - 48

-- the number of two digits
unfoldable pub two_digits : ℕ → ℕ → Option ℕ
two_digits a b = if is_digit a && is_digit b then Some (digit_value a * 10 + digit_value b) else None

-- the number of the two digits at this index
abbrev pub two_at : ℕ → List ℕ → Option ℕ
two_at i text = two_digits (slice_index text i) (slice_index text (i + 1))
