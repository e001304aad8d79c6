-- How numbers are written.
use Rattle.std.specs.Prelude.{ℕ, ℤ}
use Rattle.serde_json.specs.Data.{Data, number, unsigned}
use Rattle.serde_json.specs.Find.{of_integer}

-- an integer
abbrev pub whole : ℤ → Data
whole z = number (of_integer z)

-- a non-negative integer
abbrev pub size : ℕ → Data
size n = number (unsigned n)
