-- Integers out of range.
use Rattle.std.specs.Prelude.{ℤ, Option, Some, None, if◌then◌else◌}
use Rattle.serde_json.specs.Data.{number}
use Rattle.json_events.specs.Canonical.{in_range}
use Rattle.json_events.specs.declared.error.CanonError.{CanonError}
use Rattle.json_events.specs.declared.error.CanonError.TheVariants.{IntegerOutOfRange}

-- the refusal of an integer that is out of range
abbrev pub refused_integer : ℤ → Option CanonError
refused_integer z = if in_range z then None else Some IntegerOutOfRange
