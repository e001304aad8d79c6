-- The data that JSON texts denote (RFC 8259).
use Rattle.std.specs.Prelude.{ℕ, List, Bool, not, if◌then◌else◌, Option, Some, None, option_and_then}
use Rattle.std.specs.Str.{is_utf8}
use Rattle.serde_json.specs.Data.{Data}
use Rattle.serde_json.specs.Read.{read}
use Rattle.serde_json.specs.Written.{has_float}

-- the data that the bytes denote, or none if they are not UTF-8 or not JSON
abbrev pub json_of : List ℕ → Option Data
json_of bytes = if is_utf8 bytes then read bytes else None

-- the data contains no float
abbrev pub is_plain : Data → Bool
is_plain d = not (has_float d)

-- the data that the bytes denote, or none if it contains a float
abbrev pub plain_json_of : List ℕ → Option Data
plain_json_of bytes = option_and_then (λ d. if is_plain d then Some d else None) (json_of bytes)
