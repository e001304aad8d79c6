-- How the bodies of answers are parsed.
use Rattle.std.specs.Prelude.{ℕ, List, Option, Some, None, if◌then◌else◌}
use Rattle.std.specs.Str.{is_utf8}
use Rattle.serde_json.specs.Data.{Data}
use Rattle.json_values.specs.JsonText.{plain_json_of}
use Rattle.json_tables.specs.Reading.{◌>>=◌}
use Rattle.json_tables.specs.Objects.{an_object}

-- UTF-8
abbrev pub text_body : List ℕ → Option (List ℕ)
text_body bytes = if is_utf8 bytes then Some bytes else None

-- an object without floats
abbrev pub json_body : List ℕ → Option Data
json_body bytes = do
  json ← plain_json_of bytes
  object ← an_object json
  Some json
