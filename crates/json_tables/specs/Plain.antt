-- Documents read from bytes.
use Rattle.std.specs.Prelude.{ℕ, List, Option}
use Rattle.serde_json.specs.Data.{Data}
use Rattle.json_values.specs.JsonText.{plain_json_of}
use Rattle.json_tables.specs.Reading.{◌>>=◌}

-- what f reads from the JSON in the bytes, if it contains no float
abbrev pub read_plain : {X : Type 0} → (Data → Option X) → List ℕ → Option X
read_plain f bytes = plain_json_of bytes >>= f
