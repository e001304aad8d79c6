-- The error body of Rekor (its API, `Error`).
use Rattle.std.specs.Prelude.{List, [], ◌∷◌, Option, Some, option_map, codes}
use Rattle.serde_json.specs.Data.{Data, string}
use Rattle.json_tables.specs.Reading.{◌>>=◌, text_of, i32_of}
use Rattle.json_tables.specs.Member.{optional}
use Rattle.json_tables.specs.Fields.{Field, fields}
use Rattle.service_models.specs.declared.error.Error.{Error}
use Rattle.service_models.specs.Numbers.{whole}

unfoldable pub error_of : Data → Option Error
error_of d = do
  code ← optional i32_of (codes "code") d
  message ← optional text_of (codes "message") d
  Some (record { code = code; message = message })

-- how it is written
abbrev pub error_fields : Error → List Field
error_fields x =
    (codes "code", option_map whole x.code)
    ∷ (codes "message", option_map string x.message)
    ∷ []

unfoldable pub error_written : Error → Data
error_written x = fields (error_fields x)
