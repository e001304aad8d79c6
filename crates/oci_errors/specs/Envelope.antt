-- The error body of a registry (OCI distribution specification, "Error Codes").
use Rattle.std.specs.Prelude.{ℕ, List, [], ◌∷◌, map, Bool, Option, Some, None, codes}
use Rattle.std.specs.List.{list_any}
use Rattle.serde_json.specs.Data.{Data, string}
use Rattle.serde_json.specs.Written.{has_float}
use Rattle.json_values.specs.Writing.{listed}
use Rattle.json_tables.specs.Reading.{◌>>=◌, text_of, list_of}
use Rattle.json_tables.specs.Member.{required, or_null, at_name}
use Rattle.json_tables.specs.Fields.{Field, fields}
use Rattle.oci_errors.specs.declared.envelope.OciError.{OciError}
use Rattle.oci_errors.specs.declared.envelope.OciEnvelope.{OciEnvelope}
use Rattle.oci_errors.specs.ErrorCode.{code_of, code_written, normal_code}

-- a string, empty if the member is missing
abbrev pub text_or_empty : Option Data → Option (List ℕ)
text_or_empty None = Some []
text_or_empty (Some d) = text_of d

unfoldable pub error_of : Data → Option OciError
error_of d = do
  code ← required code_of (codes "code") d
  message ← at_name text_or_empty (codes "message") d
  detail ← at_name or_null (codes "detail") d
  Some (record { code = code; message = message; detail = detail })

unfoldable pub envelope_of : Data → Option OciEnvelope
envelope_of d = do
  errors ← required (list_of error_of) (codes "errors") d
  Some (record { errors = errors })

-- how an error is written
abbrev pub error_fields : OciError → List Field
error_fields x =
    (codes "code", Some (code_written x.code))
    ∷ (codes "message", Some (string x.message))
    ∷ (codes "detail", Some x.detail)
    ∷ []

unfoldable pub error_written : OciError → Data
error_written x = fields (error_fields x)

abbrev pub normal_error : OciError → OciError
normal_error x = record x { code = normal_code x.code }

-- whether the detail contains a float
abbrev pub detail_has_float : OciError → Bool
detail_has_float x = has_float x.detail

-- how an envelope is written
abbrev pub envelope_fields : OciEnvelope → List Field
envelope_fields x = (codes "errors", Some (listed error_written x.errors)) ∷ []

unfoldable pub envelope_written : OciEnvelope → Data
envelope_written x = fields (envelope_fields x)

abbrev pub normal_envelope : OciEnvelope → OciEnvelope
normal_envelope x = record { errors = map normal_error x.errors }

abbrev pub details_have_float : OciEnvelope → Bool
details_have_float x = list_any detail_has_float x.errors
