-- Bytes encoded in JSON.
use Rattle.std.specs.Prelude.{ℕ, List, [], ◌∷◌, Option, Some, codes}
use Rattle.base64.specs.Engines.{standard}
use Rattle.base64.specs.GeneralPurpose.{decoded_of}
use Rattle.serde_json.specs.Data.{Data, string}
use Rattle.json_tables.specs.Reading.{◌>>=◌, text_of}
use Rattle.json_tables.specs.Objects.{only}
use Rattle.json_tables.specs.Member.{required}

-- the bytes of a string in padded standard base64 (RFC 4648, 4)
abbrev pub base64_of : Data → Option (List ℕ)
base64_of d = text_of d >>= decoded_of standard

-- a string denotes its UTF-8, an object with only the member `base64` the bytes that its string decodes to
abbrev pub bytes_of : Data → Option (List ℕ)
bytes_of (string text) = Some text
bytes_of d = only (codes "base64" ∷ []) d >>= λ known. required base64_of (codes "base64") d
