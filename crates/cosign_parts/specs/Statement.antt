-- In-toto statements, and single members of them.
use Rattle.std.specs.Prelude.{ℕ, List, Bool, true, false, not, Option, Some, None, codes}
use Rattle.fast_float.specs.Text.{Parts}
use Rattle.json.specs.Token.{Token}
use Rattle.json_tables.specs.Reading.{◌>>=◌, text_of}
use Rattle.json_values.specs.JsonText.{plain_json_of}
use Rattle.serde_json.specs.Data.{Data, Num}
use Rattle.serde_json.specs.Find.{get, is_float}
use Rattle.serde_json.specs.Read.{number_from, number_of}
use Rattle.cosign_parts.specs.Bundle.{envelope_in}
use Rattle.cosign_parts.specs.Payload.{equal_to}
use Rattle.cosign_parts.specs.declared.bundle.Envelope.{Envelope}

-- the member of this name of the object that the bytes encode in JSON without floats
abbrev pub plain_member : List ℕ → List ℕ → Option Data
plain_member name bytes = plain_json_of bytes >>= get name

-- the type of the predicate, if the envelope has an in-toto statement
abbrev pub predicate_of : Envelope → Option (List ℕ)
predicate_of envelope = do
  known ← equal_to (codes "application/vnd.in-toto+json") envelope.payload_type
  predicate ← plain_member (codes "predicateType") envelope.payload
  text_of predicate

-- the same of the bundle that the bytes encode
abbrev pub predicate_in : List ℕ → Option (List ℕ)
predicate_in content = envelope_in content >>= predicate_of

-- for private clauses: a number was read, and it is an integer
abbrev pub is_integer : Option Num → Bool
is_integer None = false
is_integer (Some n) = not (is_float n)

abbrev pub is_unsigned : Parts → Bool
is_unsigned p = is_integer (number_from false p)

abbrev pub is_negative : Parts → Bool
is_negative p = is_integer (number_from true p)

abbrev pub is_whole : List ℕ → Bool
is_whole text = is_integer (number_of text)

abbrev pub is_whole_token : Token → Bool
is_whole_token (Token.number text) = is_whole text
is_whole_token _ = true
