-- The result of parsing a text decides its JSON value.
use Rattle.std.proofs.Common.{◌≡◌, ℕ, List, Bool, true, false, if◌then◌else◌, Some, None, refl, ap, ◌∙◌}
use Rattle.std.specs.Str.{IsUtf8, is_utf8}
use Rattle.std.proofs.lemmas.Str.{IsUtf8-from_is_utf8, is_utf8-from_IsUtf8}
use Rattle.serde_json.specs.Data.{Data}
use Rattle.serde_json.specs.Read.{read}
use Rattle.json_values.specs.JsonText.{json_of}

pub json_of-read : (bytes : List ℕ) (d : Data) → IsUtf8 bytes → read bytes ≡ Some d → json_of bytes ≡ Some d
json_of-read bytes d spelt said = ap (λ b. if b then read bytes else None) (is_utf8-from_IsUtf8 bytes spelt) ∙ said

json_of-refused_by : (bytes : List ℕ) (b : Bool) → is_utf8 bytes ≡ b → (IsUtf8 bytes → read bytes ≡ None) → json_of bytes ≡ None
json_of-refused_by bytes true spelt said = ap (λ b. if b then read bytes else None) spelt ∙ said (IsUtf8-from_is_utf8 bytes spelt)
json_of-refused_by bytes false spelt said = ap (λ b. if b then read bytes else None) spelt

pub json_of-refused : (bytes : List ℕ) → (IsUtf8 bytes → read bytes ≡ None) → json_of bytes ≡ None
json_of-refused bytes said = json_of-refused_by bytes (is_utf8 bytes) refl said
