-- The text of a payload is read as this payload.
use Rattle.std.proofs.Common.{◌≡◌, ◌||◌, Bool, false, not, List, ℕ, Option, Some, None, refl, ap, ◌∙◌}
use Rattle.std.specs.Prelude.{if◌then◌else◌, option_and_then}
use Rattle.serde_json.specs.Data.{Data}
use Rattle.serde_json.specs.Written.{has_float}
use Rattle.json_values.specs.JsonText.{is_plain}
use Rattle.json_values.proofs.JsonTexts.{json_of-read}
use Rattle.json_tables.specs.Reading.{◌>>=◌}
use Rattle.cosign_parts.specs.Payload.{payload_of, content_of}
use Rattle.cosign_parts.specs.declared.layer.SimpleSigning.{SimpleSigning}
use Rattle.cosign_client.specs.Signature.{Signed, IsPayloadText, CanBeRead, payload_written}

payload_is : (s : SimpleSigning) → payload_of (payload_written s) ≡ Some s
unfolding payload_of
payload_is s = refl

payload_plain : (s : SimpleSigning) → has_float s.optional ≡ false → has_float (payload_written s) ≡ false
payload_plain s plain = ap (λ b. b || false) plain

pub content_is : (signed : Signed) (text : List ℕ) → IsPayloadText signed.0 text → CanBeRead signed → content_of text ≡ Some signed.0
content_is signed text is can =
    ap (λ (o : Option Data). option_and_then (λ d. if is_plain d then Some d else None) o >>= payload_of) (json_of-read text (payload_written signed.0) is.utf8 (is.reads_back can.shallow))
    ∙ ap (λ (b : Bool). (if not b then Some (payload_written signed.0) else None) >>= payload_of) (payload_plain signed.0 can.plain)
    ∙ payload_is signed.0
