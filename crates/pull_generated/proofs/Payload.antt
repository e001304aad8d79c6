-- What the payload parses as, and the layer that is read from it.
use Rattle.std.proofs.Common.{◌≡◌, ℕ, Bool, true, false, List, [], ◌∷◌, ◌++◌, codes, Option, Some, None, option_map, IsUtf8, refl, sym, ap, subst, ◌∙◌, arith}
use Rattle.std.specs.Prelude.{if◌then◌else◌, option_and_then}
use Rattle.std.specs.List.{concat}
use Rattle.serde_json.specs.Data.{Data, null, string, object, no_members, member}
use Rattle.serde_json.specs.Read.{of_json}
use Rattle.serde_json.specs.Written.{outline, compact_text}
use Rattle.json_values.specs.JsonText.{json_of, plain_json_of, is_plain}
use Rattle.json_tables.specs.Reading.{◌>>=◌}
use Rattle.cosign_parts.specs.Payload.{payload_of, content_of}
use Rattle.cosign_parts.specs.declared.layer.SimpleSigning.{SimpleSigning}
use Rattle.pull_generated.specs.Texts.{sha256_text, payload_text}
use Rattle.pull_generated.proofs.Plain.{AllShow, concat_shows, digest_shows, digest_stays, shown_utf8}
use Rattle.pull_generated.proofs.PlainTexts.{json_compact}
use Rattle.pull_generated.proofs.ImageTexts.{payload_data, payload_spelled}

abbrev parts : List ℕ → List (List ℕ)
parts bytes = codes "{\"critical\":{\"identity\":{\"docker-reference\":\"localhost:5000/gen\"}," ∷ codes "\"image\":{\"docker-manifest-digest\":\"" ∷ sha256_text bytes ∷ codes "\"},\"type\":\"cosign container image signature\"},\"optional\":null}" ∷ []

payload_utf8 : (bytes : List ℕ) → IsUtf8 (payload_text (sha256_text bytes))
unfolding payload_text
payload_utf8 bytes = shown_utf8 (concat (parts bytes)) (concat_shows (parts bytes) (refl, (refl, (digest_shows bytes, (refl, tt)))))

payload_json : (bytes : List ℕ) → json_of (payload_text (sha256_text bytes)) ≡ Some (payload_data (sha256_text bytes))
payload_json bytes =
    let d = payload_data (sha256_text bytes) in
    let spelled = payload_spelled (sha256_text bytes) (digest_stays bytes) in
    ap json_of (sym spelled) ∙ json_compact d d (((tt, tt), ((tt, tt), (tt, tt))), (tt, tt)) (omega arith) (subst IsUtf8 (sym spelled) (payload_utf8 bytes)) refl

abbrev pub signing_of : List ℕ → SimpleSigning
signing_of digest = record { docker_reference = codes "localhost:5000/gen"; docker_manifest_digest = digest; optional = null }

payload_is : (digest : List ℕ) → payload_of (payload_data digest) ≡ Some (signing_of digest)
unfolding payload_of
payload_is digest = refl

pub content_is : (bytes : List ℕ) → content_of (payload_text (sha256_text bytes)) ≡ Some (signing_of (sha256_text bytes))
content_is bytes =
    ap (λ (o : Option Data). option_and_then (λ d. if is_plain d then Some d else None) o >>= payload_of) (payload_json bytes) ∙ payload_is (sha256_text bytes)
