-- A request for a certificate (Fulcio's API, versions 1 and 2).
use Rattle.std.specs.Prelude.{ℕ, List, [], ◌∷◌, Some, codes}
use Rattle.base64.specs.Engines.{standard}
use Rattle.base64.specs.GeneralPurpose.{encode_of}
use Rattle.serde_json.specs.Data.{Data, string}
use Rattle.json_tables.specs.Fields.{fields}
use Rattle.service_models.specs.declared.certificate_request.KeyAlgorithm.{KeyAlgorithm}
use Rattle.service_models.specs.declared.certificate_request.KeyAlgorithm.TheVariants.{Ecdsa, Ed25519, Rsa}

unfoldable pub algorithm_text : KeyAlgorithm → List ℕ
algorithm_text Ecdsa = codes "ecdsa"
algorithm_text Ed25519 = codes "ed25519"
algorithm_text Rsa = codes "rsa"

-- bytes as padded standard base64 (RFC 4648, 4)
abbrev pub coded : List ℕ → Data
coded bytes = string (encode_of standard bytes)

abbrev pub public_key_written : KeyAlgorithm → List ℕ → Data
public_key_written algorithm content = fields (
    (codes "algorithm", Some (string (algorithm_text algorithm)))
    ∷ (codes "content", Some (coded content))
    ∷ [])

-- version 1: a public key, and its signature over the challenge
abbrev pub request_written : KeyAlgorithm → List ℕ → List ℕ → Data
request_written algorithm public_key signature = fields (
    (codes "publicKey", Some (public_key_written algorithm public_key))
    ∷ (codes "signedEmailAddress", Some (coded signature))
    ∷ [])

-- version 2: a certificate signing request
abbrev pub signing_request_written : List ℕ → Data
signing_request_written request = fields ((codes "certificateSigningRequest", Some (coded request)) ∷ [])
