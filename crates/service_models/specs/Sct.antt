-- Signed certificate timestamps (RFC 6962, 3.2).
use Rattle.std.specs.Prelude.{ℕ, ◌+◌, ◌*◌, List, ◌∷◌, length, nat_eq, if◌then◌else◌, Option, Some, None, Result, Ok}
use Rattle.std.specs.Prelude.{Err, codes}
use Rattle.serde_json.specs.Data.{Data}
use Rattle.json_tables.specs.Bytes.{base64_of}
use Rattle.json_tables.specs.Reading.{◌>>=◌, u64_of}
use Rattle.json_tables.specs.Member.{required}
use Rattle.service_models.specs.declared.sct.SctError.{SctError}
use Rattle.service_models.specs.declared.sct.SctError.TheVariants.{TooShort, LengthMismatch}
use Rattle.service_models.specs.declared.sct.SCTVersion.{SCTVersion}
use Rattle.service_models.specs.declared.sct.SCTVersion.TheVariants.{V1}
use Rattle.service_models.specs.declared.sct.InnerDetachedSCT.{InnerDetachedSCT}

-- two bytes for the algorithms, two for the length of the signature, and the signature (RFC 5246, 4.7)
abbrev pub sct_signature : List ℕ → Result (List ℕ) SctError
sct_signature (hash ∷ algorithm ∷ high ∷ low ∷ signature) =
    if nat_eq (high * 256 + low) (length signature) then Ok signature else Err LengthMismatch
sct_signature bytes = Err TooShort

abbrev pub signature_in : Result (List ℕ) SctError → Option (List ℕ)
signature_in (Ok signature) = Some signature
signature_in (Err e) = None

abbrev pub signature_of : List ℕ → Option (List ℕ)
signature_of bytes = signature_in (sct_signature bytes)

-- the ID of a log has 32 bytes
abbrev pub log_id_of : List ℕ → Option (List ℕ)
log_id_of bytes = if nat_eq (length bytes) 32 then Some bytes else None

abbrev pub version_by : ℕ → Option SCTVersion
version_by n = if nat_eq n 0 then Some V1 else None

unfoldable pub version_of : Data → Option SCTVersion
version_of d = u64_of d >>= version_by

unfoldable pub inner_sct_of : Data → Option InnerDetachedSCT
inner_sct_of d = do
  sct_version ← required version_of (codes "sct_version") d
  id ← required base64_of (codes "id") d >>= log_id_of
  timestamp ← required u64_of (codes "timestamp") d
  signature ← required base64_of (codes "signature") d >>= signature_of
  extensions ← required base64_of (codes "extensions") d
  Some (record {
    sct_version = sct_version;
    id = id;
    timestamp = timestamp;
    signature = signature;
    extensions = extensions;
  })
