-- Where an upload continues, as a response states (OCI distribution specification, "Pushing blobs").
use Rattle.std.specs.Prelude.{ℕ, List, [], ◌∷◌, ◌++◌, Option, Some, None, Result, Ok, Err, codes, nat_eq}
use Rattle.std.specs.Prelude.{if◌then◌else◌}
use Rattle.oci_names.specs.declared.reference.Reference.{Reference}
use Rattle.oci_transport.specs.Headers.{first_of, is_text}
use Rattle.oci_transport.specs.declared.message.AnswerHead.{AnswerHead}
use Rattle.engine_terms.specs.declared.error.SpecViolation.TheVariants.{Status}
use Rattle.engine_terms.specs.declared.error.OciDistributionError.{OciDistributionError}
use Rattle.engine_terms.specs.declared.error.OciDistributionError.TheVariants as refusal
use Rattle.engine_terms.specs.declared.settings.Settings.{Settings}
use Rattle.engine_requests.specs.Addresses.{registry_text}

-- a location that begins with a slash is at the registry
abbrev pub resolved : Settings → Reference → List ℕ → List ℕ
resolved s image [] = []
resolved s image (c ∷ cs) = if nat_eq c 47 then registry_text s image ++ c ∷ cs else c ∷ cs

-- the location of a header's value
abbrev pub location_of : Settings → Reference → Option (List ℕ) → Result (List ℕ) OciDistributionError
location_of s image None = Err refusal.RegistryNoLocationError
location_of s image (Some value) =
    if is_text value then Ok (resolved s image value) else Err (refusal.HeaderValueError value)

-- the location that a response names; only one with the expected status is accepted
unfoldable pub located : Settings → Reference → ℕ → List ℕ → AnswerHead → Result (List ℕ) OciDistributionError
located s image expected url head =
    if nat_eq head.status expected
    then location_of s image (first_of (codes "location") head.headers)
    else Err (refusal.SpecViolationError (Status expected head.status url))
