-- Where the referrers of a manifest are listed (OCI distribution specification, "Listing Referrers").
use Rattle.std.specs.Prelude.{ℕ, List, [], ◌∷◌, ◌++◌, Option, Some, None, Result, Ok, Err, codes}
use Rattle.url.specs.Parts.{Parts}
use Rattle.url.specs.Setters.{append_query_pairs}
use Rattle.oci_names.specs.declared.reference.Reference.{Reference}
use Rattle.oci_names.specs.Reference.{repository_of}
use Rattle.engine_terms.specs.declared.settings.Settings.{Settings}
use Rattle.engine_terms.specs.declared.error.GenericCause.TheVariants.{NoDigest}
use Rattle.engine_terms.specs.declared.error.OciDistributionError.{OciDistributionError}
use Rattle.engine_terms.specs.declared.error.OciDistributionError.TheVariants as refusal
use Rattle.json_values.specs.Refusals.{◌>>=◌}
use Rattle.engine_requests.specs.Addresses.{base_text, url_read}

-- the digest whose referrers are requested
abbrev pub digest_given : Option (List ℕ) → Result (List ℕ) OciDistributionError
digest_given None = Err (refusal.GenericError NoDigest)
digest_given (Some digest) = Ok digest

abbrev pub referrers_text : Settings → Reference → List ℕ → List ℕ
referrers_text s image digest = base_text s image ++ repository_of image ++ codes "/referrers/" ++ digest

abbrev pub with_artifact_type : Option (List ℕ) → Parts → Parts
with_artifact_type None url = url
with_artifact_type (Some kind) url = append_query_pairs url ((codes "artifactType", kind) ∷ [])

-- the URL of the list, whose query restricts it to an artifact type if one is requested
abbrev pub referrers_url : Settings → Reference → List ℕ → Option (List ℕ) → Result Parts OciDistributionError
referrers_url s image digest kind = url_read (referrers_text s image digest) >>= λ url. Ok (with_artifact_type kind url)
