-- The referrers of a manifest (OCI distribution specification, "Listing Referrers").
use Rattle.std.specs.Prelude.{ℕ, List, Option, if◌then◌else◌, nat_eq}
use Rattle.oci_transport.specs.declared.message.Method.TheVariants.{Get}
use Rattle.oci_names.specs.declared.reference.Reference.{Reference}
use Rattle.oci_names.specs.Reference.{digest_of}
use Rattle.oci_auth.specs.declared.token_type.RegistryOperation.TheVariants.{Pull}
use Rattle.oci_manifests.specs.declared.index.OciImageIndex.{OciImageIndex}
use Rattle.oci_protocol.specs.Proto.{Done, bind, ◌>>=◌}
use Rattle.engine_terms.specs.Contexts.{Context}
use Rattle.engine_answers.specs.declared.answers.Got.{Got}
use Rattle.engine_requests.specs.Requests.{manifest_types}
use Rattle.engine_answers.specs.Referrers.{referrers_in, fallback_reference, tagged_index}
use Rattle.engine_requests.specs.ReferrerLists.{digest_given, referrers_url}
use Rattle.engine_rows.specs.Rows.{Row, whole, prepared}
use Rattle.engine_rows.specs.Pulls.{manifest_asked}

-- the response to the request for the list, restricted to an artifact type if one is requested
unfoldable pub referrers_asked : Context → Reference → List ℕ → Option (List ℕ) → Row Got
referrers_asked s image digest kind = do
  url ← Done (referrers_url s.settings image digest kind)
  request ← prepared s image Pull Get url manifest_types
  whole 10 request s.settings.max_body_bytes

-- the index under the tag that replaces the list, or an empty one if the tag does not exist
unfoldable pub referrers_tagged : Context → Reference → List ℕ → Option (List ℕ) → Row OciImageIndex
referrers_tagged s image digest kind =
    bind (manifest_asked s (fallback_reference image digest)) (λ answer. Done (tagged_index digest kind answer))

-- the tag is requested from a registry without such a list
abbrev pub referrers_by : Context → Reference → List ℕ → Option (List ℕ) → Got → Row OciImageIndex
referrers_by s image digest kind got =
    if nat_eq got.answer.status 404 then referrers_tagged s image digest kind else Done (referrers_in got)

-- the index of the referrers of the image's digest, restricted to an artifact type if one is requested
unfoldable pub pull_referrers : Context → Reference → Option (List ℕ) → Row OciImageIndex
pull_referrers s image kind = do
  digest ← Done (digest_given (digest_of image))
  got ← referrers_asked s image digest kind
  referrers_by s image digest kind got
