-- The calls of a client: each is the engine's call, with its refusals in the call's own error type.
use Rattle.std.specs.Prelude.{ℕ, List, Option}
use Rattle.oci_names.specs.declared.reference.Reference.{Reference}
use Rattle.oci_names.specs.Reference.{whole_text, reads_back}
use Rattle.oci_auth.specs.declared.auth.RegistryAuth.{RegistryAuth}
use Rattle.oci_auth.specs.declared.token_type.RegistryOperation.TheVariants as operation
use Rattle.oci_manifests.specs.declared.blob.Config.{Config}
use Rattle.oci_manifests.specs.declared.blob.ImageLayer.{ImageLayer}
use Rattle.oci_manifests.specs.declared.document.OciManifest.{OciManifest}
use Rattle.oci_manifests.specs.declared.index.OciImageIndex.{OciImageIndex}
use Rattle.oci_manifests.specs.declared.manifest.OciImageManifest.{OciImageManifest}
use Rattle.oci_protocol.specs.Proto.{Done, bind, ◌>>=◌, ◌>>◌}
use Rattle.oci_protocol.specs.Lift.{lifted}
use Rattle.engine_terms.specs.Contexts.{Context}
use Rattle.engine_requests.specs.Sources.{Layer}
use Rattle.engine_rows.specs.Rows.{Row as Engine, token_given}
use Rattle.engine_rows.specs.Pulls.{fetch_manifest_digest, pull_manifest, pull_manifest_raw, held_blob}
use Rattle.engine_rows.specs.Image.{pull}
use Rattle.engine_rows.specs.Referrers.{pull_referrers}
use Rattle.engine_rows.specs.declared.image.ImageData.{ImageData}
use Rattle.push_rows.specs.Images.{push}
use Rattle.push_rows.specs.declared.responses.PushResponse.{PushResponse}
use Rattle.registry_cache.specs.Keys.{manifest_key, pull_key, referrers_key}
use Rattle.registry_calls.specs.declared.error_context.Called.{Called}
use Rattle.registry_calls.specs.declared.error_context.Called.TheVariants.{FetchManifest, Pull, PullManifest, Push}
use Rattle.registry_calls.specs.ErrorContext.{with_error_context}
use Rattle.registry_calls.specs.Caching.{cached}
use Rattle.registry_calls.specs.Clients.{Plain, Row}
use Rattle.registry_cache.specs.KeptCalls.{digests, images, manifests, referrers}

-- ---- uncached

-- a call of the engine with its errors converted
unfoldable pub in_words : Called → Reference → {A : Type 0} → Engine A → Plain A
in_words called image p = bind p (λ r. Done (with_error_context called (whole_text image) r))

unfoldable pub digest_made : Context → Reference → RegistryAuth → Plain (List ℕ)
digest_made s image a = in_words FetchManifest image (fetch_manifest_digest s image a)

unfoldable pub manifest_made : Context → Reference → RegistryAuth → Plain (OciManifest × List ℕ)
manifest_made s image a = in_words PullManifest image (pull_manifest s image a)

unfoldable pub image_made : Context → Reference → RegistryAuth → List (List ℕ) → Plain ImageData
image_made s image a accepted = in_words Pull image (pull s image a accepted)

unfoldable pub document_made : Context → Reference → RegistryAuth → List ℕ → Plain (List ℕ × List ℕ)
document_made s image a types = in_words Pull image (pull_manifest_raw s image a types)

unfoldable pub blob_made : Context → Reference → Layer → Plain (List ℕ)
blob_made s image layer = in_words Pull image (held_blob s image layer)

unfoldable pub push_made : Context → Reference → List ImageLayer → Config → RegistryAuth → Option OciImageManifest
    → Plain PushResponse
push_made s image layers config a manifest = in_words Push image (push s image layers config a manifest)

-- a token is obtained first
unfoldable pub referrers_made : Context → Reference → RegistryAuth → Option (List ℕ) → Plain OciImageIndex
referrers_made s image a kind = do
  in_words FetchManifest image (token_given s image a operation.Pull)
  in_words PullManifest image (pull_referrers s image kind)

-- ---- as clients return them; some clients cache

unfoldable pub digest_call : Context → Reference → RegistryAuth → Row (List ℕ)
digest_call s image a =
    cached (reads_back image) digests (manifest_key image a) s.moment (digest_made s image a)

unfoldable pub manifest_call : Context → Reference → RegistryAuth → Row (OciManifest × List ℕ)
manifest_call s image a =
    cached (reads_back image) manifests (manifest_key image a) s.moment (manifest_made s image a)

unfoldable pub image_call : Context → Reference → RegistryAuth → List (List ℕ) → Row ImageData
image_call s image a accepted =
    cached (reads_back image) images (pull_key image a accepted) s.moment (image_made s image a accepted)

unfoldable pub referrers_call : Context → Reference → RegistryAuth → Option (List ℕ) → Row OciImageIndex
referrers_call s image a kind =
    cached (reads_back image) referrers (referrers_key image a kind) s.moment (referrers_made s image a kind)

-- documents as bytes and blobs are never cached, and nothing of a push is
unfoldable pub document_call : Context → Reference → RegistryAuth → List ℕ → Row (List ℕ × List ℕ)
document_call s image a types = lifted (document_made s image a types)

unfoldable pub blob_call : Context → Reference → Layer → Row (List ℕ)
blob_call s image layer = lifted (blob_made s image layer)

unfoldable pub push_call : Context → Reference → List ImageLayer → Config → RegistryAuth → Option OciImageManifest
    → Row PushResponse
push_call s image layers config a manifest = lifted (push_made s image layers config a manifest)
