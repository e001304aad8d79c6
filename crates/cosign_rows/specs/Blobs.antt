-- The pull of an image is the pull of its documents, and then that of the blobs which the manifest names.
use Rattle.std.specs.Prelude.{◌≡◌, ℕ, List, Ok}
use Rattle.oci_names.specs.declared.reference.Reference.{Reference}
use Rattle.oci_auth.specs.declared.auth.RegistryAuth.{RegistryAuth}
use Rattle.oci_manifests.specs.declared.blob.Config.{Config}
use Rattle.oci_manifests.specs.declared.blob.ImageLayer.{ImageLayer}
use Rattle.oci_protocol.specs.Proto.{Done, ◌>>=◌}
use Rattle.engine_terms.specs.Contexts.{Context}
use Rattle.cosign_layers.specs.Satisfying.{CustomVerdict, policy_context}
use Rattle.cosign_layers.specs.declared.policy.PullPolicy.{PullPolicy}
use Rattle.cosign_parts.specs.Trust.{Trust}
use Rattle.cosign_chain.specs.declared.image.VerifiedImage.{VerifiedImage}
use Rattle.cosign_chain.specs.declared.verified_documents.VerifiedDocuments.{VerifiedDocuments}
use Rattle.cosign_rows.specs.Image.{blobs_row}
use Rattle.cosign_rows.specs.References.{digest_reference}
use Rattle.cosign_rows.specs.Verified.{Whole, part_of, verified}
use Rattle.cosign_rows.specs.Rows.{documents_row}

-- the image with these documents and blobs
abbrev pub with_blobs : VerifiedDocuments → Config × List ImageLayer → VerifiedImage
with_blobs d blobs = record {
  digest = d.digest;
  first = d.first;
  manifest_bytes = d.manifest_bytes;
  manifest = d.manifest;
  manifest_digest = d.manifest_digest;
  list_digest = d.list_digest;
  config = blobs.0;
  layers = blobs.1;
  signature = d.signature;
}

-- the blobs of documents, from the image's repository
abbrev pub blobs_after : Context → Reference → List (List ℕ) → VerifiedDocuments → Whole VerifiedImage
blobs_after s image accepted d = do
  blobs ← part_of (blobs_row s (digest_reference image d.digest) accepted d.manifest)
  Done (Ok (with_blobs d blobs))

-- for every trust, context, reference, credentials and media types
abbrev pub PullsAreDocumentsThenBlobs : {V : Type 0} {H : V → Type 0} → PullPolicy V H → CustomVerdict V H → Type 0
PullsAreDocumentsThenBlobs policy own = (trust : Trust) (s : Context) (image : Reference) (a : RegistryAuth)
    (accepted : List (List ℕ))
    → verified (policy_context policy own trust) s image a accepted
    ≡ (documents_row (policy_context policy own trust) s image a >>= (λ d. blobs_after s image accepted d))
