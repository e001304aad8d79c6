-- Tests of what leads from the first document to the manifest.
use Rattle.std.specs.Prelude.{◌≡◌, ℕ, Bool, false, ◌&&◌, List, bytes_eq, Option, Some, None}
use Rattle.oci_names.specs.declared.reference.Reference.{Reference}
use Rattle.oci_names.specs.Reference.{digest_of}
use Rattle.oci_digests.specs.Names.{Names, names}
use Rattle.oci_manifests.specs.declared.document.OciManifest.{OciManifest}
use Rattle.oci_manifests.specs.declared.document.OciManifest.TheVariants.{Image, ImageIndex}
use Rattle.oci_manifests.specs.declared.index.OciImageIndex.{OciImageIndex}
use Rattle.oci_manifests.specs.declared.manifest.OciImageManifest.{OciImageManifest}
use Rattle.oci_manifests.specs.Promise.{picks}
use Rattle.oci_manifests.specs.declared.promise.ResolverPromise.{ResolverPromise}
use Rattle.cosign_chain.specs.Documents.{document_in, is_manifest}
use Rattle.cosign_chain.specs.Links.{named_by}
use Rattle.cosign_chain.specs.SameManifest.{same_manifest, same_option}
use Rattle.cosign_chain.specs.declared.verified_documents.VerifiedDocuments.{VerifiedDocuments}

-- the digest names the first document, as the requested digest does if there is one
abbrev pub AreNamed : Reference → VerifiedDocuments → Type 0
AreNamed image d = Names d.digest d.first
    × ((digest : List ℕ) → digest_of image ≡ Some digest → Names digest d.first)

-- whether they do
abbrev pub is_named : Reference → VerifiedDocuments → Bool
is_named image d = names d.digest d.first && named_by (digest_of image) d.first

-- whether the first document, parsed as this manifest, is the image's
abbrev pub is_first : VerifiedDocuments → OciImageManifest → Bool
is_first d manifest =
    same_manifest manifest d.manifest && bytes_eq d.manifest_bytes d.first
    && bytes_eq d.manifest_digest d.digest && same_option bytes_eq d.list_digest None

-- whether the first document, parsed as this index, leads to the manifest under the promise
abbrev pub is_led : Option ResolverPromise → VerifiedDocuments → OciImageIndex → Bool
is_led None d index = false
is_led (Some promise) d index =
    picks promise index.manifests d.manifest_digest && names d.manifest_digest d.manifest_bytes
    && is_manifest d.manifest (document_in d.manifest_bytes) && same_option bytes_eq d.list_digest (Some d.digest)

-- whether the first document leads to the manifest
abbrev pub leads : Option ResolverPromise → VerifiedDocuments → Option OciManifest → Bool
leads promise d None = false
leads promise d (Some (Image manifest)) = is_first d manifest
leads promise d (Some (ImageIndex index)) = is_led promise d index
