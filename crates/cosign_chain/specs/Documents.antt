-- Tests of what leads from the first document of an image to its manifest.
use Rattle.std.specs.Prelude.{ℕ, Bool, false, ◌&&◌, List, bytes_eq, Option, Some, None, option_and_then, if◌then◌else◌}
use Rattle.json_values.specs.JsonText.{json_of}
use Rattle.oci_digests.specs.Names.{names}
use Rattle.oci_manifests.specs.Document.{document_of}
use Rattle.oci_manifests.specs.Versioned.{is_versioned}
use Rattle.oci_manifests.specs.declared.document.OciManifest.{OciManifest}
use Rattle.oci_manifests.specs.declared.document.OciManifest.TheVariants.{Image, ImageIndex}
use Rattle.oci_manifests.specs.declared.index.OciImageIndex.{OciImageIndex}
use Rattle.oci_manifests.specs.declared.manifest.OciImageManifest.{OciImageManifest}
use Rattle.oci_manifests.specs.Promise.{picks}
use Rattle.oci_manifests.specs.declared.promise.ResolverPromise.{ResolverPromise}
use Rattle.cosign_chain.specs.SameManifest.{same_manifest, same_option}
use Rattle.cosign_chain.specs.declared.image.VerifiedImage.{VerifiedImage}

-- the document of a value of the supported version
abbrev pub document_by : Bool → Option OciManifest → Option OciManifest
document_by versioned document = if versioned then document else None

-- the document that the bytes are, if they are one of the supported version
abbrev pub document_in : List ℕ → Option OciManifest
document_in bytes = option_and_then (λ d. document_by (is_versioned d) (document_of d)) (json_of bytes)

-- whether the document is this manifest
abbrev pub is_manifest : OciImageManifest → Option OciManifest → Bool
is_manifest manifest None = false
is_manifest manifest (Some (Image own)) = same_manifest own manifest
is_manifest manifest (Some (ImageIndex index)) = false

-- whether the first document, parsed as this manifest, is the image's
abbrev pub is_first : VerifiedImage → OciImageManifest → Bool
is_first v manifest =
    same_manifest manifest v.manifest && bytes_eq v.manifest_bytes v.first
    && bytes_eq v.manifest_digest v.digest && same_option bytes_eq v.list_digest None

-- whether the first document, parsed as this index, leads to the manifest under the promise
abbrev pub is_led : Option ResolverPromise → VerifiedImage → OciImageIndex → Bool
is_led None v index = false
is_led (Some promise) v index =
    picks promise index.manifests v.manifest_digest && names v.manifest_digest v.manifest_bytes
    && is_manifest v.manifest (document_in v.manifest_bytes) && same_option bytes_eq v.list_digest (Some v.digest)

-- whether the first document leads to the manifest
abbrev pub leads : Option ResolverPromise → VerifiedImage → Option OciManifest → Bool
leads promise v None = false
leads promise v (Some (Image manifest)) = is_first v manifest
leads promise v (Some (ImageIndex index)) = is_led promise v index
