-- An image manifest or an image index.
use Rattle.std.specs.Prelude.{◌≡◌, ℕ, List, true, false, Option, Some, None, IsSome, Result, Ok, Err, ⊤, unwrap_or}
use Rattle.std.specs.Prelude.{codes}
use Rattle.serde_json.specs.Data.{Data}
use Rattle.serde_json.specs.Written.{has_float}
use Rattle.json_tables.specs.declared.error.ReadError.{ReadError}
use Rattle.json_tables.specs.declared.error.ReadError.TheVariants.{Float, Shape, Ambiguous, WantOfMemory}
use Rattle.oci_manifests.specs.declared.manifest.OciImageManifest.{OciImageManifest}
use Rattle.oci_manifests.specs.declared.index.OciImageIndex.{OciImageIndex}
use Rattle.oci_manifests.specs.declared.document.OciManifest.{OciManifest}
use Rattle.oci_manifests.specs.declared.document.OciManifest.TheVariants.{Image, ImageIndex}
use Rattle.oci_manifests.specs.Manifest.{manifest_of, manifest_written}
use Rattle.oci_manifests.specs.Index.{index_of, index_written}

-- the one that is present, or none if both or neither are
abbrev pub one_of : Option OciImageManifest → Option OciImageIndex → Option OciManifest
one_of (Some manifest) None = Some (Image manifest)
one_of None (Some index) = Some (ImageIndex index)
one_of manifest index = None

-- the document, if exactly one of the two tables matches the value
unfoldable pub document_of : Data → Option OciManifest
document_of d = one_of (manifest_of d) (index_of d)

-- `Float` if and only if the value contains a float, else `Ambiguous` if and only if both tables match, else `Shape` if
-- and only if neither does, or out of memory
abbrev pub RefusesManifest : ReadError → Data → Type 0
RefusesManifest Float d = has_float d ≡ true
RefusesManifest Ambiguous d = (has_float d ≡ false) × IsSome (manifest_of d) × IsSome (index_of d)
RefusesManifest Shape d = (has_float d ≡ false) × (manifest_of d ≡ None) × (index_of d ≡ None)
RefusesManifest WantOfMemory d = ⊤

-- the document of a value without floats, or its refusal
abbrev pub ReadsManifest : Result OciManifest ReadError → Data → Type 0
ReadsManifest (Ok document) d = (has_float d ≡ false) × (document_of d ≡ Some document)
ReadsManifest (Err e) d = RefusesManifest e d

-- the media type, else OCI's for a manifest and Docker's for an index
abbrev pub content_type_of : OciManifest → List ℕ
content_type_of (Image manifest) =
    unwrap_or manifest.media_type (codes "application/vnd.oci.image.manifest.v1+json")
content_type_of (ImageIndex index) =
    unwrap_or index.media_type (codes "application/vnd.docker.distribution.manifest.list.v2+json")

-- how the document is written
abbrev pub document_written : OciManifest → Data
document_written (Image manifest) = manifest_written manifest
document_written (ImageIndex index) = index_written index
