-- How a document is parsed (OCI image specification, "Image Manifest", "Image Index").
use Rattle.std.specs.Prelude.{ℕ, pos, Bool, List, Option, Some, None, Result, Ok, Err, is_some, ◌&&◌}
use Rattle.std.specs.Prelude.{if◌then◌else◌, option_and_then}
use Rattle.std.specs.Ordering.{int_eq}
use Rattle.serde_json.specs.Data.{Data}
use Rattle.json_values.specs.JsonText.{json_of, is_plain}
use Rattle.oci_manifests.specs.Types.{is_manifest_type}
use Rattle.oci_manifests.specs.Versioned.{versioned_of}
use Rattle.oci_manifests.specs.Manifest.{manifest_of}
use Rattle.oci_manifests.specs.Index.{index_of}
use Rattle.oci_manifests.specs.Document.{document_of}
use Rattle.oci_manifests.specs.declared.versioned.Versioned.{Versioned}
use Rattle.oci_manifests.specs.declared.document.OciManifest.{OciManifest}
use Rattle.engine_terms.specs.declared.error.OciDistributionError.{OciDistributionError}
use Rattle.engine_terms.specs.declared.error.OciDistributionError.TheVariants as refusal
use Rattle.json_values.specs.Refusals.{◌>>◌}

-- data without floats
abbrev pub plain_of : Option Data → Option Data
plain_of d = option_and_then (λ d. if is_plain d then Some d else None) d

-- no media type, or one of the four of manifests and indexes
abbrev pub type_checked : Option (List ℕ) → Result Unit OciDistributionError
type_checked None = Ok tt
type_checked (Some kind) = if is_manifest_type kind then Ok tt else Err (refusal.UnsupportedMediaTypeError kind)

-- schema version 2, and such a media type
abbrev pub version_checked : List ℕ → Option Versioned → Result Unit OciDistributionError
version_checked body None = Err (refusal.VersionedParsingError body)
version_checked body (Some v) = if int_eq v.schema_version (pos 2) then type_checked v.media_type else Err
    (refusal.UnsupportedSchemaVersionError v.schema_version)

abbrev pub versioned_in : Option Data → Option Versioned
versioned_in d = option_and_then versioned_of (plain_of d)

abbrev pub or_unread : List ℕ → Option OciManifest → Result OciManifest OciDistributionError
or_unread body None = Err (refusal.ManifestParsingError body)
or_unread body (Some document) = Ok document

abbrev pub reads_twice : Data → Bool
reads_twice d = is_some (manifest_of d) && is_some (index_of d)

-- a manifest or an index, and not both
abbrev pub tables_read : List ℕ → Option Data → Result OciManifest OciDistributionError
tables_read body None = Err (refusal.ManifestParsingError body)
tables_read body (Some d) = if reads_twice d then Err (refusal.AmbiguousManifest body) else or_unread body
    (document_of d)

abbrev pub document_from : List ℕ → Option Data → Result OciManifest OciDistributionError
document_from body d = version_checked body (versioned_in d) >> tables_read body (plain_of d)

-- the document that the bytes are
abbrev pub document_read : List ℕ → Result OciManifest OciDistributionError
document_read body = document_from body (json_of body)
