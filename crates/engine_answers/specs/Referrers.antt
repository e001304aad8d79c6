-- The referrers of a manifest (OCI distribution specification, "Listing Referrers", "Referrers Tag Schema").
use Rattle.std.specs.Prelude.{ℕ, Bool, true, false, List, [], ◌∷◌, ◌++◌, Option, Some, None, Result, Ok, Err, codes}
use Rattle.std.specs.Prelude.{map, filter, chars, encode_utf8_all, bytes_eq, nat_eq, ◌==◌, if◌then◌else◌}
use Rattle.json_values.specs.JsonText.{json_of}
use Rattle.oci_names.specs.declared.reference.Reference.{Reference}
use Rattle.oci_names.specs.Reference.{repository_of, resolved_registry}
use Rattle.oci_manifests.specs.declared.document.OciManifest.{OciManifest}
use Rattle.oci_manifests.specs.declared.document.OciManifest.TheVariants.{Image, ImageIndex}
use Rattle.oci_manifests.specs.declared.index.OciImageIndex.{OciImageIndex}
use Rattle.oci_manifests.specs.declared.index_entry.ImageIndexEntry.{ImageIndexEntry}
use Rattle.engine_answers.specs.declared.answers.Got.{Got}
use Rattle.engine_terms.specs.declared.settings.Settings.{Settings}
use Rattle.engine_terms.specs.declared.error.GenericCause.TheVariants.{NoDigest}
use Rattle.engine_terms.specs.declared.error.SpecViolation.TheVariants.{ReferrersTag}
use Rattle.engine_terms.specs.declared.error.OciDistributionError.{OciDistributionError}
use Rattle.engine_terms.specs.declared.error.OciDistributionError.TheVariants as refusal
use Rattle.json_values.specs.Refusals.{◌>>=◌}
use Rattle.engine_answers.specs.Answers.{accepted}
use Rattle.engine_answers.specs.Documents.{plain_of, tables_read}

-- ---- the list of referrers

abbrev pub index_in : List ℕ → OciManifest → Result OciImageIndex OciDistributionError
index_in body (ImageIndex index) = Ok index
index_in body (Image manifest) = Err (refusal.ManifestParsingError body)

-- the index that the bytes are, if they are not also a manifest
abbrev pub index_read : List ℕ → Result OciImageIndex OciDistributionError
index_read body = tables_read body (plain_of (json_of body)) >>= index_in body

-- the index in a response of status 200
abbrev pub referrers_in : Got → Result OciImageIndex OciDistributionError
referrers_in got = accepted 200 got.url got.answer >>= λ answer. index_read answer.body

-- ---- the tag of registries without such a list

-- a dash replacing each colon
abbrev pub dashed : ℕ → ℕ
dashed c = if c == 58 then 45 else c

abbrev pub referrers_tag : List ℕ → List ℕ
referrers_tag digest = encode_utf8_all (map dashed (chars digest))

-- the tag at the registry that the image is requested from
abbrev pub fallback_reference : Reference → List ℕ → Reference
fallback_reference image digest = record {
  registry = resolved_registry image;
  mirror = None;
  repository = repository_of image;
  tag = Some (referrers_tag digest);
  digest = None;
}

-- an index without entries
abbrev pub no_referrers : OciImageIndex
no_referrers = record {
  schema_version = 2;
  media_type = Some (codes "application/vnd.oci.image.index.v1+json");
  manifests = [];
  artifact_type = None;
  annotations = None;
}

-- the registry states that the tag does not exist
abbrev pub is_absent : OciDistributionError → Bool
is_absent (refusal.RegistryError envelope url) = true
is_absent (refusal.ImageManifestNotFoundError digest) = true
is_absent (refusal.ServerError status url body) = nat_eq status 404
is_absent _ = false

abbrev pub is_type : List ℕ → Option (List ℕ) → Bool
is_type kind None = false
is_type kind (Some own) = bytes_eq own kind

abbrev pub is_of_type : List ℕ → ImageIndexEntry → Bool
is_of_type kind entry = is_type kind entry.artifact_type

-- the entries of this artifact type, if one is requested
abbrev pub restricted : Option (List ℕ) → OciImageIndex → OciImageIndex
restricted None index = index
restricted (Some kind) index = record index { manifests = filter (is_of_type kind) index.manifests }

abbrev pub tag_index : List ℕ → Option (List ℕ) → OciManifest → Result OciImageIndex OciDistributionError
tag_index digest kind (ImageIndex index) = Ok (restricted kind index)
tag_index digest kind (Image manifest) = Err (refusal.SpecViolationError (ReferrersTag (referrers_tag digest)))

-- the index that the response to the tag's request results in
abbrev pub tagged_index : List ℕ → Option (List ℕ) → Result (OciManifest × List ℕ) OciDistributionError
    → Result OciImageIndex OciDistributionError
tagged_index digest kind (Ok found) = tag_index digest kind found.0
tagged_index digest kind (Err e) = if is_absent e then Ok no_referrers else Err e
