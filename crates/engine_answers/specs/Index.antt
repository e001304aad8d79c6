-- The image of an index (OCI image specification, image-index.md).
use Rattle.std.specs.Prelude.{ℕ, List, [], Option, Some, None, Result, Ok, Err, if◌then◌else◌}
use Rattle.std.specs.Str.{is_utf8}
use Rattle.oci_manifests.specs.declared.document.OciManifest.{OciManifest}
use Rattle.oci_manifests.specs.declared.document.OciManifest.TheVariants.{Image, ImageIndex}
use Rattle.oci_manifests.specs.declared.index_entry.ImageIndexEntry.{ImageIndexEntry}
use Rattle.oci_manifests.specs.declared.manifest.OciImageManifest.{OciImageManifest}
use Rattle.oci_names.specs.declared.reference.Reference.{Reference}
use Rattle.oci_names.specs.Reference.{registry_of, mirror_of, repository_of}
use Rattle.engine_terms.specs.declared.error.GenericCause.TheVariants.{ConfigNotText}
use Rattle.engine_terms.specs.declared.error.OciDistributionError.{OciDistributionError}
use Rattle.engine_terms.specs.declared.error.OciDistributionError.TheVariants as refusal
use Rattle.oci_manifests.specs.Promise.{resolved, lists}
use Rattle.oci_manifests.specs.declared.promise.ResolverPromise.{ResolverPromise}

-- the digest that the resolver returned, which must be an entry's
abbrev pub entry_named : List ImageIndexEntry → Option (List ℕ) → Result (List ℕ) OciDistributionError
entry_named entries None = Err (refusal.ImageManifestNotFoundError [])
entry_named entries (Some digest) =
    if lists digest entries then Ok digest else Err (refusal.ImageManifestNotFoundError digest)

-- the digest of the selected entry
abbrev pub entry_found : Option ResolverPromise → List ImageIndexEntry → Result (List ℕ) OciDistributionError
entry_found None entries = Err refusal.ImageIndexParsingNoPlatformResolverError
entry_found (Some promise) entries = entry_named entries (resolved promise entries)

-- the document of an entry, which may not be an index again
abbrev pub entry_manifest : List ℕ → OciManifest → Result OciImageManifest OciDistributionError
entry_manifest digest (Image manifest) = Ok manifest
entry_manifest digest (ImageIndex index) = Err (refusal.ImageManifestNotFoundError digest)

-- the image by the digest of an entry
abbrev pub entry_reference : Reference → List ℕ → Reference
entry_reference image digest = record {
  registry = registry_of image;
  mirror = mirror_of image;
  repository = repository_of image;
  tag = None;
  digest = Some digest;
}

-- a configuration as text
abbrev pub config_text : List ℕ → Result (List ℕ) OciDistributionError
config_text content = if is_utf8 content then Ok content else Err (refusal.GenericError ConfigNotText)
