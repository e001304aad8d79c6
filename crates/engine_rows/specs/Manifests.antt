-- The manifest of an image, to which an index may lead (OCI image specification, image-index.md).
use Rattle.std.specs.Prelude.{ℕ, List, Option, Some, None, Ok}
use Rattle.oci_names.specs.declared.reference.Reference.{Reference}
use Rattle.oci_auth.specs.declared.auth.RegistryAuth.{RegistryAuth}
use Rattle.oci_manifests.specs.declared.document.OciManifest.{OciManifest}
use Rattle.oci_manifests.specs.declared.document.OciManifest.TheVariants.{Image, ImageIndex}
use Rattle.oci_manifests.specs.declared.manifest.OciImageManifest.{OciImageManifest}
use Rattle.oci_protocol.specs.Proto.{Done, ◌>>=◌}
use Rattle.engine_terms.specs.Contexts.{Context}
use Rattle.engine_answers.specs.Index.{entry_found, entry_manifest, entry_reference, config_text}
use Rattle.engine_requests.specs.Sources.{described}
use Rattle.engine_rows.specs.Rows.{Row}
use Rattle.engine_rows.specs.Pulls.{pull_manifest, held_blob}

-- the manifest of an index's entry, which may not be another index
unfoldable pub pull_entry : Context → Reference → RegistryAuth → List ℕ → Row OciImageManifest
pull_entry s image a digest = do
  found ← pull_manifest s (entry_reference image digest) a
  Done (entry_manifest digest found.0)

-- A manifest with its digest. For an index it is the manifest of the selected entry, with the entry's digest, and the
-- digest of the index.
abbrev pub manifest_by : Context → Reference → RegistryAuth → OciManifest → List ℕ
    → Row (OciImageManifest × List ℕ × Option (List ℕ))
manifest_by s image a (Image manifest) digest = Done (Ok (manifest, digest, None))
manifest_by s image a (ImageIndex index) digest = do
  entry ← Done (entry_found s.settings.platform_resolver index.manifests)
  manifest ← pull_entry s image a entry
  Done (Ok (manifest, entry, Some digest))

-- an image's manifest with its digest, and the digest of the index that led to it
unfoldable pub pull_image_manifest_and_list_digest : Context → Reference → RegistryAuth
    → Row (OciImageManifest × List ℕ × Option (List ℕ))
pull_image_manifest_and_list_digest s image a = do
  found ← pull_manifest s image a
  manifest_by s image a found.0 found.1

unfoldable pub pull_image_manifest : Context → Reference → RegistryAuth → Row (OciImageManifest × List ℕ)
pull_image_manifest s image a = do
  found ← pull_image_manifest_and_list_digest s image a
  Done (Ok (found.0, found.1))

-- the same with its configuration as text, which comes before the digest of the index
unfoldable pub pull_manifest_and_config_and_list_digest : Context → Reference → RegistryAuth
    → Row (OciImageManifest × List ℕ × List ℕ × Option (List ℕ))
pull_manifest_and_config_and_list_digest s image a = do
  found ← pull_image_manifest_and_list_digest s image a
  content ← held_blob s image (described found.0.config)
  config ← Done (config_text content)
  Done (Ok (found.0, found.1, config, found.2))

unfoldable pub pull_manifest_and_config : Context → Reference → RegistryAuth
    → Row (OciImageManifest × List ℕ × List ℕ)
pull_manifest_and_config s image a = do
  found ← pull_manifest_and_config_and_list_digest s image a
  Done (Ok (found.0, found.1, found.2))
