-- Manifests that this crate builds.
use Rattle.std.specs.Prelude.{ℕ, List, [], Option, None, map, length, pos, codes}
use Rattle.json_tables.specs.Reading.{Map}
use Rattle.oci_digests.specs.Names.{digest_text}
use Rattle.oci_names.specs.declared.algorithm.Algorithm.TheVariants.{Sha256}
use Rattle.oci_manifests.specs.declared.descriptor.OciDescriptor.{OciDescriptor}
use Rattle.oci_manifests.specs.declared.manifest.OciImageManifest.{OciImageManifest}
use Rattle.oci_manifests.specs.declared.blob.ImageLayer.{ImageLayer}
use Rattle.oci_manifests.specs.declared.blob.Config.{Config}

-- the descriptor of these bytes: their length and SHA-256 text
abbrev pub descriptor_for : List ℕ → List ℕ → Option (Map (List ℕ)) → OciDescriptor
descriptor_for content media_type annotations = record {
  media_type = media_type;
  digest = digest_text Sha256 content;
  size = pos (length content);
  urls = None;
  annotations = annotations;
  artifact_type = None;
}

-- a manifest of schema version 2 with this configuration, these layers and annotations, and nothing else
abbrev pub manifest_with : OciDescriptor → List OciDescriptor → Option (Map (List ℕ)) → OciImageManifest
manifest_with config layers annotations = record {
  schema_version = 2;
  media_type = None;
  config = config;
  layers = layers;
  subject = None;
  artifact_type = None;
  annotations = annotations;
}

abbrev pub layer_descriptor : ImageLayer → OciDescriptor
layer_descriptor layer = descriptor_for layer.content layer.media_type layer.annotations

-- the manifest of these layers and this configuration
abbrev pub built : List ImageLayer → Config → Option (Map (List ℕ)) → OciImageManifest
built layers config annotations =
    manifest_with (descriptor_for config.content config.media_type None) (map layer_descriptor layers) annotations
