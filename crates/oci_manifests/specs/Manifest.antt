-- An image manifest (OCI image specification, manifest.md).
use Rattle.std.specs.Prelude.{List, [], ◌∷◌, Option, Some, option_map, codes}
use Rattle.serde_json.specs.Data.{Data, string, number, unsigned}
use Rattle.json_values.specs.Writing.{listed, map_written}
use Rattle.json_tables.specs.Reading.{◌>>=◌, text_of, u8_of, list_of, map_of}
use Rattle.json_tables.specs.Member.{required, optional}
use Rattle.json_tables.specs.Fields.{Field, fields}
use Rattle.oci_manifests.specs.declared.manifest.OciImageManifest.{OciImageManifest}
use Rattle.oci_manifests.specs.Descriptor.{descriptor_of, descriptor_written}

unfoldable pub manifest_of : Data → Option OciImageManifest
manifest_of d = do
  schema_version ← required u8_of (codes "schemaVersion") d
  media_type ← optional text_of (codes "mediaType") d
  config ← required descriptor_of (codes "config") d
  layers ← required (list_of descriptor_of) (codes "layers") d
  subject ← optional descriptor_of (codes "subject") d
  artifact_type ← optional text_of (codes "artifactType") d
  annotations ← optional (map_of text_of) (codes "annotations") d
  Some (record {
    schema_version = schema_version;
    media_type = media_type;
    config = config;
    layers = layers;
    subject = subject;
    artifact_type = artifact_type;
    annotations = annotations;
  })

-- how it is written
abbrev pub manifest_fields : OciImageManifest → List Field
manifest_fields x =
    (codes "schemaVersion", Some (number (unsigned x.schema_version)))
    ∷ (codes "mediaType", option_map string x.media_type)
    ∷ (codes "config", Some (descriptor_written x.config))
    ∷ (codes "layers", Some (listed descriptor_written x.layers))
    ∷ (codes "subject", option_map descriptor_written x.subject)
    ∷ (codes "artifactType", option_map string x.artifact_type)
    ∷ (codes "annotations", option_map (map_written string) x.annotations)
    ∷ []

unfoldable pub manifest_written : OciImageManifest → Data
manifest_written x = fields (manifest_fields x)
