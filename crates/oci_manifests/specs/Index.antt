-- An image index (OCI image specification, image-index.md).
use Rattle.std.specs.Prelude.{List, [], ◌∷◌, Option, Some, option_map, codes}
use Rattle.serde_json.specs.Data.{Data, string, number, unsigned}
use Rattle.json_values.specs.Writing.{listed, map_written}
use Rattle.json_tables.specs.Reading.{◌>>=◌, text_of, u8_of, list_of, map_of}
use Rattle.json_tables.specs.Member.{required, optional}
use Rattle.json_tables.specs.Fields.{Field, fields}
use Rattle.oci_manifests.specs.declared.index.OciImageIndex.{OciImageIndex}
use Rattle.oci_manifests.specs.IndexEntry.{entry_of, entry_written}

unfoldable pub index_of : Data → Option OciImageIndex
index_of d = do
  schema_version ← required u8_of (codes "schemaVersion") d
  media_type ← optional text_of (codes "mediaType") d
  manifests ← required (list_of entry_of) (codes "manifests") d
  artifact_type ← optional text_of (codes "artifactType") d
  annotations ← optional (map_of text_of) (codes "annotations") d
  Some (record {
    schema_version = schema_version;
    media_type = media_type;
    manifests = manifests;
    artifact_type = artifact_type;
    annotations = annotations;
  })

-- how it is written
abbrev pub index_fields : OciImageIndex → List Field
index_fields x =
    (codes "schemaVersion", Some (number (unsigned x.schema_version)))
    ∷ (codes "mediaType", option_map string x.media_type)
    ∷ (codes "manifests", Some (listed entry_written x.manifests))
    ∷ (codes "artifactType", option_map string x.artifact_type)
    ∷ (codes "annotations", option_map (map_written string) x.annotations)
    ∷ []

unfoldable pub index_written : OciImageIndex → Data
index_written x = fields (index_fields x)
