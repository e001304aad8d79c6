-- An entry of an image index (OCI image specification, image-index.md).
use Rattle.std.specs.Prelude.{List, [], ◌∷◌, Option, Some, option_map, codes}
use Rattle.serde_json.specs.Data.{Data, string, number}
use Rattle.serde_json.specs.Find.{of_integer}
use Rattle.json_values.specs.Writing.{map_written}
use Rattle.json_tables.specs.Reading.{◌>>=◌, text_of, i64_of, map_of}
use Rattle.json_tables.specs.Member.{required, optional}
use Rattle.json_tables.specs.Fields.{Field, fields}
use Rattle.oci_manifests.specs.declared.index_entry.ImageIndexEntry.{ImageIndexEntry}
use Rattle.oci_manifests.specs.Platform.{platform_of, platform_written}

unfoldable pub entry_of : Data → Option ImageIndexEntry
entry_of d = do
  media_type ← required text_of (codes "mediaType") d
  digest ← required text_of (codes "digest") d
  size ← required i64_of (codes "size") d
  platform ← optional platform_of (codes "platform") d
  annotations ← optional (map_of text_of) (codes "annotations") d
  artifact_type ← optional text_of (codes "artifactType") d
  Some (record {
    media_type = media_type;
    digest = digest;
    size = size;
    platform = platform;
    annotations = annotations;
    artifact_type = artifact_type;
  })

-- how it is written
abbrev pub entry_fields : ImageIndexEntry → List Field
entry_fields x =
    (codes "mediaType", Some (string x.media_type))
    ∷ (codes "digest", Some (string x.digest))
    ∷ (codes "size", Some (number (of_integer x.size)))
    ∷ (codes "platform", option_map platform_written x.platform)
    ∷ (codes "annotations", option_map (map_written string) x.annotations)
    ∷ (codes "artifactType", option_map string x.artifact_type)
    ∷ []

unfoldable pub entry_written : ImageIndexEntry → Data
entry_written x = fields (entry_fields x)
