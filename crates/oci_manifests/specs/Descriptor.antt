-- A descriptor (OCI image specification, descriptor.md).
use Rattle.std.specs.Prelude.{List, [], ◌∷◌, Option, Some, None, option_map, codes, pos}
use Rattle.serde_json.specs.Data.{Data, string, number}
use Rattle.serde_json.specs.Find.{of_integer}
use Rattle.json_values.specs.Writing.{listed, map_written}
use Rattle.json_tables.specs.Reading.{◌>>=◌, text_of, i64_of, list_of, map_of}
use Rattle.json_tables.specs.Member.{required, optional}
use Rattle.json_tables.specs.Fields.{Field, fields}
use Rattle.oci_manifests.specs.declared.descriptor.OciDescriptor.{OciDescriptor}

unfoldable pub descriptor_of : Data → Option OciDescriptor
descriptor_of d = do
  media_type ← required text_of (codes "mediaType") d
  digest ← required text_of (codes "digest") d
  size ← required i64_of (codes "size") d
  urls ← optional (list_of text_of) (codes "urls") d
  annotations ← optional (map_of text_of) (codes "annotations") d
  artifact_type ← optional text_of (codes "artifactType") d
  Some (record {
    media_type = media_type;
    digest = digest;
    size = size;
    urls = urls;
    annotations = annotations;
    artifact_type = artifact_type;
  })

-- how it is written
abbrev pub descriptor_fields : OciDescriptor → List Field
descriptor_fields x =
    (codes "mediaType", Some (string x.media_type))
    ∷ (codes "digest", Some (string x.digest))
    ∷ (codes "size", Some (number (of_integer x.size)))
    ∷ (codes "urls", option_map (listed string) x.urls)
    ∷ (codes "annotations", option_map (map_written string) x.annotations)
    ∷ (codes "artifactType", option_map string x.artifact_type)
    ∷ []

unfoldable pub descriptor_written : OciDescriptor → Data
descriptor_written x = fields (descriptor_fields x)

-- the empty descriptor, with the media type of OCI's configurations
abbrev pub empty_descriptor : OciDescriptor
empty_descriptor = record {
  media_type = codes "application/vnd.oci.image.config.v1+json";
  digest = [];
  size = pos 0;
  urls = None;
  annotations = None;
  artifact_type = None;
}
