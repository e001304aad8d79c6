-- The common first members of every manifest: the schema version and the media type.
use Rattle.std.specs.Prelude.{pos, Bool, true, false, IsTrue, ◌&&◌, Option, Some, option_map, unwrap_or, codes}
use Rattle.std.specs.Ordering.{int_eq}
use Rattle.json_values.specs.JsonText.{is_plain}
use Rattle.serde_json.specs.Data.{Data}
use Rattle.json_tables.specs.Reading.{◌>>=◌, text_of, i32_of}
use Rattle.json_tables.specs.Member.{required, optional}
use Rattle.oci_manifests.specs.Types.{is_manifest_type}
use Rattle.oci_manifests.specs.declared.versioned.Versioned.{Versioned}

unfoldable pub versioned_of : Data → Option Versioned
versioned_of d = do
  schema_version ← required i32_of (codes "schemaVersion") d
  media_type ← optional text_of (codes "mediaType") d
  Some (record { schema_version = schema_version; media_type = media_type })

-- schema version 2, and no media type or one of these
abbrev pub is_known_version : Versioned → Bool
is_known_version v = int_eq v.schema_version (pos 2) && unwrap_or (option_map is_manifest_type v.media_type) true

-- a value without floats that has the common members of an image manifest or an image index
abbrev pub is_versioned : Data → Bool
is_versioned d = is_plain d && unwrap_or (option_map is_known_version (versioned_of d)) false

abbrev pub IsVersioned : Data → Type 0
IsVersioned d = IsTrue (is_versioned d)
