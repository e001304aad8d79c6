-- The platform for which an image is built (OCI image specification, image-index.md).
use Rattle.std.specs.Prelude.{List, [], ◌∷◌, Option, Some, option_map, codes}
use Rattle.serde_json.specs.Data.{Data, string}
use Rattle.json_values.specs.Writing.{listed}
use Rattle.json_tables.specs.Reading.{◌>>=◌, text_of, list_of}
use Rattle.json_tables.specs.Member.{required, optional}
use Rattle.json_tables.specs.Fields.{Field, fields}
use Rattle.oci_manifests.specs.declared.platform.Platform.{Platform}

unfoldable pub platform_of : Data → Option Platform
platform_of d = do
  architecture ← required text_of (codes "architecture") d
  os ← required text_of (codes "os") d
  os_version ← optional text_of (codes "os.version") d
  os_features ← optional (list_of text_of) (codes "os.features") d
  variant ← optional text_of (codes "variant") d
  features ← optional (list_of text_of) (codes "features") d
  Some (record {
    architecture = architecture;
    os = os;
    os_version = os_version;
    os_features = os_features;
    variant = variant;
    features = features;
  })

-- how it is written
abbrev pub platform_fields : Platform → List Field
platform_fields x =
    (codes "architecture", Some (string x.architecture))
    ∷ (codes "os", Some (string x.os))
    ∷ (codes "os.version", option_map string x.os_version)
    ∷ (codes "os.features", option_map (listed string) x.os_features)
    ∷ (codes "variant", option_map string x.variant)
    ∷ (codes "features", option_map (listed string) x.features)
    ∷ []

unfoldable pub platform_written : Platform → Data
platform_written x = fields (platform_fields x)
