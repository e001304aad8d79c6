-- What is written.
use Rattle.std.specs.Prelude.{◌≡◌, ℕ, List, Option, Some, None, option_map, false}
use Rattle.serde_json.specs.Data.{Data}
use Rattle.serde_json.specs.Written.{has_float, compact_text}
use Rattle.json_values.specs.JsonText.{json_of}
use Rattle.json_tables.specs.Plain.{read_plain}
use Rattle.oci_manifests.specs.Manifest.{manifest_of, manifest_written}

-- the JSON in the bytes as a compact text; unspecified if it contains a float
abbrev pub Prints : Option Data → Option (List ℕ) → Type 0
Prints None found = found ≡ None
Prints (Some d) found = has_float d ≡ false → found ≡ Some (compact_text d)

abbrev pub PrintsJson : List ℕ → Option (List ℕ) → Type 0
PrintsJson bytes found = Prints (json_of bytes) found

-- the manifest in the bytes, written again
abbrev pub manifest_again : List ℕ → Option (List ℕ)
manifest_again bytes =
    option_map (λ manifest. compact_text (manifest_written manifest)) (read_plain manifest_of bytes)
