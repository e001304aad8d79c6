-- Configuration files as the bytes of a configuration.
use Rattle.std.specs.Prelude.{◌≡◌, ℕ, List, Option, Some, None, Result, Ok, Err, ⊤, codes}
use Rattle.std.specs.FinMap.{FinMap}
use Rattle.serde_json.specs.Written.{compact_text}
use Rattle.json_values.specs.Places.{by_bytes}
use Rattle.json_tables.specs.Plain.{read_plain}
use Rattle.oci_manifests.specs.declared.blob.Config.{Config}
use Rattle.oci_docs.specs.declared.conversion.ConfigError.{ConfigError}
use Rattle.oci_docs.specs.declared.conversion.ConfigError.TheVariants.{Unreadable, WantOfMemory}
use Rattle.oci_docs.specs.declared.file.ConfigFile.{ConfigFile}
use Rattle.oci_docs.specs.File.{file_of, file_written}

-- the file in the bytes, if they are JSON without floats
abbrev pub file_in : List ℕ → Option ConfigFile
file_in = read_plain file_of

-- the file, or `Unreadable` if and only if the bytes contain none, or out of memory
abbrev pub ReadsFile : Result ConfigFile ConfigError → List ℕ → Type 0
ReadsFile (Ok file) bytes = file_in bytes ≡ Some file
ReadsFile (Err Unreadable) bytes = file_in bytes ≡ None
ReadsFile (Err WantOfMemory) bytes = ⊤

-- the compact text of a file
abbrev pub file_text : ConfigFile → List ℕ
file_text file = compact_text (file_written file)

-- a configuration with OCI's media type that contains the file, with these annotations
abbrev pub holding : ConfigFile → Option (FinMap by_bytes (List ℕ)) → Config
holding file annotations = record {
  content = file_text file;
  media_type = codes "application/vnd.oci.image.config.v1+json";
  annotations = annotations;
}
