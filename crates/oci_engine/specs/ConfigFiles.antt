-- Configurations as configuration files (OCI image specification, config.md).
use Rattle.std.specs.Prelude.{ℕ, List, Option, Some, None, Result, Ok, Err}
use Rattle.oci_docs.specs.Conversion.{file_in}
use Rattle.oci_docs.specs.declared.file.ConfigFile.{ConfigFile}
use Rattle.engine_terms.specs.declared.error.OciDistributionError.{OciDistributionError}
use Rattle.engine_terms.specs.declared.error.OciDistributionError.TheVariants.{ConfigConversionError}

abbrev pub or_unread : List ℕ → Option ConfigFile → Result ConfigFile OciDistributionError
or_unread content None = Err (ConfigConversionError content)
or_unread content (Some file) = Ok file

-- the file that the content parses to
abbrev pub config_file : List ℕ → Result ConfigFile OciDistributionError
config_file content = or_unread content (file_in content)
