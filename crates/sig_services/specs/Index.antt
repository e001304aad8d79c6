-- The call for the index of Rekor (its API).
use Rattle.std.specs.Prelude.{ℕ, List, Some, codes}
use Rattle.json_tables.specs.Plain.{read_plain}
use Rattle.json_tables.specs.Reading.{list_of, text_of}
use Rattle.oci_transport.specs.declared.message.Method.TheVariants.{Post}
use Rattle.sig_services.specs.Exchange.{Row}
use Rattle.sig_services.specs.Call.{call}
use Rattle.sig_services.specs.Entities.{search_index_error}
use Rattle.sig_services.specs.declared.configuration.Configuration.{Configuration}
use Rattle.sig_services.specs.declared.error.Error.{Error}
use Rattle.sig_services.specs.declared.entities.SearchIndexError.{SearchIndexError}

-- the UUIDs of entries
abbrev pub search_index : Configuration → List ℕ → Row (Error SearchIndexError) (List (List ℕ))
search_index c text =
    call (read_plain (list_of text_of)) search_index_error c Post (codes "/index/retrieve") (Some text)
