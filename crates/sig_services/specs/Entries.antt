-- The calls for entries of Rekor, each of one request (its API).
use Rattle.std.specs.Prelude.{ℕ, ℤ, List, [], ◌∷◌, ◌++◌, Some, None, codes}
use Rattle.std.specs.Fmt.{signed_decimal}
use Rattle.form_urlencoded.specs.Form.{byte_serialize}
use Rattle.json_tables.specs.Plain.{read_plain}
use Rattle.service_models.specs.LogEntry.{log_entry_of}
use Rattle.service_models.specs.declared.log_entry.LogEntry.{LogEntry}
use Rattle.oci_transport.specs.declared.message.Method.TheVariants.{Get, Post}
use Rattle.sig_services.specs.Exchange.{Row}
use Rattle.sig_services.specs.Body.{text_body}
use Rattle.sig_services.specs.Call.{call}
use Rattle.sig_services.specs.Request.{queried}
use Rattle.sig_services.specs.Entities.{create_error, by_index_error, by_uuid_error, search_log_error}
use Rattle.sig_services.specs.declared.configuration.Configuration.{Configuration}
use Rattle.sig_services.specs.declared.error.Error.{Error}
use Rattle.sig_services.specs.declared.entities.CreateLogEntryError.{CreateLogEntryError}
use Rattle.sig_services.specs.declared.entities.GetLogEntryByIndexError.{GetLogEntryByIndexError}
use Rattle.sig_services.specs.declared.entities.GetLogEntryByUuidError.{GetLogEntryByUuidError}
use Rattle.sig_services.specs.declared.entities.SearchLogQueryError.{SearchLogQueryError}

abbrev pub index_path : ℤ → List ℕ
index_path index = queried (codes "/log/entries") ((codes "logIndex", signed_decimal index) ∷ [])

abbrev pub uuid_path : List ℕ → List ℕ
uuid_path uuid = codes "/log/entries/" ++ byte_serialize uuid

-- an entry is submitted to the log
abbrev pub create_log_entry : Configuration → List ℕ → Row (Error CreateLogEntryError) LogEntry
create_log_entry c text = call (read_plain log_entry_of) create_error c Post (codes "/log/entries") (Some text)

abbrev pub get_log_entry_by_index : Configuration → ℤ → Row (Error GetLogEntryByIndexError) LogEntry
get_log_entry_by_index c index = call (read_plain log_entry_of) by_index_error c Get (index_path index) None

abbrev pub get_log_entry_by_uuid : Configuration → List ℕ → Row (Error GetLogEntryByUuidError) LogEntry
get_log_entry_by_uuid c uuid = call (read_plain log_entry_of) by_uuid_error c Get (uuid_path uuid) None

abbrev pub search_log_query : Configuration → List ℕ → Row (Error SearchLogQueryError) (List ℕ)
search_log_query c text = call text_body search_log_error c Post (codes "/log/entries/retrieve") (Some text)
