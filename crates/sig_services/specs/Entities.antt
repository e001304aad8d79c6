-- How the bodies of error responses are parsed (Rekor's API): as the first variant that matches.
use Rattle.std.specs.Prelude.{Bool, true, false, option_map, unwrap_or, Option, Some, None, if◌then◌else◌}
use Rattle.serde_json.specs.Data.{Data, Items, no_items, item}
use Rattle.serde_json.specs.Find.{as_array}
use Rattle.service_models.specs.declared.error.Error.{Error}
use Rattle.service_models.specs.Error.{error_of}
use Rattle.sig_services.specs.declared.entities.CreateLogEntryError.{CreateLogEntryError}
use Rattle.sig_services.specs.declared.entities.CreateLogEntryError.TheVariants as create
use Rattle.sig_services.specs.declared.entities.GetLogEntryByIndexError.{GetLogEntryByIndexError}
use Rattle.sig_services.specs.declared.entities.GetLogEntryByIndexError.TheVariants as by_index
use Rattle.sig_services.specs.declared.entities.GetLogEntryByUuidError.{GetLogEntryByUuidError}
use Rattle.sig_services.specs.declared.entities.GetLogEntryByUuidError.TheVariants as by_uuid
use Rattle.sig_services.specs.declared.entities.SearchLogQueryError.{SearchLogQueryError}
use Rattle.sig_services.specs.declared.entities.SearchLogQueryError.TheVariants as search_log
use Rattle.sig_services.specs.declared.entities.SearchIndexError.{SearchIndexError}
use Rattle.sig_services.specs.declared.entities.SearchIndexError.TheVariants as search_index
use Rattle.sig_services.specs.declared.entities.GetPublicKeyError.{GetPublicKeyError}
use Rattle.sig_services.specs.declared.entities.GetPublicKeyError.TheVariants as public_key
use Rattle.sig_services.specs.declared.entities.GetLogInfoError.{GetLogInfoError}
use Rattle.sig_services.specs.declared.entities.GetLogInfoError.TheVariants as log_info
use Rattle.sig_services.specs.declared.entities.GetLogProofError.{GetLogProofError}
use Rattle.sig_services.specs.declared.entities.GetLogProofError.TheVariants as log_proof

-- the empty list
abbrev pub no_items_in : Items → Bool
no_items_in no_items = true
no_items_in (item d ds) = false

abbrev pub is_empty_list : Data → Bool
is_empty_list d = unwrap_or (option_map no_items_in (as_array d)) false

-- an error of the API, or any other value
abbrev pub known_or : {E : Type 0} → (Error → E) → (Data → E) → Data → Option Error → E
known_or known other d (Some e) = known e
known_or known other d None = other d

abbrev pub create_error : Data → CreateLogEntryError
create_error d = known_or create.Status400 create.UnknownValue d (error_of d)

abbrev pub by_index_error : Data → GetLogEntryByIndexError
by_index_error d =
    if is_empty_list d then by_index.Status404
    else known_or by_index.DefaultResponse by_index.UnknownValue d (error_of d)

abbrev pub by_uuid_error : Data → GetLogEntryByUuidError
by_uuid_error d =
    if is_empty_list d then by_uuid.Status404
    else known_or by_uuid.DefaultResponse by_uuid.UnknownValue d (error_of d)

abbrev pub search_log_error : Data → SearchLogQueryError
search_log_error d = known_or search_log.Status400 search_log.UnknownValue d (error_of d)

abbrev pub search_index_error : Data → SearchIndexError
search_index_error d = known_or search_index.Status400 search_index.UnknownValue d (error_of d)

abbrev pub public_key_error : Data → GetPublicKeyError
public_key_error d = known_or public_key.DefaultResponse public_key.UnknownValue d (error_of d)

abbrev pub log_info_error : Data → GetLogInfoError
log_info_error d = known_or log_info.DefaultResponse log_info.UnknownValue d (error_of d)

abbrev pub log_proof_error : Data → GetLogProofError
log_proof_error d = known_or log_proof.Status400 log_proof.UnknownValue d (error_of d)
