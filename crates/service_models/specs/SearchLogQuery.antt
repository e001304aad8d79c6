-- A query for entries (Rekor's API, `SearchLogQuery`).
use Rattle.std.specs.Prelude.{List, [], ◌∷◌, Bool, false, Option, Some, option_map, unwrap_or, codes}
use Rattle.std.specs.List.{list_any}
use Rattle.serde_json.specs.Data.{Data, string}
use Rattle.json_values.specs.Writing.{listed}
use Rattle.json_tables.specs.Reading.{◌>>=◌, text_of, i32_of, list_of}
use Rattle.json_tables.specs.Member.{optional}
use Rattle.json_tables.specs.Fields.{Field, fields}
use Rattle.service_models.specs.Numbers.{whole}
use Rattle.service_models.specs.ProposedEntry.{proposed_entry_of, proposed_entry_written, spec_has_float}
use Rattle.service_models.specs.declared.search_log_query.SearchLogQuery.{SearchLogQuery}

unfoldable pub query_of : Data → Option SearchLogQuery
query_of d = do
  entry_uuids ← optional (list_of text_of) (codes "entryUUIDs") d
  log_indexes ← optional (list_of i32_of) (codes "logIndexes") d
  entries ← optional (list_of proposed_entry_of) (codes "entries") d
  Some (record { entry_uuids = entry_uuids; log_indexes = log_indexes; entries = entries })

-- how it is written
abbrev pub query_fields : SearchLogQuery → List Field
query_fields x =
    (codes "entryUUIDs", option_map (listed string) x.entry_uuids)
    ∷ (codes "logIndexes", option_map (listed whole) x.log_indexes)
    ∷ (codes "entries", option_map (listed proposed_entry_written) x.entries)
    ∷ []

unfoldable pub query_written : SearchLogQuery → Data
query_written x = fields (query_fields x)

-- whether one of the entries contains a float
abbrev pub entries_have_float : SearchLogQuery → Bool
entries_have_float x = unwrap_or (option_map (list_any spec_has_float) x.entries) false
