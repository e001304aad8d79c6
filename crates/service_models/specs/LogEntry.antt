-- An entry of the log (Rekor's API, `LogEntry`).
use Rattle.std.specs.Prelude.{Option, Some}
use Rattle.serde_json.specs.Data.{Data}
use Rattle.json_tables.specs.Reading.{◌>>=◌}
use Rattle.json_tables.specs.Objects.{an_object}
use Rattle.service_models.specs.Single.{single_of}
use Rattle.service_models.specs.declared.log_entry.LogEntry.{LogEntry}

-- an object with one member, whose name is the entry's and whose value is an object
unfoldable pub log_entry_of : Data → Option LogEntry
log_entry_of d = do
  found ← single_of d
  object ← an_object found.1
  Some (record { uuid = found.0; entry = found.1 })
