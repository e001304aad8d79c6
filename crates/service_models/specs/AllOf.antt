-- The members of an entry besides its kind (Rekor's API, `allOf`).
use Rattle.std.specs.Prelude.{List, [], ◌∷◌, Bool, Option, Some, codes}
use Rattle.serde_json.specs.Data.{Data, string}
use Rattle.serde_json.specs.Written.{has_float}
use Rattle.json_tables.specs.Reading.{◌>>=◌, text_of}
use Rattle.json_tables.specs.Member.{required}
use Rattle.json_tables.specs.Fields.{Field, fields}
use Rattle.service_models.specs.Values.{any_value}
use Rattle.service_models.specs.declared.all_of.EntryAllOf.{EntryAllOf}

unfoldable pub all_of : Data → Option EntryAllOf
all_of d = do
  api_version ← required text_of (codes "apiVersion") d
  spec ← required any_value (codes "spec") d
  Some (record { api_version = api_version; spec = spec })

-- how it is written
abbrev pub all_of_fields : EntryAllOf → List Field
all_of_fields x = (codes "apiVersion", Some (string x.api_version)) ∷ (codes "spec", Some x.spec) ∷ []

unfoldable pub all_of_written : EntryAllOf → Data
all_of_written x = fields (all_of_fields x)

-- whether the spec contains a float
abbrev pub spec_has_float : EntryAllOf → Bool
spec_has_float x = has_float x.spec
