-- A proposed entry of the log (Rekor's API, `ProposedEntry`).
use Rattle.std.specs.Prelude.{List, [], ◌∷◌, Bool, Option, Some, codes}
use Rattle.serde_json.specs.Data.{Data, string}
use Rattle.serde_json.specs.Written.{has_float}
use Rattle.json_tables.specs.Reading.{◌>>=◌, text_of}
use Rattle.json_tables.specs.Member.{required}
use Rattle.json_tables.specs.Fields.{Field, fields}
use Rattle.service_models.specs.Values.{any_value}
use Rattle.service_models.specs.declared.proposed_entry.ProposedEntry.{ProposedEntry}

unfoldable pub proposed_entry_of : Data → Option ProposedEntry
proposed_entry_of d = do
  kind ← required text_of (codes "kind") d
  api_version ← required text_of (codes "apiVersion") d
  spec ← required any_value (codes "spec") d
  Some (record { kind = kind; api_version = api_version; spec = spec })

-- how it is written
abbrev pub proposed_entry_fields : ProposedEntry → List Field
proposed_entry_fields x =
    (codes "kind", Some (string x.kind))
    ∷ (codes "apiVersion", Some (string x.api_version))
    ∷ (codes "spec", Some x.spec)
    ∷ []

unfoldable pub proposed_entry_written : ProposedEntry → Data
proposed_entry_written x = fields (proposed_entry_fields x)

-- whether the spec contains a float
abbrev pub spec_has_float : ProposedEntry → Bool
spec_has_float x = has_float x.spec
