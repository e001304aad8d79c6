-- A public key for a search in Rekor (its API, `SearchIndex`).
use Rattle.std.specs.Prelude.{List, [], ◌∷◌, Option, Some, option_map, codes}
use Rattle.serde_json.specs.Data.{Data, string}
use Rattle.json_tables.specs.Reading.{◌>>=◌, text_of}
use Rattle.json_tables.specs.Member.{required, optional}
use Rattle.json_tables.specs.Fields.{Field, fields}
use Rattle.service_models.specs.Format.{format_of, format_written}
use Rattle.service_models.specs.declared.public_key.SearchIndexPublicKey.{SearchIndexPublicKey}

unfoldable pub public_key_of : Data → Option SearchIndexPublicKey
public_key_of d = do
  format ← required format_of (codes "format") d
  content ← optional text_of (codes "content") d
  url ← optional text_of (codes "url") d
  Some (record { format = format; content = content; url = url })

-- how it is written
abbrev pub public_key_fields : SearchIndexPublicKey → List Field
public_key_fields x =
    (codes "format", Some (format_written x.format))
    ∷ (codes "content", option_map string x.content)
    ∷ (codes "url", option_map string x.url)
    ∷ []

unfoldable pub public_key_written : SearchIndexPublicKey → Data
public_key_written x = fields (public_key_fields x)
