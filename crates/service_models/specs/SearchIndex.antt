-- A search in the log's index (Rekor's API, `SearchIndex`).
use Rattle.std.specs.Prelude.{List, [], ◌∷◌, Option, Some, option_map, codes}
use Rattle.serde_json.specs.Data.{Data, string}
use Rattle.json_tables.specs.Reading.{◌>>=◌, text_of}
use Rattle.json_tables.specs.Member.{optional}
use Rattle.json_tables.specs.Fields.{Field, fields}
use Rattle.service_models.specs.PublicKey.{public_key_of, public_key_written}
use Rattle.service_models.specs.declared.search_index.SearchIndex.{SearchIndex}

unfoldable pub search_index_of : Data → Option SearchIndex
search_index_of d = do
  email ← optional text_of (codes "email") d
  public_key ← optional public_key_of (codes "publicKey") d
  hash ← optional text_of (codes "hash") d
  Some (record { email = email; public_key = public_key; hash = hash })

-- how it is written
abbrev pub search_index_fields : SearchIndex → List Field
search_index_fields x =
    (codes "email", option_map string x.email)
    ∷ (codes "publicKey", option_map public_key_written x.public_key)
    ∷ (codes "hash", option_map string x.hash)
    ∷ []

unfoldable pub search_index_written : SearchIndex → Data
search_index_written x = fields (search_index_fields x)
