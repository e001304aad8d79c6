-- A step in the creation of an image (OCI image specification, config.md, `history`).
use Rattle.std.specs.Prelude.{List, [], ◌∷◌, Option, Some, None, option_map, codes}
use Rattle.serde_json.specs.Data.{Data, string, boolean}
use Rattle.json_tables.specs.Reading.{◌>>=◌, text_of, bool_of}
use Rattle.json_tables.specs.Objects.{an_object}
use Rattle.json_tables.specs.Member.{optional}
use Rattle.json_tables.specs.Fields.{Field, fields}
use Rattle.oci_docs.specs.Reader.{time_of}
use Rattle.oci_docs.specs.Writer.{time_written}
use Rattle.oci_docs.specs.declared.history.History.{History}

unfoldable pub history_members : Data → Option History
history_members d = do
  created ← optional time_of (codes "created") d
  author ← optional text_of (codes "author") d
  created_by ← optional text_of (codes "created_by") d
  comment ← optional text_of (codes "comment") d
  empty_layer ← optional bool_of (codes "empty_layer") d
  Some (record {
    created = created;
    author = author;
    created_by = created_by;
    comment = comment;
    empty_layer = empty_layer;
  })

unfoldable pub history_of : Data → Option History
history_of d = do
  members ← an_object d
  history_members d

-- how it is written
abbrev pub history_fields : History → List Field
history_fields x =
    (codes "created", option_map time_written x.created)
    ∷ (codes "author", option_map string x.author)
    ∷ (codes "created_by", option_map string x.created_by)
    ∷ (codes "comment", option_map string x.comment)
    ∷ (codes "empty_layer", option_map boolean x.empty_layer)
    ∷ []

unfoldable pub history_written : History → Data
history_written x = fields (history_fields x)

-- all fields are none
abbrev pub no_history : History
no_history = record { created = None; author = None; created_by = None; comment = None; empty_layer = None }
