-- The heads of the frames that are sent beside requests.
use Rattle.std.specs.Prelude.{ℕ, [], ◌∷◌, codes}
use Rattle.json_tables.specs.Fields.{fields}
use Rattle.serde_json.specs.Data.{Data}
use Rattle.live_host.specs.Heads.{text_field, count_field}

abbrev pub begin_head : Data
begin_head = fields (text_field (codes "frame") (codes "begin") ∷ count_field (codes "version") 2 ∷ [])

-- as many bytes of lines follow it
abbrev pub lines_head : ℕ → Data
lines_head count = fields (text_field (codes "frame") (codes "lines") ∷ count_field (codes "bytes") count ∷ [])
