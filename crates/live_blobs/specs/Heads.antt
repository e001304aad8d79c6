-- The head of the frame that is sent of blobs.
use Rattle.std.specs.Prelude.{ℕ, List, [], ◌∷◌, Some, codes}
use Rattle.serde_json.specs.Data.{Data, string}
use Rattle.json_tables.specs.Fields.{fields}
use Rattle.json_values.specs.Writing.{listed}
use Rattle.live_host.specs.Heads.{text_field}

-- the digests of the blobs that were received and checked, in order
abbrev pub stood_head : List (List ℕ) → Data
stood_head digests = fields (text_field (codes "frame") (codes "stood")
    ∷ (codes "digests", Some (listed string digests)) ∷ [])
