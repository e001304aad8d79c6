-- The heads of the frames that are sent, and the reply.
use Rattle.std.specs.Prelude.{ℕ, List, [], ◌∷◌, Option, Some, None, codes}
use Rattle.serde_json.specs.Data.{Data, string}
use Rattle.json_tables.specs.Fields.{fields}
use Rattle.json_values.specs.Writing.{listed}
use Rattle.live_host.specs.Heads.{text_field}
use Rattle.live_host.specs.Names.{frame_named}

-- the requests after it go to the target
abbrev pub side_head : Data
side_head = fields (text_field (codes "frame") (codes "side") ∷ text_field (codes "side") (codes "target") ∷ [])

-- the host is to carry the blobs of the documents to the target
abbrev pub carry_head : Data
carry_head = fields (text_field (codes "frame") (codes "carry") ∷ [])

abbrev pub carried_by : Option (List ℕ) → Option (Unit {0})
carried_by (Some name) = Some tt
carried_by None = None

-- the host carried them
abbrev pub carried_of : Data → Option (Unit {0})
carried_of d = carried_by (frame_named (codes "carried") d)

-- the URL of the document, and the digests of what was pushed, in order
abbrev pub copied_head : List ℕ → List (List ℕ) → Data
copied_head url pushed = fields (text_field (codes "frame") (codes "copied")
    ∷ text_field (codes "url") url
    ∷ (codes "pushed", Some (listed string pushed)) ∷ [])
