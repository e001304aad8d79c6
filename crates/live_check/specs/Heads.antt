-- The heads of the frames that are sent.
use Rattle.std.specs.Prelude.{ℕ, List, [], ◌∷◌, Option, Some, None, codes}
use Rattle.serde_json.specs.Data.{Data}
use Rattle.json_tables.specs.Fields.{fields}
use Rattle.live_host.specs.Heads.{text_field}

-- asks for the blob of this digest, whose pieces follow
abbrev pub want_head : List ℕ → Data
want_head digest = fields (text_field (codes "frame") (codes "want") ∷ text_field (codes "digest") digest ∷ [])

-- asks for the next piece
abbrev pub more_head : Data
more_head = fields (text_field (codes "frame") (codes "more") ∷ [])

-- the documents do not hold
abbrev pub documents_head : Data
documents_head =
    fields (text_field (codes "frame") (codes "checked") ∷ text_field (codes "verdict") (codes "documents") ∷ [])

-- the documents hold, and each blob stands
abbrev pub holds_head : Data
holds_head = fields (text_field (codes "frame") (codes "checked") ∷ text_field (codes "verdict") (codes "holds") ∷ [])

-- the documents hold, and the blob of this digest does not stand
abbrev pub blob_head : List ℕ → Data
blob_head digest =
    fields (text_field (codes "frame") (codes "checked") ∷ text_field (codes "verdict") (codes "blob")
    ∷ text_field (codes "digest") digest ∷ [])

-- the verdict on blobs, by the digest of the first that does not stand
abbrev pub verdict_head : Option (List ℕ) → Data
verdict_head None = holds_head
verdict_head (Some digest) = blob_head digest
