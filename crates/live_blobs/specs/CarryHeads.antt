-- The head of the frame that is sent.
use Rattle.std.specs.Prelude.{ℕ, Bool, true, false, List, [], ◌∷◌, codes}
use Rattle.serde_json.specs.Data.{Data}
use Rattle.json_tables.specs.Fields.{fields}
use Rattle.live_host.specs.Heads.{text_field}

-- whether a blob was pushed, or existed before
abbrev pub state_name : Bool → List ℕ
state_name true = codes "pushed"
state_name false = codes "there"

-- the target has the blob of this digest
abbrev pub carried_head : List ℕ → Bool → Data
carried_head digest pushed = fields (text_field (codes "frame") (codes "carried")
    ∷ text_field (codes "digest") digest
    ∷ text_field (codes "state") (state_name pushed) ∷ [])
