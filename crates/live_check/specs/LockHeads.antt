-- The frame that the verdict on a lock is sent in.
use Rattle.std.specs.Prelude.{ℕ, Bool, true, false, List, [], ◌∷◌, codes}
use Rattle.serde_json.specs.Data.{Data}
use Rattle.json_tables.specs.Fields.{fields}
use Rattle.live_host.specs.Heads.{text_field}
use Rattle.pull_lock.specs.declared.checking.LockVerdict.{LockVerdict}
use Rattle.pull_lock.specs.declared.checking.LockVerdict.TheVariants.{Holds, Fails}
use Rattle.pull_lock.specs.declared.error.LockError.{LockError}
use Rattle.pull_lock.specs.declared.error.LockError.TheVariants as error

abbrev pub holds_head : Data
holds_head = fields (text_field (codes "frame") (codes "lock") ∷ text_field (codes "verdict") (codes "holds") ∷ [])

-- with the first image that is not locked
abbrev pub fails_head : List ℕ → Data
fails_head image =
    fields (text_field (codes "frame") (codes "lock") ∷ text_field (codes "verdict") (codes "fails")
    ∷ text_field (codes "image") image ∷ [])

-- with why the text is not a lock file
abbrev pub unread_head : List ℕ → Data
unread_head cause =
    fields (text_field (codes "frame") (codes "lock") ∷ text_field (codes "verdict") (codes "refused")
    ∷ text_field (codes "cause") cause ∷ [])

abbrev pub verdict_head : LockVerdict → Data
verdict_head Holds = holds_head
verdict_head (Fails image) = fails_head image

-- whether the verdict is that each image is locked
abbrev pub is_held : LockVerdict → Bool
is_held Holds = true
is_held (Fails image) = false

-- the name of an error's variant
abbrev pub cause_name : LockError → List ℕ
cause_name error.NotText = codes "NotText"
cause_name error.Order = codes "Order"
cause_name error.Unreadable = codes "Unreadable"
cause_name error.NotCanonical = codes "NotCanonical"
cause_name error.WantOfMemory = codes "WantOfMemory"
