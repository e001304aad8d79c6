-- What a check of an image reads.
use Rattle.std.specs.Prelude.{ℕ, List, [], ◌∷◌, Option, Some, codes}
use Rattle.serde_json.specs.Data.{Data}
use Rattle.json_tables.specs.Reading.{◌>>=◌, u64_of}
use Rattle.json_tables.specs.Objects.{only}
use Rattle.json_tables.specs.Member.{required}
use Rattle.live_host.specs.Names.{frame_named}
use Rattle.live_pull.specs.Settings.{documents_of}
use Rattle.pull_lock.specs.Files.{entry_of}
use Rattle.live_check.specs.declared.settings.CheckSettings.{CheckSettings}

-- the members of the frame
abbrev pub members : List (List ℕ)
members = codes "entry" ∷ codes "settings" ∷ codes "first" ∷ codes "end" ∷ codes "frame" ∷ []

-- The frame `check`, with no other members: the documents of an image as an entry of a lock file has them, the frame
-- `documents` that they are checked under, and the blobs from one index up to another one.
unfoldable pub check_of : Data → Option CheckSettings
check_of d = do
  known ← only members d
  name ← frame_named (codes "check") d
  first ← required u64_of (codes "first") d
  end ← required u64_of (codes "end") d
  entry ← required entry_of (codes "entry") d
  settings ← required documents_of (codes "settings") d
  Some (record { entry = entry; settings = settings; first = first; end = end })
