-- The settings of a copy.
use Rattle.std.specs.Prelude.{ℕ, List, [], ◌∷◌, Option, Some, IsOk, codes}
use Rattle.serde_json.specs.Data.{Data}
use Rattle.json_tables.specs.Reading.{◌>>=◌, bool_of}
use Rattle.json_tables.specs.Objects.{only}
use Rattle.json_tables.specs.Member.{required}
use Rattle.oci_names.specs.Reference.{reference_of}
use Rattle.live_host.specs.Names.{frame_named}
use Rattle.live_pull.specs.Settings.{IsReady, documents_of}
use Rattle.live_pull.specs.Target.{target_of}
use Rattle.live_copy.specs.declared.settings.CopySettings.{CopySettings}

-- the members of the frame
abbrev pub members : List (List ℕ)
members = codes "settings" ∷ codes "target" ∷ codes "replace" ∷ codes "tag" ∷ codes "frame" ∷ []

-- The frame `copy`, with no other members: a frame `documents` of the image at the source, the target, whether tags of
-- the target are replaced, and whether the tag is pushed.
unfoldable pub copy_of : Data → Option CopySettings
copy_of d = do
  known ← only members d
  name ← frame_named (codes "copy") d
  replace ← required bool_of (codes "replace") d
  tag ← required bool_of (codes "tag") d
  target ← required target_of (codes "target") d
  settings ← required documents_of (codes "settings") d
  Some (record { settings = settings; target = target; replace = replace; tag = tag })

-- both references parse
abbrev pub AreReady : CopySettings → Type 0
AreReady settings = IsReady settings.settings × IsOk (reference_of settings.target.reference)
