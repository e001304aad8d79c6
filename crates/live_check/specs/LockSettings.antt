-- What a check of a lock reads.
use Rattle.std.specs.Prelude.{List, [], ◌∷◌, Option, Some, codes}
use Rattle.serde_json.specs.Data.{Data}
use Rattle.json_tables.specs.Reading.{◌>>=◌, text_of}
use Rattle.json_tables.specs.Objects.{only}
use Rattle.json_tables.specs.Member.{required}
use Rattle.live_host.specs.Names.{frame_named}
use Rattle.live_pull.specs.Settings.{documents_of}
use Rattle.live_check.specs.declared.lock_settings.LockSettings.{LockSettings}

-- the frame `lockcheck`: the text of a lock file, and the frame `documents` that it is checked under
unfoldable pub lock_settings_of : Data → Option LockSettings
lock_settings_of d = do
  known ← only (codes "frame" ∷ codes "lock" ∷ codes "settings" ∷ []) d
  name ← frame_named (codes "lockcheck") d
  lock ← required text_of (codes "lock") d
  settings ← required documents_of (codes "settings") d
  Some (record { lock = lock; settings = settings })
