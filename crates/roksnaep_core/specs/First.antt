-- The first frame that a host sends.
use Rattle.std.specs.Prelude.{List, [], ◌∷◌, Option, None, option_map, bytes_eq, codes, ℕ, if◌then◌else◌}
use Rattle.serde_json.specs.Data.{Data}
use Rattle.json_tables.specs.Paths.{text_at}
use Rattle.json_tables.specs.Reading.{◌>>=◌}
use Rattle.live_admit.specs.Settings.{admit_of}
use Rattle.live_blobs.specs.Settings.{blobs_of}
use Rattle.live_blobs.specs.CarrySettings.{carry_of}
use Rattle.live_check.specs.Settings.{check_of}
use Rattle.live_copy.specs.Settings.{copy_of}
use Rattle.live_check.specs.LockSettings.{lock_settings_of}
use Rattle.live_pull.specs.Settings.{IsReady, documents_of, settings_of}
use Rattle.live_blobs.specs.Settings.{AreReady as AreBlobsReady}
use Rattle.live_blobs.specs.CarrySettings.{AreReady as IsCarryReady}
use Rattle.live_copy.specs.Settings.{AreReady as IsCopyReady}
use Rattle.roksnaep_core.specs.declared.first.FirstFrame.{FirstFrame}
use Rattle.roksnaep_core.specs.declared.first.FirstFrame.TheVariants as first

-- a frame of this name
abbrev pub first_named : List ℕ → Data → Option FirstFrame
first_named name d =
    if bytes_eq name (codes "settings") then option_map first.Image (settings_of d)
    else (if bytes_eq name (codes "documents") then option_map first.Documents (documents_of d)
    else (if bytes_eq name (codes "lockcheck") then option_map first.Lock (lock_settings_of d)
    else (if bytes_eq name (codes "blobs") then option_map first.Blobs (blobs_of d)
    else (if bytes_eq name (codes "copy") then option_map first.Copy (copy_of d)
    else (if bytes_eq name (codes "carry") then option_map first.Carry (carry_of d)
    else (if bytes_eq name (codes "check") then option_map first.Check (check_of d)
    else (if bytes_eq name (codes "admit") then option_map first.Admit (admit_of d)
    else None)))))))

unfoldable pub first_of : Data → Option FirstFrame
first_of d = text_at (codes "frame" ∷ []) d >>= λ name. first_named name d

-- each requested reference parses
abbrev pub IsFirstReady : FirstFrame → Type 0
IsFirstReady (first.Image settings) = IsReady settings
IsFirstReady (first.Documents settings) = IsReady settings
IsFirstReady (first.Lock settings) = Unit {0}
IsFirstReady (first.Blobs settings) = AreBlobsReady settings
IsFirstReady (first.Copy settings) = IsCopyReady settings
IsFirstReady (first.Carry settings) = IsCarryReady settings
IsFirstReady (first.Check settings) = Unit {0}
IsFirstReady (first.Admit settings) = Unit {0}
