-- The first frame, and what an image is decided by.
use Rattle.std.specs.Prelude.{ℕ, List, [], ◌∷◌, Option, Some, codes}
use Rattle.serde_json.specs.Data.{Data}
use Rattle.json_tables.specs.Reading.{◌>>=◌, u64_of, list_of}
use Rattle.json_tables.specs.Objects.{only}
use Rattle.json_tables.specs.Member.{required}
use Rattle.live_admit.specs.Rules.{rule_of}
use Rattle.live_admit.specs.declared.rule.Rule.{Rule}
use Rattle.live_host.specs.Names.{frame_named}
use Rattle.live_pull.specs.Settings.{settings_of}
use Rattle.live_pull.specs.declared.settings.LiveSettings.{LiveSettings}
use Rattle.live_admit.specs.declared.settings.AdmitSettings.{AdmitSettings}

abbrev pub Rules : Type 0
Rules = List (Rule LiveSettings)

abbrev pub rules_of : Data → Option Rules
rules_of = list_of (rule_of settings_of)

-- The frame `admit`, with no other members. Of a rule's settings, the reference, the moment and `blobs` play no role.
unfoldable pub admit_of : Data → Option AdmitSettings
admit_of d = do
  known ← only (codes "frame" ∷ codes "reviews" ∷ codes "rules" ∷ []) d
  name ← frame_named (codes "admit") d
  reviews ← required u64_of (codes "reviews") d
  rules ← required rules_of (codes "rules") d
  Some (record { reviews = reviews; rules = rules })

-- the settings of a rule, for this image and this moment: the policy and the credentials are the rule's
abbrev pub settings_for : LiveSettings → List ℕ → ℕ → LiveSettings
settings_for settings image moment = record settings { reference = image; moment = moment }
