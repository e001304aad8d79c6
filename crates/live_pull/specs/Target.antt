-- The target of a copy.
use Rattle.std.specs.Prelude.{ℕ, List, [], ◌∷◌, Option, Some, codes}
use Rattle.serde_json.specs.Data.{Data}
use Rattle.json_tables.specs.Reading.{◌>>=◌}
use Rattle.json_tables.specs.Objects.{only}
use Rattle.json_tables.specs.Member.{required, at_name}
use Rattle.oci_auth.specs.declared.auth.RegistryAuth.TheVariants.{Anonymous}
use Rattle.engine_terms.specs.declared.settings.ClientProtocol.TheVariants.{Https}
use Rattle.recorded_case.specs.Auth.{auth_of}
use Rattle.recorded_case.specs.Case.{reference_text_of, protocol_of}
use Rattle.recorded_case.specs.Members.{unless_absent}
use Rattle.live_pull.specs.declared.target.TargetSettings.{TargetSettings}

-- the members of a target
abbrev pub target_members : List (List ℕ)
target_members = codes "reference" ∷ codes "protocol" ∷ codes "auth" ∷ []

-- A target, with no other members. They mean the same as those of a recorded case.
unfoldable pub target_of : Data → Option TargetSettings
target_of d = do
  known ← only target_members d
  reference ← required reference_text_of (codes "reference") d
  protocol ← at_name (unless_absent Https protocol_of) (codes "protocol") d
  auth ← at_name (unless_absent Anonymous auth_of) (codes "auth") d
  Some (record { reference = reference; protocol = protocol; auth = auth })
