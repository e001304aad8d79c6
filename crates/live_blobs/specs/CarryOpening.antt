-- The client of the target.
use Rattle.std.specs.Prelude.{◌≡◌, ℕ, nat_lt, Ok, if◌then◌else◌}
use Rattle.oci_auth.specs.AuthState.{fresh, stored}
use Rattle.oci_auth.specs.declared.auth_state.AuthState.{AuthState}
use Rattle.oci_engine.specs.Clients.{default_config, settings_of}
use Rattle.oci_engine.specs.Kept.{auth_state_of}
use Rattle.oci_names.specs.Reference.{reference_of, resolved_registry}
use Rattle.oci_names.specs.declared.reference.Reference.{Reference}
use Rattle.engine_terms.specs.Contexts.{Context, within}
use Rattle.engine_terms.specs.declared.settings.Settings.{Settings}
use Rattle.live_blobs.specs.declared.carry_opening.Opened.{Opened}
use Rattle.live_blobs.specs.declared.carry_settings.CarrySettings.{CarrySettings}
use Rattle.live_pull.specs.declared.target.TargetSettings.{TargetSettings}

-- The greatest number of bytes that are sent, and that a response may have: the blob's size, and at least so many that
-- a response with a token can be read.
abbrev pub limit_of : ℕ → ℕ
limit_of size = if nat_lt size 1048576 then 1048576 else size

-- the settings of the target's client: its protocol, the limit, and otherwise the default
abbrev pub target_settings : CarrySettings → Settings
target_settings settings = record (settings_of default_config) {
  protocol = settings.target.protocol;
  max_body_bytes = limit_of settings.size;
}

abbrev pub target_context : CarrySettings → Context
target_context settings = within (target_settings settings) settings.moment

-- only the credentials of the target are stored, for its registry
abbrev pub target_state : TargetSettings → Reference → AuthState
target_state target into = stored (fresh 60) (resolved_registry into) target.auth

-- a new client of the target
pub record Opens (written : CarrySettings) (o : Opened) : Type 0 where
  pub into : reference_of written.target.reference ≡ Ok o.into
  pub settings : o.client.settings ≡ target_settings written
  pub moment : o.moment ≡ written.moment
  pub state : auth_state_of o.client ≡ target_state written.target o.into
