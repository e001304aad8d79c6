-- The registry that blobs are pulled from, and what a call begins with.
use Rattle.std.specs.Prelude.{◌≡◌, Ok}
use Rattle.oci_auth.specs.AuthState.{fresh, stored}
use Rattle.oci_auth.specs.declared.auth_state.AuthState.{AuthState}
use Rattle.oci_engine.specs.Clients.{default_config}
use Rattle.oci_names.specs.Reference.{reference_of, resolved_registry}
use Rattle.oci_names.specs.declared.reference.Reference.{Reference}
use Rattle.live_pull.specs.Pulls.{client_settings}
use Rattle.live_pull.specs.declared.settings.LiveSettings.{LiveSettings}
use Rattle.live_blobs.specs.declared.opening.Opened.{Opened}
use Rattle.live_blobs.specs.declared.opening.Started.{Started}

-- only the credentials of the settings are stored, for the image's registry
abbrev pub first_state : LiveSettings → Reference → AuthState
first_state settings image = stored (fresh 60) (resolved_registry image) settings.auth

-- what was allocated for a call by these settings
pub record Starts (settings : LiveSettings) (s : Started) : Type 0 where
  pub image : reference_of settings.reference ≡ Ok s.image
  pub state : s.state ≡ first_state settings s.image
  pub usual : s.usual ≡ default_config

-- a call by these settings
pub record Opens (written : LiveSettings) (o : Opened) : Type 0 where
  pub image : reference_of written.reference ≡ Ok o.image
  pub state : o.state ≡ first_state written o.image
  pub settings : o.settings ≡ client_settings written
  pub moment : o.moment ≡ written.moment
