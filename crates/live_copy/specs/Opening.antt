-- The client of the target, and its arguments.
use Rattle.std.specs.Prelude.{◌≡◌, ◌&&◌, Bool, Ok, not}
use Rattle.oci_auth.specs.AuthState.{fresh}
use Rattle.oci_engine.specs.Clients.{default_config, settings_of}
use Rattle.oci_engine.specs.Kept.{auth_state_of}
use Rattle.oci_names.specs.Reference.{reference_of}
use Rattle.engine_terms.specs.Contexts.{Context, within}
use Rattle.engine_terms.specs.declared.settings.Settings.{Settings}
use Rattle.registry_cache.specs.Auths.{registry_auth}
use Rattle.registry_calls.specs.Direct.{reference_in}
use Rattle.live_copy.specs.declared.opening.Opened.{Opened}
use Rattle.live_copy.specs.declared.settings.CopySettings.{CopySettings}

-- the settings of the target's client: the protocol of the target, and otherwise the default
abbrev pub target_settings : CopySettings → Settings
target_settings settings = record (settings_of default_config) { protocol = settings.target.protocol }

abbrev pub target_context : CopySettings → Context
target_context settings = within (target_settings settings) settings.settings.moment

-- whether the target's tags are queried: one is pushed, and may not be replaced
abbrev pub asks_tags : CopySettings → Bool
asks_tags settings = settings.tag && not settings.replace

-- a new client of the target, by these settings
pub record Opens (settings : CopySettings) (o : Opened) : Type 0 where
  pub image : reference_of settings.target.reference ≡ Ok (reference_in o.to.image)
  pub auth : registry_auth o.to.auth ≡ settings.target.auth
  pub tag : o.to.tag ≡ settings.tag
  pub asks : o.asks ≡ asks_tags settings
  pub moment : o.moment ≡ settings.settings.moment
  pub client : o.client.settings ≡ target_settings settings
  pub state : auth_state_of o.client ≡ fresh 60
