-- The settings and the initial state of a client.
use Rattle.std.specs.Prelude.{false, None, codes}
use Rattle.engine_terms.specs.declared.settings.ClientProtocol.TheVariants.{Https}
use Rattle.engine_terms.specs.declared.settings.Settings.{Settings}
use Rattle.oci_engine.specs.declared.config.ClientConfig.{ClientConfig}

abbrev pub settings_of : ClientConfig → Settings
settings_of config = record {
  protocol = config.protocol;
  user_agent = config.user_agent;
  max_body_bytes = config.max_body_bytes;
  use_monolithic_push = config.use_monolithic_push;
  platform_resolver = config.platform_resolver;
}

-- the default configuration of a client
abbrev pub default_config : ClientConfig
default_config = record {
  protocol = Https;
  use_monolithic_push = false;
  platform_resolver = None;
  max_concurrent_upload = 16;
  max_concurrent_download = 16;
  default_token_expiration_secs = 60;
  user_agent = codes "oci-client/0.18.0";
  max_body_bytes = 4294967295;
}
