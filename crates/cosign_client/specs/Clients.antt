-- The client of a program's pulls, given by a recorded case or by a host's settings.
use Rattle.std.specs.Prelude.{ℕ, Bool, false, Option, Some, None, codes, unwrap_or}
use Rattle.oci_auth.specs.AuthState.{fresh as nothing_kept}
use Rattle.oci_engine.specs.declared.config.ClientConfig.{ClientConfig}
use Rattle.oci_manifests.specs.declared.promise.ResolverPromise.{ResolverPromise}
use Rattle.engine_terms.specs.declared.settings.ClientProtocol.{ClientProtocol}
use Rattle.engine_terms.specs.declared.settings.Settings.{Settings}
use Rattle.registry_calls.specs.Clients.{Kept, no_answers}
use Rattle.cosign_client.specs.declared.written_client.WrittenClient.{WrittenClient}

-- the limit of a body that is held, or the default
abbrev pub limit_by : Option ℕ → ℕ
limit_by limit = unwrap_or limit 4294967295

-- the settings of a client with this protocol, limit and platform resolver, all others default
abbrev pub settings_by : ClientProtocol → Option ℕ → Option ResolverPromise → Settings
settings_by protocol limit platform = record {
  protocol = protocol;
  user_agent = codes "oci-client/0.18.0";
  max_body_bytes = limit_by limit;
  use_monolithic_push = false;
  platform_resolver = platform;
}

-- a new client, with or without a cache
abbrev pub fresh : Bool → Kept
fresh caching = (nothing_kept 60, no_answers caching)

-- a configuration, changed by what is written
abbrev pub config_by : ClientConfig → WrittenClient → ClientConfig
config_by usual written = record usual {
  protocol = written.protocol;
  platform_resolver = written.platform;
  max_body_bytes = unwrap_or written.limit usual.max_body_bytes;
}
