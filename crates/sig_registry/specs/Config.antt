-- The configuration of a client.
use Rattle.std.specs.Prelude.{None}
use Rattle.engine_terms.specs.declared.settings.ClientProtocol.{ClientProtocol as Protocol}
use Rattle.engine_terms.specs.declared.settings.ClientProtocol.TheVariants as engine
use Rattle.oci_engine.specs.Clients as Engine
use Rattle.oci_engine.specs.declared.config.ClientConfig.{ClientConfig as OciConfig}
use Rattle.sig_registry.specs.declared.config.ClientConfig.{ClientConfig}
use Rattle.sig_registry.specs.declared.config.ClientProtocol.{ClientProtocol}
use Rattle.sig_registry.specs.declared.config.ClientProtocol.TheVariants.{Http, Https, HttpsExcept}

abbrev pub oci_protocol : ClientProtocol → Protocol
oci_protocol Http = engine.Http
oci_protocol Https = engine.Https
oci_protocol (HttpsExcept registries) = engine.HttpsExcept registries

abbrev pub default_config : ClientConfig
default_config = record { protocol = Https; platform_resolver = None; max_body_bytes = 4294967295 }

-- the other members have their defaults
abbrev pub oci_config : ClientConfig → OciConfig
oci_config config = record Engine.default_config {
  protocol = oci_protocol config.protocol;
  platform_resolver = config.platform_resolver;
  max_body_bytes = config.max_body_bytes;
}
