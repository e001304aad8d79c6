-- A builder's contents, and the client that it builds.
use Rattle.std.specs.Prelude.{ℕ, Bool, true, false, List, if◌then◌else◌, Option, Some, None, unwrap_or}
use Rattle.std.specs.FinMap.{FinMap, empty, entries}
use Rattle.json_values.specs.Places.{by_bytes}
use Rattle.registry_calls.specs.Clients.{Client as Shown}
use Rattle.sig_registry.specs.Config.{oci_config}
use Rattle.sig_registry.specs.States.{fresh_state}
use Rattle.sig_registry.specs.declared.config.ClientConfig.{ClientConfig}
use Rattle.cosign_parts.specs.Items.{has_no_item}
use Rattle.cosign_client.specs.declared.builder.ClientBuilder.{ClientBuilder}

abbrev pub config_of : ClientBuilder → ClientConfig
config_of b = b.oci_client_config

-- whether the client will cache
abbrev pub caches : ClientBuilder → Bool
caches b = b.enable_registry_caching

-- the keys of transparency logs by their ids
abbrev pub Keys : Type 0
Keys = FinMap by_bytes (List ℕ)

abbrev pub keys_of : ClientBuilder → Keys
keys_of b = unwrap_or b.rekor_pub_keys empty

-- the given keys, if there are any
abbrev pub keys_or : Keys → Keys → Keys
keys_or given kept = if has_no_item (entries given) then kept else given

-- the new client of a configuration
abbrev pub fresh_client : ClientConfig → Bool → Shown
fresh_client config caching = fresh_state (oci_config config) caching
