-- Settings with the client that was built for them.
use Rattle.std.specs.Prelude.{◌≡◌, true}
use Rattle.sig_registry.specs.States.{fresh_state}
use Rattle.cosign_client.specs.State.{client_state}
use Rattle.cosign_client.specs.Clients.{config_by}
use Rattle.cosign_client.specs.declared.asked.Asked.{Asked}
use Rattle.cosign_client.specs.declared.written_client.WrittenClient.{WrittenClient}
use Rattle.live_pull.specs.declared.opening.Opened.{Opened}
use Rattle.live_pull.specs.declared.settings.LiveSettings.{LiveSettings}

-- the client's part of the settings
abbrev pub client_in : LiveSettings → WrittenClient
client_in settings = record {
  protocol = settings.protocol;
  limit = settings.limit;
  platform = settings.platform;
  caching = true;
  log_keys = settings.log_keys;
}

-- the client is new, and all other parts are from `asked` and the settings
pub record Opens (asked : Asked) (settings : LiveSettings) (o : Opened) : Type 0 where
  pub client : client_state o.client ≡ fresh_state (config_by asked.usual (client_in settings)) true
  pub log_keys : o.client.rekor_pub_keys ≡ settings.log_keys
  pub moment : o.moment ≡ settings.moment
  pub image : o.image ≡ asked.image
  pub auth : o.auth ≡ asked.auth
  pub accepted : o.accepted ≡ settings.accepted
  pub keys : o.keys ≡ settings.keys
  pub blobs : o.blobs ≡ settings.blobs
