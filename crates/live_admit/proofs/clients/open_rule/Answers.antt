use Rattle.live_admit.proofs.ClientStates.{new_stores, new_within}
use Rattle.live_admit.proofs.clients.open_rule.Goals as goal

pub returns : goal.returns
returns c = record {
  images = c.in_ok-images.ensures;
  settings = c.in_ok-settings.ensures;
  client = c.in_ok-client.ensures.client;
  log_keys = c.in_ok-client.ensures.log_keys;
  run = tt;
  backed = tt;
  bounds = new_within;
  credentials = new_stores _;
}
