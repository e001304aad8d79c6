-- The state of a client: its settings, what it keeps between its calls, and whom it trusts.
use Rattle.registry_calls.specs.Clients.{Client as Shown}
use Rattle.sig_registry.specs.States.{state_of}
use Rattle.cosign_parts.specs.Trust.{Trust, Valid, Vouching, trust}
use Rattle.cosign_client.specs.declared.client.Client.{Client}

abbrev pub client_state : Client → Shown
client_state c = state_of c.registry_client

-- trust in the logs whose keys the client has, for these meanings of verifiers and judges
abbrev pub trusts : Valid → Vouching → Client → Trust
trusts valid vouched c = trust valid vouched c.rekor_pub_keys
