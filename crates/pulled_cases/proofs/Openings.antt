-- The client of a case is new, and the terms of its pulls are the case's.
use Rattle.std.proofs.Common.{◌≡◌, List, Ok, refl, ap, ◌∙◌}
use Rattle.oci_engine.specs.Clients.{default_config}
use Rattle.oci_engine.specs.declared.config.ClientConfig.{ClientConfig}
use Rattle.oci_names.specs.Reference.{reference_of}
use Rattle.registry_calls.specs.Direct.{reference_in}
use Rattle.registry_cache.specs.Auths.{registry_auth}
use Rattle.sig_registry.specs.States.{fresh_state}
use Rattle.cosign_layers.specs.declared.constraint.Constraint.{Constraint}
use Rattle.cosign_client.specs.Clients.{config_by}
use Rattle.cosign_client.specs.State.{client_state}
use Rattle.cosign_client.specs.declared.asked.Asked.{Asked}
use Rattle.cosign_client.specs.declared.client.Client.{Client}
use Rattle.cosign_client.specs.declared.written_client.WrittenClient.{WrittenClient}
use Rattle.recorded_case.specs.Policy.{constraints_by}
use Rattle.recorded_case.specs.declared.case.Case.{Case}
use Rattle.pulled_cases.specs.Opening.{Opens}
use Rattle.pulled_cases.specs.declared.opening.Opened.{Opened}

-- the client settings of a case
abbrev client_in : Case → WrittenClient
client_in case = record {
  protocol = case.protocol;
  limit = case.limit;
  platform = case.platform;
  caching = case.caching;
  log_keys = case.log_keys;
}

-- a case with this client, and terms of these arguments and this policy
abbrev with_client : {V : Type 0} {H : V → Type 0} → Case → Asked → Client → List (Constraint V H) → Opened V H
with_client case asked client constraints = record {
  client = client;
  terms = record {
    image = asked.image;
    auth = asked.auth;
    accepted = case.accepted;
    policy = record { keys = case.keys; constraints = constraints };
    verifier = record { rows = case.signatures };
    judge = case.vouched;
  };
  registry = case.registry;
  moments = case.moments;
}

pub opens : {V : Type 0} {H : V → Type 0} (case : Case) (asked : Asked) (client : Client) (constraints : List (Constraint V H))
    → asked.usual ≡ default_config → registry_auth asked.auth ≡ case.auth → reference_of case.reference ≡ Ok (reference_in asked.image) → constraints ≡ constraints_by case.constraints
    → client_state client ≡ fresh_state (config_by asked.usual (client_in case)) case.caching → client.rekor_pub_keys ≡ case.log_keys
    → Opens case (with_client case asked client constraints)
opens case asked client constraints usual auth reads written state log_keys = record {
  client = state ∙ ap (λ (u : ClientConfig). fresh_state (config_by u (client_in case)) case.caching) usual;
  log_keys = log_keys;
  image = reads;
  auth = auth;
  accepted = refl;
  policy = rw written refl;
  verifier = refl;
  judge = refl;
  registry = refl;
  moments = refl;
}
