-- A case with the client that was built for it, and the terms of its pulls.
use Rattle.std.specs.Prelude.{◌≡◌, Ok}
use Rattle.oci_names.specs.Reference.{reference_of}
use Rattle.registry_calls.specs.Direct.{reference_in}
use Rattle.registry_cache.specs.Auths.{registry_auth}
use Rattle.cosign_client.specs.Clients.{fresh}
use Rattle.cosign_client.specs.State.{client_state}
use Rattle.recorded_case.specs.Policy.{constraints_by}
use Rattle.recorded_case.specs.declared.case.Case.{Case}
use Rattle.pulled_cases.specs.Pulls.{settings_of}
use Rattle.pulled_cases.specs.declared.opening.Opened.{Opened}

-- the client is new and has the case's settings, and all other parts are the case's
pub record Opens {V : Type 0} {H : V → Type 0} (case : Case) (o : Opened V H) : Type 0 where
  pub client : client_state o.client ≡ record { settings = settings_of case; kept = fresh case.caching }
  pub log_keys : o.client.rekor_pub_keys ≡ case.log_keys
  pub image : reference_of case.reference ≡ Ok (reference_in o.terms.image)
  pub auth : registry_auth o.terms.auth ≡ case.auth
  pub accepted : o.terms.accepted ≡ case.accepted
  pub policy : o.terms.policy ≡ record { keys = case.keys; constraints = constraints_by case.constraints }
  pub verifier : o.terms.verifier ≡ record { rows = case.signatures }
  pub judge : o.terms.judge ≡ case.vouched
  pub registry : o.registry ≡ case.registry
  pub moments : o.moments ≡ case.moments

-- P holds for each case that is opened so
abbrev pub ForCase : {V : Type 0} {H : V → Type 0} → Opened V H → (Case → Type 0) → Type 0
ForCase o P = (case : Case) → Opens case o → P case
