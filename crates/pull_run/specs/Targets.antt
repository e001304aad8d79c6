-- A target with the client that was built for it.
use Rattle.std.specs.Prelude.{◌≡◌, ℕ, None, Ok}
use Rattle.oci_names.specs.Reference.{reference_of}
use Rattle.oci_names.specs.declared.reference.Reference.{Reference}
use Rattle.oci_auth.specs.AuthState.{fresh}
use Rattle.oci_auth.specs.declared.auth.RegistryAuth.{RegistryAuth}
use Rattle.oci_auth.specs.declared.auth_state.AuthState.{AuthState}
use Rattle.oci_engine.specs.Kept.{auth_state_of}
use Rattle.oci_transport.specs.Link.{Answering}
use Rattle.oci_transport.specs.Recorded.{answering}
use Rattle.engine_terms.specs.Contexts.{Context, within}
use Rattle.engine_terms.specs.declared.settings.Settings.{Settings}
use Rattle.registry_cache.specs.Auths.{registry_auth}
use Rattle.registry_calls.specs.Direct.{reference_in}
use Rattle.cosign_client.specs.Clients.{settings_by}
use Rattle.pull_run.specs.declared.mirror_input.Target.{Target}
use Rattle.pull_run.specs.declared.target.OpenedTarget.{OpenedTarget}

-- the settings of a client with the target's protocol, all others default
abbrev pub target_settings : Target → Settings
target_settings target = settings_by target.protocol None None

-- the client is new and has the target's protocol, and all other parts are the target's
pub record OpensTarget (target : Target) (o : OpenedTarget) : Type 0 where
  pub settings : o.client.settings ≡ target_settings target
  pub kept : auth_state_of o.client ≡ fresh 60
  pub image : reference_of target.reference ≡ Ok (reference_in o.image)
  pub auth : registry_auth o.auth ≡ target.auth
  pub answers : o.answers ≡ target.answers

-- what the pushes depend on: how the target answers, the client's settings with the moment, the target's reference and
-- credentials, and what the client stored before
pub record Side : Type 0 where
  pub answers : Answering
  pub context : Context
  pub image : Reference
  pub auth : RegistryAuth
  pub kept : AuthState

-- for a target, with a new client
abbrev pub side_for : Target → Reference → ℕ → Side
side_for target image moment = record {
  answers = answering target.answers;
  context = within (target_settings target) moment;
  image = image;
  auth = target.auth;
  kept = fresh 60;
}

-- for one that was opened
abbrev pub side_of : OpenedTarget → ℕ → Side
side_of o moment = record {
  answers = answering o.answers;
  context = within o.client.settings moment;
  image = reference_in o.image;
  auth = registry_auth o.auth;
  kept = auth_state_of o.client;
}
