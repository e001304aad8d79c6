-- The terms of a decision, from settings.
use Rattle.std.specs.Prelude.{◌≡◌, Ok}
use Rattle.oci_names.specs.Reference.{reference_of}
use Rattle.registry_cache.specs.Auths.{registry_auth}
use Rattle.registry_calls.specs.Direct.{reference_in}
use Rattle.recorded_case.specs.Policy.{constraints_by}
use Rattle.live_pull.specs.declared.pulls.Terms.{Terms}
use Rattle.live_pull.specs.declared.settings.LiveSettings.{LiveSettings}

-- the image, the credentials, the moment and the policy are those of the settings
pub record AreTerms {V : Type 0} {H : V → Type 0} (settings : LiveSettings) (terms : Terms V H) : Type 0 where
  pub image : reference_of settings.reference ≡ Ok (reference_in terms.image)
  pub auth : registry_auth terms.auth ≡ settings.auth
  pub accepted : terms.accepted ≡ settings.accepted
  pub moment : terms.moment ≡ settings.moment
  pub keys : terms.policy.keys ≡ settings.keys
  pub constraints : terms.policy.constraints ≡ constraints_by settings.constraints
