-- The search and the pull of a live pull, and the frames that carry their requests.
use Rattle.std.specs.Prelude.{◌≡◌, ℕ, false, List, [], Option, Some, Result, Ok, Err}
use Rattle.oci_names.specs.declared.reference.Reference.{Reference}
use Rattle.oci_transport.specs.declared.message.Exchange.{Exchange}
use Rattle.oci_protocol.specs.Proto.{Proto}
use Rattle.oci_protocol.specs.Runs.{Runs}
use Rattle.engine_terms.specs.Contexts.{Context, within}
use Rattle.engine_terms.specs.declared.settings.Settings.{Settings}
use Rattle.registry_calls.specs.Clients.{Kept, Row}
use Rattle.registry_calls.specs.Error.{is_memory as of_memory}
use Rattle.registry_calls.specs.declared.error.SigstoreError.{SigstoreError}
use Rattle.cosign_layers.specs.Satisfying.{PolicyContext, policy_context}
use Rattle.cosign_parts.specs.Trust.{Trust, trust}
use Rattle.cosign_parts.specs.declared.layer.SignatureLayer.{SignatureLayer}
use Rattle.cosign_layers.specs.declared.policy.PullPolicy.{PullPolicy}
use Rattle.cosign_chain.specs.declared.image.VerifiedImage.{VerifiedImage}
use Rattle.cosign_rows.specs.Search.{searched}
use Rattle.cosign_rows.specs.Verified.{Whole, verified}
use Rattle.cosign_rows.specs.declared.found.TrustedLayers.{TrustedLayers}
use Rattle.live_link.specs.State.{Held}
use Rattle.live_link.specs.declared.stage.Breach.{Breach}
use Rattle.live_host.specs.Answers.{valid_by, vouched_by}
use Rattle.live_host.specs.Everyone.{everyone}
use Rattle.live_host.specs.Wire.{Wire}
use Rattle.live_host.specs.declared.answers.Answers.{Answers}
use Rattle.recorded_case.specs.Policy.{constraints_by}
use Rattle.cosign_client.specs.Clients.{settings_by}
use Rattle.live_pull.specs.declared.settings.LiveSettings.{LiveSettings}

-- the settings of the client
abbrev pub client_settings : LiveSettings → Settings
client_settings settings = settings_by settings.protocol settings.limit settings.platform

abbrev pub context_of : LiveSettings → Context
context_of settings = within (client_settings settings) settings.moment

-- the policy; it has no box of a caller
abbrev pub policy_of : LiveSettings → PullPolicy ⊥ (λ v. ⊥)
policy_of settings = record { keys = settings.keys; constraints = constraints_by settings.constraints }

-- the trust that the host's answers establish
abbrev pub trust_of : LiveSettings → Answers → Trust
trust_of settings answers = trust (valid_by answers) (vouched_by answers) settings.log_keys

abbrev pub meaning_of : LiveSettings → Answers → PolicyContext ⊥ (λ v. ⊥)
meaning_of settings answers = policy_context (policy_of settings) (λ box layer. false) (trust_of settings answers)

-- the search for all layers that may satisfy the policy, whatever the signatures
abbrev pub search_row : LiveSettings → Reference → Row TrustedLayers
search_row settings image = searched (everyone settings.log_keys) (context_of settings) image settings.auth

-- the pull under the host's answers
abbrev pub pull_row : LiveSettings → Answers → Reference → Whole VerifiedImage
pull_row settings answers image =
    verified (meaning_of settings answers) (context_of settings) image settings.auth settings.accepted

-- If the streams expose their bytes, what was sent and received are the frames of these exchanges.
abbrev pub Carries : List Exchange → Wire → Wire → Type 0
Carries c old new = (taken left : List ℕ) → old.sink.taken ≡ Some taken → old.source.left ≡ Some left
    → (breach : Option Breach) × ∥ Held taken left new.sink new.source breach c ∥₁

-- a complete run of this row, by the frames that were sent and received
pub record Transfer {A : Type 0} (row : Proto Kept A) (old new : Wire) (k l : Kept) (a : A) : Type 0 where
  pub conversation : List Exchange
  pub faults : ℕ
  pub runs : Runs row k 0 conversation faults l a
  pub carried : Carries conversation old new

-- the layers that a search found, none if it was refused
abbrev pub collected_of : Result TrustedLayers SigstoreError → List SignatureLayer
collected_of (Ok found) = found.collected
collected_of (Err e) = []

-- the search did not run out of memory
abbrev pub IsWhole : Result TrustedLayers SigstoreError → Type 0
IsWhole (Ok found) = Unit {0}
IsWhole (Err e) = of_memory e ≡ false

-- these layers were found
pub record Collects (row : Row TrustedLayers) (old new : Wire) (k l : Kept) (layers : List SignatureLayer)
    : Type 0 where
  pub answer : Result TrustedLayers SigstoreError
  pub transfer : Transfer row old new k l answer
  pub whole : IsWhole answer
  pub are : layers ≡ collected_of answer
